-- Plans without pointers.
use Rattle.std.specs.Prelude.{ℕ, Option, Some, None, List, map, slice_get, if◌then◌else◌}
use Rattle.lt_base.specs.declared.value.Value.{Value}
use Rattle.lt_base.specs.Meaning.{ClockPairs, Environment, present}
use Rattle.lt_meaning.specs.declared.plan.Plan.{Plan}
use Rattle.lt_meaning.specs.declared.plan.Step.{Step}
use Rattle.lt_meaning.specs.declared.plan.Action.{Action}
use Rattle.lt_meaning.specs.declared.plan.Action.TheVariants.{Set, Run}
use Rattle.lt_meaning.specs.declared.plan.Delay.{Delay}
use Rattle.lt_meaning.specs.Form.{NodeForm, node_form, value_in}

-- where a cell's value comes from: a node, or a call of a function with these arguments
pub data ActionForm : Type 0 where
  sets : NodeForm → ActionForm
  runs : ℕ → List NodeForm → ActionForm

pub record StepForm : Type 0 where
  pub cell : ℕ
  pub clock : ClockPairs
  pub action : ActionForm

pub record DelayForm : Type 0 where
  pub clock : ClockPairs
  pub first : Value
  pub right : NodeForm

abbrev pub action_form : Action → ActionForm
action_form (Set node) = sets (node_form node)
action_form (Run g args) = runs g (map node_form args.items)

abbrev pub step_form : Step → StepForm
step_form t = record { cell = t.cell; clock = t.clock; action = action_form t.action }

abbrev pub delay_form : Delay → DelayForm
delay_form d = record { clock = d.clock; first = d.first; right = node_form d.right }

-- what a delay keeps next: its right side's value where its clock is present, and else what it kept
abbrev pub next_kept : Environment → Environment → Delay → ℕ → Option Value
next_kept env old d j = if present env d.clock then value_in env old (node_form d.right) else old j

-- the number of inputs of a plan, if there is one
abbrev pub plan_inputs : Option Plan → ℕ
plan_inputs None = 0
plan_inputs (Some p) = p.inputs

-- of the function of this number
abbrev pub inputs_at : List Plan → ℕ → ℕ
inputs_at plans g = plan_inputs (slice_get plans g)
