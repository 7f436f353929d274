-- What was taken so far by the expressions of a function that were lifted.
use Rattle.std.specs.Prelude.{ℕ, ◌+◌, false, Option, Some, None, List, [], ◌∷◌, ◌++◌, length, map}
use denote.Bor.{Bor}
use Rattle.lt_base.specs.declared.value.Value.TheVariants.{Bool as Truth}
use Rattle.lt_base.specs.declared.expression.Expr.{Expr}
use Rattle.lt_base.specs.Expression.{Expression, literal, Arguments, shape}
use Rattle.lt_base.specs.declared.function.Decl.{Decl}
use Rattle.lt_base.specs.Meaning.{ClockPairs, clock_of}
use Rattle.lt_meaning.specs.declared.lifter.Lifter.{Lifter}
use Rattle.lt_meaning.specs.declared.lifter.Waiting.{Waiting}
use Rattle.lt_meaning.specs.Form.{NodeForm}
use Rattle.lt_meaning.specs.Plan.{StepForm, step_form, DelayForm}
use Rattle.lt_meaning.specs.Lift.{call_count, call_counts, form_of, forms_of, Wait, delays_in, arguments_delays, whole, step_of, calls_in, arguments_calls}

-- the number of cells, the steps, and the right sides that wait
pub record Taken : Type 0 where
  pub cells : ℕ
  pub steps : List StepForm
  pub waits : List Wait

-- a right side; none is `false`
abbrev pub right_form : Option (Bor Expr) → Expression
right_form None = literal (Truth false)
right_form (Some e) = shape e.now

abbrev pub wait_form : Waiting → Wait
wait_form w = record { clock = w.clock; first = w.first; right = right_form w.right }

abbrev pub taken : Lifter → Taken
taken l = record { cells = length l.cells.items; steps = map step_form l.steps.items; waits = map wait_form l.waiting.items }

-- an expression at a clock was lifted
abbrev pub taken_after : Taken → Expression → ClockPairs → Taken
taken_after x e ck = record {
  cells = x.cells + call_count e;
  steps = x.steps ++ map step_of (calls_in (length x.waits) x.cells e ck);
  waits = x.waits ++ delays_in e ck;
}

-- so were arguments
abbrev pub after_arguments : Taken → Arguments → ClockPairs → Taken
after_arguments x args ck = record {
  cells = x.cells + call_counts args;
  steps = x.steps ++ map step_of (arguments_calls (length x.waits) x.cells args ck);
  waits = x.waits ++ arguments_delays args ck;
}

-- one more right side waits
abbrev pub with_wait : Taken → Wait → Taken
with_wait x w = record { cells = x.cells; steps = x.steps; waits = x.waits ++ w ∷ [] }

-- one more step, with a cell of its own
abbrev pub with_call : Taken → StepForm → Taken
with_call x t = record { cells = x.cells + 1; steps = x.steps ++ t ∷ []; waits = x.waits }

-- one more step
abbrev pub with_step : Taken → StepForm → Taken
with_step x t = record { cells = x.cells; steps = x.steps ++ t ∷ []; waits = x.waits }

-- an expression over cells, where this much is taken
abbrev pub form_in : Taken → Expression → NodeForm
form_in x e = form_of (length x.waits) x.cells e

-- so arguments
abbrev pub forms_in : Taken → Arguments → List NodeForm
forms_in x args = forms_of (length x.waits) x.cells args

-- the delay of a right side that waits
abbrev pub delay_in : Taken → Wait → DelayForm
delay_in x w = record { clock = w.clock; first = w.first; right = form_in x w.right }

-- the step of an equation over these declarations
abbrev pub step_in : Taken → List Decl → ℕ × Expression → StepForm
step_in x ds q = step_of (record { cell = q.0; clock = clock_of ds q.0; delays_before = length x.waits; cells_before = x.cells; source = whole q.1 })
