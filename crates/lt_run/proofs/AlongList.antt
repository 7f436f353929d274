-- What a loaded program shows along a list of events, from what its network came to.
use Rattle.std.proofs.Common.{◌≡◌, ℕ, List, length, Result, Ok, Err, sym, subst, refl}
use Rattle.std.specs.Prelude.{IsErrAnd}
use Rattle.lt_base.specs.declared.value.Cell.{Cell}
use Rattle.lt_base.specs.Program.{GoodProgram}
use Rattle.lt_base.specs.Inputs.{InputTable}
use Rattle.lt_arch.specs.declared.event.Event.{Event}
use Rattle.lt_arch.specs.declared.shape.Shape.{Shape}
use Rattle.lt_arch.specs.declared.timing.Timing.{Timing}
use Rattle.lt_place.specs.declared.layout.Layout.{Layout}
use Rattle.lt_sim.specs.Drawn.{drawn}
use Rattle.lt_arch.specs.declared.pace.Pace.{Pace}
use Rattle.lt_arch.specs.declared.pace.Pace.TheVariants.{Plain}
use Rattle.lt_io.proofs.Keeps.{promises_refl}
use Rattle.lt_io.specs.FabricState.{FabricState}
use Rattle.lt_io.specs.declared.fault.LinkErr.{LinkErr}
use Rattle.lt_io.specs.declared.fault.LinkErr.TheVariants.{Memory}
use Rattle.lt_answer.proofs.Stages.{opens_none}
use Rattle.lt_net.specs.declared.replayed.Replayed.{Replayed}
use Rattle.lt_net_drawn.specs.Listed.{HasReplayedList}
use Rattle.lt_front.specs.Checked.{CheckedText, IsChecked}
use Rattle.lt_load_fit.specs.Main.{main_in}
use Rattle.lt_load.specs.Plan.{LoadedPlan, IsLoaded}
use Rattle.lt_evaluate.specs.Main.{output_names}
use Rattle.lt_evaluate.specs.declared.outputs.Outputs.{Outputs}
use Rattle.lt_run.specs.declared.printed.Printed.{Printed}
use Rattle.lt_run.specs.Printed.{ShowsAt, IsReplayBy}
use Rattle.lt_run.specs.Drawn.{TakesList, HasRunList, HasPrintedList, plainly}
use Rattle.lt_run.proofs.Replays.{has_columns, shows_too}
use Rattle.lt_machine.specs.declared.machine.Machine.{Ghosts as Machines}

-- there is no memory to begin with
pub nothing_taken : {T : Type 0} (end : T → Type 0) (fabric : FabricState) (r : Result T LinkErr) → IsErrAnd r (λ e. e ≡ Memory) → TakesList end fabric fabric r
nothing_taken end fabric (Ok x) is = absurd is
nothing_taken end fabric (Err e) is =
    subst (λ (f : LinkErr). TakesList end fabric fabric (Err f)) (sym is)
    (record { comes_to = tt; cause = refl; sound = λ sound. refl; keeps = promises_refl fabric; opens = record { calls = opens_none fabric; done = tt } })

-- where a step fails, so does what goes on with it
pub fails_too : {T U : Type 0} (end : T → Type 0) (end' : U → Type 0) (fabric fabric' : FabricState) (e : LinkErr) (r : Result U LinkErr) → IsErrAnd r (λ f. f ≡ e) → TakesList end fabric fabric' (Err e) → TakesList end' fabric fabric' r
fails_too end end' fabric fabric' e (Ok x) is taken = absurd is
fails_too end end' fabric fabric' e (Err f) is taken =
    subst (λ (g : LinkErr). TakesList end' fabric fabric' (Err g)) (sym is) (record { comes_to = tt; cause = taken.cause; sound = taken.sound; keeps = taken.keeps; opens = record { calls = taken.opens.calls; done = tt } })

-- the outputs of names and cells
pub outputs_of_list : {M : Type 0} (k : LoadedPlan) (events : List Event) (fabric fabric' : FabricState) (printed : Printed M) (outputs : Outputs) → outputs.names ≡ printed.names → outputs.cells ≡ printed.cells →
    HasPrintedList k events fabric fabric' (Ok printed) → HasRunList k events fabric fabric' (Ok outputs)
outputs_of_list k events fabric fabric' printed outputs names cells taken = record {
  comes_to = record {
    horizon = printed.horizon;
    told =
        subst (λ (ns : List (List ℕ)). ShowsAt k.checked.program k.layout k.shape k.timing Plain k.inputs.rows fabric' events ns outputs.cells printed.horizon) (sym names)
        (subst (λ (cs : List (List Cell)). ShowsAt k.checked.program k.layout k.shape k.timing Plain k.inputs.rows fabric' events printed.names cs printed.horizon) (sym cells) taken.comes_to);
  };
  cause = taken.cause;
  sound = taken.sound;
  keeps = taken.keeps;
  opens = record { calls = taken.opens.calls; done = taken.opens.done };
}

module _ {M : Type 0} (mch : Machines M) (k : LoadedPlan) (events : List Event) (fabric fabric' : FabricState) where
  pub not_replayed_list : (e : LinkErr) (r : Result (Printed M) LinkErr) → IsErrAnd r (λ f. f ≡ e) → HasReplayedList mch k.layout k.shape k.timing k.inputs.rows events fabric fabric' (Err e) → HasPrintedList k events fabric fabric' r
  not_replayed_list e (Ok y) is replayed = absurd is
  not_replayed_list e (Err f) is replayed =
      subst (λ (g : LinkErr). HasPrintedList {M = M} k events fabric fabric' (Err g)) (sym is)
      (record { comes_to = tt; cause = replayed.cause; sound = replayed.sound; keeps = replayed.keeps; opens = record { calls = replayed.opens.calls; done = tt } })

  -- no memory was found for the names
  pub not_named_list : (x : Replayed M) → HasReplayedList mch k.layout k.shape k.timing k.inputs.rows events fabric fabric' (Ok x) → (r : Result (Printed M) LinkErr) → IsErrAnd r (λ e. e ≡ Memory) → HasPrintedList k events fabric fabric' r
  not_named_list x replayed (Ok y) is = absurd is
  not_named_list x replayed (Err e) is =
      subst (λ (f : LinkErr). HasPrintedList {M = M} k events fabric fabric' (Err f)) (sym is)
      (record { comes_to = tt; cause = replayed.cause; sound = replayed.sound; keeps = replayed.keeps; opens = record { calls = replayed.opens.calls; done = tt } })

module _ {M : Type 0} (mch : Machines M) (c : CheckedText) (l : Layout) (s : Shape) (t : Timing) (inputs : InputTable) (good : GoodProgram c.program) (checked : IsChecked c) (loaded : IsLoaded (plainly c l s t inputs))
    (events : List Event) (fabric fabric' : FabricState) (x : Replayed M) (replayed : HasReplayedList mch l s t inputs.rows events fabric fabric' (Ok x)) where
  by_pace : IsReplayBy mch Plain l s t inputs.rows fabric' events x
  by_pace = record { run = replayed.replays.run; steps = replayed.replays.steps }

  pub columns_of_list : length x.cells ≡ length (main_in c.program).outs
  columns_of_list = has_columns mch (plainly c l s t inputs) good checked loaded fabric' x (events, by_pace)

  pub named_list : (y : Printed M) → y.names ≡ output_names c.program → y.cells ≡ x.cells → y.horizon ≡ x.horizon → y.machines ≡ x.machines → HasPrintedList (plainly c l s t inputs) events fabric fabric' (Ok y)
  named_list y names cells horizon machines = record {
    comes_to = (shows_too mch (plainly c l s t inputs) good checked loaded fabric' x y names cells horizon machines events by_pace).shows;
    cause = replayed.cause;
    sound = replayed.sound;
    keeps = replayed.keeps;
    opens = record { calls = replayed.opens.calls; done = replayed.opens.done };
  }

-- a list that is drawn for a plan
abbrev pub list_for : (seed horizon : ℕ) → LoadedPlan → List Event
list_for seed horizon k = drawn k.shape k.timing (length k.inputs.rows) seed horizon

pub run_at : (k j : LoadedPlan) → k ≡ j → (seed horizon : ℕ) (fabric fabric' : FabricState) (r : Result Outputs LinkErr) → HasRunList k (list_for seed horizon k) fabric fabric' r → HasRunList j (list_for seed horizon j) fabric fabric' r
run_at k j is seed horizon fabric fabric' r run = subst (λ (q : LoadedPlan). HasRunList q (list_for seed horizon q) fabric fabric' r) is run

-- a plan without losses and leaders, as one that says so
pub loaded_plainly : (k : LoadedPlan) → k.pace ≡ Plain → IsLoaded k → IsLoaded (plainly k.checked k.layout k.shape k.timing k.inputs)
loaded_plainly k plain loaded = subst (λ (p : Pace). IsLoaded (record { checked = k.checked; layout = k.layout; shape = k.shape; timing = k.timing; inputs = k.inputs; pace = p })) plain loaded
