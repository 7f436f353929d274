-- A run: what was loaded, and then its replay.
use Rattle.std.proofs.Common.{◌≡◌, ℕ, List, Option, Result, Ok, Err, refl, sym, subst, inl, inr}
use Rattle.std.specs.Prelude.{IfErr, IsErrAnd, IsTrue, length}
use Rattle.lt_base.specs.declared.memory.Or.{Or}
use Rattle.lt_base.specs.Or.{MapsFault}
use Rattle.lt_base.specs.declared.memory.Or.TheVariants.{Fault, Memory}
use Rattle.lt_base.specs.declared.value.Value.{Value}
use Rattle.lt_base.specs.declared.value.Cell.{Cell}
use Rattle.lt_base.specs.Inputs.{InputTable}
use Rattle.lt_base.specs.Program.{Function, WholeProgram}
use Rattle.lt_arch.specs.declared.shape.Shape.{Shape}
use Rattle.lt_arch.specs.declared.timing.Timing.{Timing}
use Rattle.lt_io.specs.FilesState.{FilesState}
use Rattle.lt_io.specs.FabricState.{FabricState, OpensOnce}
use Rattle.lt_place.specs.declared.layout.Layout.{Layout}
use Rattle.lt_arch.specs.declared.pace.Pace.{Pace}
use Rattle.lt_lead.specs.Paced.{IsShapeBy}
use Rattle.lt_answer.specs.World.{Blames, alone, Content, world}
use Rattle.lt_answer.specs.Answered.{Answered, AndThen}
use Rattle.lt_answer.proofs.Stages.{beside, goes_on, opens_none, renamed, runs_short, stops, widened}
use Rattle.lt_front.specs.Examined.{ExaminedText}
use Rattle.lt_schedule.specs.Errand.{schedule_errand}
use Rattle.lt_load_fit.specs.declared.fault.CommandFault.{CommandFault}
use Rattle.lt_load.specs.Errands.{load_errands}
use Rattle.lt_load.specs.Blamed.{command_blame}
use Rattle.lt_load.specs.Plan.{Plan, LoadedPlan, IsLoadedFrom, Loads, load_verdict}
use Rattle.lt_load.proofs.Raising.{raised_value, raised_fault}
use Rattle.lt_evaluate.specs.declared.outputs.Outputs.{Outputs}
use Rattle.lt_run.specs.declared.fault.RunFault.{RunFault}
use Rattle.lt_run.specs.declared.fault.RunFault.TheVariants as run
use Rattle.lt_run.specs.declared.printed.Printed.{Printed}
use Rattle.lt_run.specs.Errands.{run_errands}
use Rattle.lt_run.specs.Fault.{run_blame}
use Rattle.lt_run.specs.Kinds.{EventsBy}
use Rattle.lt_load.specs.Near.{IsNearCommand}
use Rattle.lt_run.specs.Coded.{CodeShows, HasCodePrinted}
use Rattle.lt_run.specs.Printed.{ShowsAt, run_loaded_verdict}
use Rattle.lt_run.specs.Run.{AsCommand, KeepsShape, HasOutputs, IsLaidOutBy, OutputsShow, along_loaded, run_along_verdict, run_command_fault, placed_run_verdict, ordered_verdict}
use Rattle.lt_run.proofs.Replays.{answered_value, answered_fault}
use Rattle.lt_machine.specs.declared.machine.Machine.{Ghosts as Machines}
use Rattle.lt_machine.specs.declared.step_machine.StepMachine.{StepMachine}

same_blame : (s : Shape) (e : RunFault) → command_blame (run_command_fault s e) ≡ run_blame e
same_blame s (run.Row row f) = refl
same_blame s (run.Offence event offence) = refl
same_blame s (run.Lossy event offence) = refl
same_blame s run.Bytes = refl
same_blame s run.Read = refl
same_blame s run.Link = refl

-- the outputs of what a replay answers show the same
outputs_show : {G : Type 0} (mch : Machines (StepMachine G)) (p : WholeProgram) (l : Layout) (s : Shape) (t : Timing) (pace : Pace) (inputs : List (List Value)) (fabric : FabricState) (printed : Printed (StepMachine G)) (outputs : Outputs)
    → outputs.names ≡ printed.names → outputs.cells ≡ printed.cells → (events : EventsBy pace) → CodeShows mch p l s t pace inputs fabric events printed → OutputsShow p l s t pace inputs fabric events outputs
outputs_show mch p l s t pace inputs fabric printed outputs names cells events shown = record {
  horizon = printed.horizon;
  told =
      subst (λ (ns : List (List ℕ)). ShowsAt p l s t pace inputs fabric events ns outputs.cells printed.horizon) (sym names)
      (subst (λ (cs : List (List Cell)). ShowsAt p l s t pace inputs fabric events printed.names cs printed.horizon) (sym cells) shown.shows);
}

module _ {G : Type 0} (mch : Machines (StepMachine G)) (k : LoadedPlan) (name : List ℕ) (files files' : FilesState) (fabric fabric' : FabricState) where
  abbrev file : Option (List ℕ)
  file = files.named name

  abbrev printed_end : EventsBy k.pace → Printed (StepMachine G) → Type 0
  printed_end = CodeShows mch k.checked.program k.layout k.shape k.timing k.pace k.inputs.rows fabric'

  abbrev outputs_end : EventsBy k.pace → Outputs → Type 0
  outputs_end = OutputsShow k.checked.program k.layout k.shape k.timing k.pace k.inputs.rows fabric'

  abbrev Outs : Result Outputs (Or RunFault) → Type 0
  Outs r = HasOutputs k name files files' fabric fabric' r

  -- the outputs of what a replay answers
  pub outputs_of : (printed : Printed (StepMachine G)) (outputs : Outputs) → outputs.names ≡ printed.names → outputs.cells ≡ printed.cells → HasCodePrinted mch k name files files' fabric fabric' (Ok printed) → Outs (Ok outputs)
  outputs_of printed outputs names cells has = record {
    answered =
        answered_value k.pace printed_end outputs_end k.shape k.timing (length k.inputs.rows) file (world files fabric) (world files' fabric') printed outputs
        (outputs_show mch k.checked.program k.layout k.shape k.timing k.pace k.inputs.rows fabric' printed outputs names cells) has.answered;
    near = λ told. tt;
    opens = record { calls = has.opens.calls; done = has.opens.done };
  }

  -- its refusal
  pub not_printed : (e : Or RunFault) (r : Result Outputs (Or RunFault)) → IsErrAnd r (λ f. f ≡ e) → HasCodePrinted mch k name files files' fabric fabric' (Err e) → Outs r
  not_printed e (Ok x) is has = absurd is
  not_printed e (Err f) is has =
      let told : Outs (Err e) = record {
        answered = answered_fault k.pace printed_end outputs_end k.shape k.timing (length k.inputs.rows) file (world files fabric) (world files' fabric') e has.answered;
        near = has.near;
        opens = record { calls = has.opens.calls; done = tt };
      } in
      subst (λ (g : Or RunFault). Outs (Err g)) (sym is) told

-- no memory was found before the run
pub not_run : (k : LoadedPlan) (name : List ℕ) (files : FilesState) (fabric : FabricState) (r : Result Outputs (Or CommandFault)) → IsErrAnd r (λ f. f ≡ Memory)
    → (answered : Answered command_blame (schedule_errand name) (along_loaded fabric k (files.named name)) (world files fabric) (world files fabric) r) × (IsTrue files.told → IfErr r (IsNearCommand (files.named name) files.place)) × OpensOnce fabric fabric r
not_run k name files fabric (Ok x) is = absurd is
not_run k name files fabric (Err f) is =
    subst (λ (g : Or CommandFault). (answered : Answered command_blame (schedule_errand name) (along_loaded fabric k (files.named name)) (world files fabric) (world files fabric) (Err g)) × (IsTrue files.told → IsNearCommand (files.named name) files.place g) × OpensOnce {T = Outputs} fabric fabric (Err g)) (sym is)
    (runs_short (world files fabric), (λ told. tt), record { calls = opens_none fabric; done = tt })

-- what was replayed, as the command's

module _ (k : LoadedPlan) (name : List ℕ) (files files' : FilesState) (fabric fabric' : FabricState) where
  abbrev right : Result Outputs RunFault → Type 0
  right = run_loaded_verdict k (OutputsShow k.checked.program k.layout k.shape k.timing k.pace k.inputs.rows fabric') (files.named name)

  abbrev Runs : Result Outputs (Or CommandFault) → Type 0
  Runs r = Answered command_blame (schedule_errand name) (along_loaded fabric' k (files.named name)) (world files fabric) (world files' fabric') r

  pub shown_by : (outputs : Outputs) → HasOutputs k name files files' fabric fabric' (Ok outputs) → Runs (Ok outputs)
  shown_by outputs has = raised_value (run_command_fault k.shape) run_blame command_blame (same_blame k.shape) right (world files fabric) (world files' fabric') outputs has.answered

  raised : (e : Or RunFault) (g : Or CommandFault) → MapsFault e g (λ f h. h ≡ run_command_fault k.shape f) → Answered run_blame (schedule_errand name) right (world files fabric) (world files' fabric') (Err e) → Runs (Err g)
  raised e g is first = raised_fault (run_command_fault k.shape) run_blame command_blame (same_blame k.shape) right (world files fabric) (world files' fabric') e g is first

  content : (f : RunFault) → KeepsShape f → run_blame f ≡ Content
  content (run.Row row f) keeps = absurd keeps
  content (run.Offence event offence) keeps = refl
  content (run.Lossy event offence) keeps = refl
  content run.Bytes keeps = absurd keeps
  content run.Read keeps = absurd keeps
  content run.Link keeps = absurd keeps

  pub fault_of : (e : Or RunFault) (g : Or CommandFault) → AsCommand k.shape e g → HasOutputs k name files files' fabric fabric' (Err e) → Runs (Err g)
  fault_of (Fault f) (Fault g) is has = raised (Fault f) (Fault g) is has.answered
  fault_of (Fault f) Memory is has =
      let first = has.answered in
      let short : Answered run_blame (schedule_errand name) right (world files fabric) (world files' fabric') (Err Memory) = record {
        keeps = first.keeps;
        visits = first.visits;
        cause = subst (Blames (world files fabric) (world files' fabric')) (content f is) first.cause;
        exact = λ told calm. tt;
        sound = first.sound;
      } in
      raised Memory Memory tt short
  fault_of Memory (Fault g) is has = absurd is
  fault_of Memory Memory is has = raised Memory Memory tt has.answered

-- what was loaded, and then its run

module _ (program inputs schedule : List ℕ) (config : Option (List ℕ)) (a : FilesState) where
  wider : (fabric : FabricState) (o : Result Outputs CommandFault) → AndThen (Loads (load_verdict a.named program inputs config)) (λ k. along_loaded fabric k (a.named schedule)) o → ordered_verdict a.named program inputs schedule config fabric o
  unfolding ordered_verdict run_along_verdict
  wider fabric (Ok x) (inl p) = absurd p
  wider fabric (Err e) (inl p) = inl p
  wider fabric o (inr q) =
      let k : LoadedPlan = q.0 in
      let plan : Plan = q.1.0 in
      let from : IsLoadedFrom plan k = q.1.2 in
      let laid : IsLaidOutBy plan k.layout k.shape = record { layout = from.layout; shape = subst (λ (p : Pace). IsShapeBy k.layout p plan.setup.timing k.shape) from.pace (subst (λ (t : Timing). IsShapeBy k.layout k.pace t k.shape) from.timing from.shape) } in
      let timed = subst (λ (t : Timing). placed_run_verdict k.checked.program k.layout k.shape t k.pace k.inputs.rows fabric (a.named schedule) o) from.timing q.2 in
      let paced = subst (λ (p : Pace). placed_run_verdict k.checked.program k.layout k.shape plan.setup.timing p k.inputs.rows fabric (a.named schedule) o) from.pace timed in
      let fed = subst (λ (t : InputTable). placed_run_verdict k.checked.program k.layout k.shape plan.setup.timing plan.setup.pace t.rows fabric (a.named schedule) o) from.inputs paced in
      let told = subst (λ (x : ExaminedText). placed_run_verdict x.program k.layout k.shape plan.setup.timing plan.setup.pace plan.inputs.rows fabric (a.named schedule) o) from.checked fed in
      inr (plan, q.1.1, (k.layout, k.shape, laid, told))

  module _ (b : FilesState) (fabric : FabricState) where
    -- it was not loaded
    pub not_loaded : (e : Or CommandFault) (r : Result Outputs (Or CommandFault)) → IsErrAnd r (λ f. f ≡ e) → Answered command_blame (load_errands program inputs config) (Loads (load_verdict a.named program inputs config)) (alone a) (alone b) (Err e)
        → Answered command_blame (run_errands program inputs schedule config) (ordered_verdict a.named program inputs schedule config fabric) (world a fabric) (world b fabric) r
    not_loaded e (Ok x) is first = absurd is
    not_loaded e (Err f) is first =
        let stopped : Answered command_blame (run_errands program inputs schedule config) (AndThen (Loads (load_verdict a.named program inputs config)) (λ k. along_loaded fabric k (a.named schedule))) (world a fabric) (world b fabric) (Err e) =
        stops (schedule_errand schedule) (world a fabric) (world b fabric) e (beside a b fabric (Err e) first) in
        subst (λ (g : Or CommandFault). Answered command_blame (run_errands program inputs schedule config) (ordered_verdict a.named program inputs schedule config fabric) (world a fabric) (world b fabric) (Err g)) (sym is)
        (widened (AndThen (Loads (load_verdict a.named program inputs config)) (λ k. along_loaded fabric k (a.named schedule))) (ordered_verdict a.named program inputs schedule config fabric) (world a fabric) (world b fabric) (Err e) (wider fabric) stopped)

    -- it was, and then run
    pub loaded_run : (k : LoadedPlan) (c : FilesState) (fabric' : FabricState) (r : Result Outputs (Or CommandFault)) → Answered command_blame (load_errands program inputs config) (Loads (load_verdict a.named program inputs config)) (alone a) (alone b) (Ok k)
        → Answered command_blame (schedule_errand schedule) (along_loaded fabric' k (b.named schedule)) (world b fabric) (world c fabric') r → Answered command_blame (run_errands program inputs schedule config) (ordered_verdict a.named program inputs schedule config fabric') (world a fabric) (world c fabric') r
    loaded_run k c fabric' r first second =
        let on : Answered command_blame (run_errands program inputs schedule config) (AndThen (Loads (load_verdict a.named program inputs config)) (λ k. along_loaded fabric' k (a.named schedule))) (world a fabric) (world c fabric') r =
        goes_on (world a fabric) (world b fabric) (world c fabric') k r (beside a b fabric (Ok k) first)
        (renamed (λ names. along_loaded fabric' k (names schedule)) b.named a.named (world b fabric) (world c fabric') r first.keeps.files.named second) in
        widened (AndThen (Loads (load_verdict a.named program inputs config)) (λ k. along_loaded fabric' k (a.named schedule))) (ordered_verdict a.named program inputs schedule config fabric') (world a fabric) (world c fabric') r (wider fabric') on
