-- A replay by step code is one whose machines step the code of the nodes' parts.
use Rattle.std.proofs.Common.{◌≡◌, ◌∙◌, ℕ, List, Some, Result, Ok, Err, sym, subst}
use Rattle.std.specs.Prelude.{IsErrAnd, length}
use Rattle.lt_base.specs.declared.memory.Or.{Or}
use Rattle.lt_base.specs.declared.memory.Or.TheVariants.{Memory}
use Rattle.lt_base.specs.declared.value.Value.{Value}
use Rattle.lt_base.specs.declared.value.Cell.{Cell}
use Rattle.lt_base.specs.Program.{Function, WholeProgram}
use Rattle.lt_arch.specs.declared.pace.Pace.{Pace}
use Rattle.lt_arch.specs.declared.pace.Pace.TheVariants.{Plain, Lossy, Leader}
use Rattle.lt_arch.specs.declared.shape.Shape.{Shape}
use Rattle.lt_arch.specs.declared.timing.Timing.{Timing}
use Rattle.lt_io.specs.FilesState.{FilesState}
use Rattle.lt_io.specs.FabricState.{FabricState}
use Rattle.lt_place.specs.declared.layout.Layout.{Layout}
use Rattle.lt_place.specs.Layout.{part_of}
use Rattle.lt_step.specs.Compile.{CodeOf}
use Rattle.lt_answer.specs.World.{world}
use Rattle.lt_answer.proofs.Stages.{opens_none, runs_short}
use Rattle.lt_load.specs.Plan.{LoadedPlan}
use Rattle.lt_run.specs.declared.fault.RunFault.{RunFault}
use Rattle.lt_run.specs.declared.printed.Printed.{Printed}
use Rattle.lt_run.specs.Kinds.{EventsBy, HasStepsBy, executed_by}
use Rattle.lt_run.specs.Printed.{HasPrinted, ReplayShows}
use Rattle.lt_run.specs.Coded.{CodeShows, HasCodePrinted, StepsCode}
use Rattle.lt_run.proofs.Replays.{answered_fault, answered_value}
use Rattle.lt_machine.specs.declared.machine.Machine.{Ghosts as Machines}
use Rattle.lt_machine.specs.declared.step_machine.StepMachine.{StepMachine}

-- machines that run a function step its code, and count their steps
pub record RunCode {G : Type 0} (mch : Machines (StepMachine G)) : Type 0 where
  pub code : (m : StepMachine G) (f : Function) (rows : List (List Value)) → mch.stands m f rows → CodeOf f m.code
  pub made : (m : StepMachine G) → mch.made m ≡ m.made

module _ {G : Type 0} (mch : Machines (StepMachine G)) (run : RunCode mch) where
  -- so those that made a run's steps step the code of its parts
  steps_code : (pace : Pace) (l : Layout) (s : Shape) (t : Timing) (inputs : List (List Value)) (events : EventsBy pace) (got : ℕ → List (List Value)) (machines : List (StepMachine G))
      → HasStepsBy mch pace l s t inputs events got machines → StepsCode l (executed_by pace s t (length inputs) events) machines
  steps_code Plain l s t inputs events got machines has = record { count = has.count; code = λ n m at. run.code m (part_of l n).flat.func _ (has.stand n m at); made = λ n m at. sym (run.made m) ∙ has.steps n m at }
  steps_code (Lossy losses) l s t inputs events got machines has = record { count = has.count; code = λ n m at. run.code m (part_of l n).flat.func _ (has.stand n m at); made = λ n m at. sym (run.made m) ∙ has.steps n m at }
  steps_code (Leader leader) l s t inputs events got machines has = record { count = has.count; code = λ n m at. run.code m (part_of l n).flat.func _ (has.stand n m at); made = λ n m at. sym (run.made m) ∙ has.steps n m at }

  module _ (p : WholeProgram) (l : Layout) (s : Shape) (t : Timing) (pace : Pace) (inputs : List (List Value)) (fabric : FabricState) where
    code_shows : (x : Printed (StepMachine G)) (events : EventsBy pace) → ReplayShows mch p l s t pace inputs fabric events x → CodeShows mch p l s t pace inputs fabric events x
    code_shows x events has = record { shows = has.shows; steps = has.steps; steps_code = steps_code pace l s t inputs events has.shows.got x.machines has.steps }

  module _ (k : LoadedPlan) (name : List ℕ) (files files' : FilesState) (fabric fabric' : FabricState) where
    abbrev any_end : EventsBy k.pace → Printed (StepMachine G) → Type 0
    any_end = ReplayShows mch k.checked.program k.layout k.shape k.timing k.pace k.inputs.rows fabric'

    abbrev code_end : EventsBy k.pace → Printed (StepMachine G) → Type 0
    code_end = CodeShows mch k.checked.program k.layout k.shape k.timing k.pace k.inputs.rows fabric'

    -- what was replayed by machines of step code, or refused
    pub printed_code : (r : Result (Printed (StepMachine G)) (Or RunFault)) → HasPrinted mch k name files files' fabric fabric' r → HasCodePrinted mch k name files files' fabric fabric' r
    printed_code (Ok x) has =
        let too : (events : EventsBy k.pace) → any_end events x → code_end events x = code_shows k.checked.program k.layout k.shape k.timing k.pace k.inputs.rows fabric' x in
        record {
          answered = answered_value k.pace any_end code_end k.shape k.timing (length k.inputs.rows) (files.named name) (world files fabric) (world files' fabric') x x too has.answered;
          ended = (has.ended.0, too has.ended.0 has.ended.1);
          near = has.near;
          opens = has.opens;
          layout = has.layout;
        }
    printed_code (Err e) has = record {
      answered = answered_fault k.pace any_end code_end k.shape k.timing (length k.inputs.rows) (files.named name) (world files fabric) (world files' fabric') e has.answered;
      ended = tt;
      near = has.near;
      opens = has.opens;
      layout = tt;
    }

-- no memory was found for the machines
pub not_coded : {G : Type 0} (mch : Machines (StepMachine G)) (k : LoadedPlan) (name : List ℕ) (files : FilesState) (fabric : FabricState) (r : Result (Printed (StepMachine G)) (Or RunFault))
    → IsErrAnd r (λ f. f ≡ Memory) → HasCodePrinted mch k name files files fabric fabric r
not_coded mch k name files fabric (Ok x) is = absurd is
not_coded mch k name files fabric (Err f) is =
    subst (λ (g : Or RunFault). HasCodePrinted mch k name files files fabric fabric (Err g)) (sym is) (record { answered = runs_short (world files fabric); ended = tt; near = λ told. tt; opens = record { calls = opens_none fabric; done = tt }; layout = tt })
