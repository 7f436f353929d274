-- A run of a program that an observer watches: what is right of it, given the files' bytes and what the fabric holds at its end.
use Rattle.std.specs.Prelude.{◌≡◌, ℕ, IsTrue, List, Option, Result, Ok, Err}
use Rattle.lt_base.specs.declared.value.Value.{Value}
use Rattle.lt_base.specs.Program.{Function, WholeProgram}
use Rattle.lt_io.specs.FilesState.{FilesState}
use Rattle.lt_io.specs.FabricState.{FabricState}
use Rattle.lt_answer.specs.World.{World}
use Rattle.lt_answer.specs.Answered.{Verdict, AndThen}
use Rattle.lt_answer.specs.Rules.{Raised}
use Rattle.lt_past.specs.declared.fault.ObserverFault.{ObserverFault}
use Rattle.lt_past.specs.Observer.{Observing}
use Rattle.lt_past.specs.Faults.{IsObserverOf, IsObserverFault}
use Rattle.lt_load_fit.specs.declared.fault.CommandFault.{CommandFault}
use Rattle.lt_load_fit.specs.declared.fault.What.TheVariants.{ObserverBytes}
use Rattle.lt_load_fit.specs.Main.{main_in}
use Rattle.lt_load.specs.Loaded.{whole_verdict}
use Rattle.lt_load.specs.Plan.{Plan, LoadedPlan, load_verdict}
use Rattle.lt_evaluate.specs.declared.outputs.Outputs.{Outputs}
use Rattle.lt_load.specs.Near.{ReadNear}
use Rattle.lt_run.specs.Run.{along_loaded, run_along_verdict}
use Rattle.lt_watch.specs.declared.fault.WatchFault.{WatchFault}
use Rattle.lt_watch.specs.declared.fault.WatchFault.TheVariants.{Command, Observer}
use Rattle.lt_watch.specs.declared.watched.Watched.{Watched}
use Rattle.lt_watch.specs.Judged.{IsWatched}

-- a step of other commands too
abbrev pub InCommand : {T : Type 0} → Verdict T CommandFault → Verdict T WatchFault
InCommand V = Raised (λ e. Command e) V

-- the bytes of an observer's file, that they are too many, or that the file is missing
abbrev pub observer_bytes_verdict : Option (List ℕ) → Verdict (List ℕ) WatchFault
observer_bytes_verdict file = InCommand (whole_verdict ObserverBytes file)

-- the observer that the bytes are, or their first fault
abbrev pub observed_verdict : Function → List ℕ → Verdict Observing ObserverFault
observed_verdict main bytes (Ok o) = IsObserverOf 200 main bytes o
observed_verdict main bytes (Err f) = IsObserverFault 200 main bytes f

-- the observer of a file, over the outputs of a function
unfoldable pub observer_verdict : Function → Option (List ℕ) → Verdict Observing WatchFault
observer_verdict main file = AndThen (observer_bytes_verdict file) (λ bytes. Raised (λ e. Observer e) (observed_verdict main bytes))

-- no refusal, and this is told of a run with these outputs
abbrev pub told_verdict : WholeProgram → List (List Value) → FabricState → Observing → Outputs → Verdict Watched WatchFault
told_verdict p rows fabric o outputs (Ok told) = IsWatched p rows fabric o outputs.cells told
told_verdict p rows fabric o outputs (Err fault) = ⊥

-- a plan along a schedule file, which, where it is refused, was read to at most a piece past the row that is refused; and then what the
-- observer tells of the outputs
unfoldable pub followed_verdict : (schedule : Option (List ℕ)) → (new : World) → Plan → Observing → Verdict Watched WatchFault
followed_verdict schedule new plan o =
    AndThen (InCommand (ReadNear schedule new.files.place (run_along_verdict new.fabric schedule plan))) (λ outputs. told_verdict plan.checked.program plan.inputs.rows new.fabric o outputs)

-- a plan: the observer, and then the run
unfoldable pub plan_watch_verdict : (named : List ℕ → Option (List ℕ)) (schedule observer : List ℕ) → (new : World) → Plan → Verdict Watched WatchFault
plan_watch_verdict named schedule observer new plan = AndThen (observer_verdict (main_in plan.checked.program) (named observer)) (λ o. followed_verdict (named schedule) new plan o)

-- the program, the setup, the placement, the timing, the inputs, the observer and the schedule, in this order
unfoldable pub watch_verdict : (named : List ℕ → Option (List ℕ)) (program inputs schedule observer : List ℕ) (config : Option (List ℕ)) → (new : World) → Verdict Watched WatchFault
watch_verdict named program inputs schedule observer config new = AndThen (InCommand (load_verdict named program inputs config)) (λ plan. plan_watch_verdict named schedule observer new plan)

-- what was loaded, along a schedule file, as a run is
abbrev pub run_along : (schedule : Option (List ℕ)) → (new : World) → LoadedPlan → Verdict Outputs CommandFault
run_along schedule new k = ReadNear schedule new.files.place (along_loaded new.fabric k schedule)

-- and then what the observer tells of the outputs
abbrev pub followed_along : (schedule : Option (List ℕ)) → (new : World) → LoadedPlan → Observing → Verdict Watched WatchFault
followed_along schedule new k o = AndThen (InCommand (run_along schedule new k)) (λ outputs. told_verdict k.checked.program k.inputs.rows new.fabric o outputs)

-- the observer, and then the run
abbrev pub loaded_watch_verdict : (named : List ℕ → Option (List ℕ)) (schedule observer : List ℕ) → (new : World) → LoadedPlan → Verdict Watched WatchFault
loaded_watch_verdict named schedule observer new k = AndThen (observer_verdict (main_in k.checked.program) (named observer)) (λ o. followed_along (named schedule) new k o)

-- what a watched run is of, and then its observer
unfoldable pub observed_load_verdict : (named : List ℕ → Option (List ℕ)) (program inputs observer : List ℕ) (config : Option (List ℕ)) → Verdict Observing WatchFault
observed_load_verdict named program inputs observer config = AndThen (InCommand (load_verdict named program inputs config)) (λ plan. observer_verdict (main_in plan.checked.program) (named observer))

-- where the observer is refused, the fabric is as it was
abbrev pub LeavesUnobserved : (files : FilesState) → Function → (observer : List ℕ) → (old new : FabricState) → Type 0
LeavesUnobserved files main observer old new = IsTrue files.told → (e : WatchFault) → observer_verdict main (files.named observer) (Err e) → new ≡ old

-- where the program, the setup, the inputs or the observer are refused, it is so too
abbrev pub LeavesUnwatched : (files : FilesState) (program inputs observer : List ℕ) (config : Option (List ℕ)) → (old new : FabricState) → Type 0
LeavesUnwatched files program inputs observer config old new = IsTrue files.told → (e : WatchFault) → observed_load_verdict files.named program inputs observer config (Err e) → new ≡ old
