-- What the steps of a watched run answer over files and a fabric. What the objects hold is read off them by two functions.
use Rattle.std.specs.Prelude.{ℕ, List, ◌++◌, Option, Result}
use Rattle.std.specs.Borrow.{Bor}
use Rattle.lt_base.specs.declared.memory.Or.{Or}
use Rattle.lt_base.specs.Program.{Function}
use Rattle.lt_io.specs.FilesState.{FilesState}
use Rattle.lt_io.specs.FabricState.{FabricState}
use Rattle.lt_answer.specs.Alone.{AnsweredOnFiles, given_word}
use Rattle.lt_answer.specs.Answered.{Answered}
use Rattle.lt_answer.specs.World.{world}
use Rattle.lt_schedule.specs.Errand.{schedule_errand}
use Rattle.lt_past.specs.Observer.{Observing}
use Rattle.lt_load.specs.Errands.{load_errands}
use Rattle.lt_load.specs.Plan.{LoadedPlan, Loads, load_verdict}
use Rattle.lt_evaluate.specs.declared.outputs.Outputs.{Outputs}
use Rattle.lt_watch.specs.declared.fault.WatchFault.{WatchFault}
use Rattle.lt_watch.specs.declared.watched.Watched.{Watched}
use Rattle.lt_watch.specs.Blamed.{watch_blame}
use Rattle.lt_watch.specs.Errands.{observer_errand, watch_errands}
use Rattle.lt_watch.specs.Watch.{InCommand, LeavesUnwatched, followed_along, loaded_watch_verdict, observer_bytes_verdict, observer_verdict, run_along, watch_verdict}

-- all that the run is of
abbrev pub LoadsWatched : (program inputs : List ℕ) (config : Option (List ℕ)) (old new : FilesState) → Result LoadedPlan (Or WatchFault) → Type 0
LoadsWatched program inputs config old new result = AnsweredOnFiles watch_blame (load_errands program inputs config) (InCommand (Loads (load_verdict old.named program inputs config))) old new result

-- the bytes of the observer's file
abbrev pub FetchesObserver : (name : List ℕ) (old new : FilesState) → Result (List ℕ) (Or WatchFault) → Type 0
FetchesObserver name old new result = AnsweredOnFiles watch_blame (observer_errand name) (observer_bytes_verdict (old.named name)) old new result

-- the observer of a file, over the outputs of a function
abbrev pub LoadsObserver : (name : List ℕ) → Function → (old new : FilesState) → Result Observing (Or WatchFault) → Type 0
LoadsObserver name main old new result = AnsweredOnFiles watch_blame (observer_errand name) (observer_verdict main (old.named name)) old new result

-- the outputs of what was loaded, along a schedule file
abbrev pub RunsWatched : {F W : Type 0} (files : F → FilesState) (fabric : W → FabricState) → LoadedPlan → (schedule : List ℕ) (before after : F) (old new : W) → Result Outputs (Or WatchFault) → Type 0
RunsWatched files fabric k schedule before after old new result =
    Answered watch_blame (schedule_errand schedule) (InCommand (run_along ((files before).named schedule) (world (files after) (fabric new)) k)) (world (files before) (fabric old)) (world (files after) (fabric new)) result

-- and what the observer tells of them
abbrev pub FollowsLoaded : {F W : Type 0} (files : F → FilesState) (fabric : W → FabricState) → LoadedPlan → (schedule : List ℕ) → Observing → (before after : F) (old new : W) → Result Watched (Or WatchFault) → Type 0
FollowsLoaded files fabric k schedule o before after old new result =
    Answered watch_blame (schedule_errand schedule) (followed_along ((files before).named schedule) (world (files after) (fabric new)) k o) (world (files before) (fabric old)) (world (files after) (fabric new)) result

-- the same, with the observer of a file
abbrev pub WatchesLoaded : {F W : Type 0} (files : F → FilesState) (fabric : W → FabricState) → LoadedPlan → (schedule observer : List ℕ) (before after : F) (old new : W) → Result Watched (Or WatchFault) → Type 0
WatchesLoaded files fabric k schedule observer before after old new result =
    Answered watch_blame (observer_errand observer ++ schedule_errand schedule)
    (loaded_watch_verdict (files before).named schedule observer (world (files after) (fabric new)) k) (world (files before) (fabric old)) (world (files after) (fabric new)) result

-- a watched run of the files of these names
abbrev pub Watches : {F W : Type 0} (files : F → FilesState) (fabric : W → FabricState) (program inputs schedule observer : List ℕ) (config : Option (Bor (List ℕ))) (before after : F) (old new : W) → Result Watched (Or WatchFault) → Type 0
Watches files fabric program inputs schedule observer config before after old new result =
    Answered watch_blame (watch_errands program inputs schedule observer (given_word config))
    (watch_verdict (files before).named program inputs schedule observer (given_word config) (world (files after) (fabric new))) (world (files before) (fabric old)) (world (files after) (fabric new)) result

-- where the program, the setup, the inputs or the observer are refused, the fabric is as it was
abbrev pub LeavesUnlessWatched : {F W : Type 0} (files : F → FilesState) (fabric : W → FabricState) (program inputs observer : List ℕ) (config : Option (Bor (List ℕ))) (before : F) (old new : W) → Type 0
LeavesUnlessWatched files fabric program inputs observer config before old new = LeavesUnwatched (files before) program inputs observer (given_word config) (fabric old) (fabric new)
