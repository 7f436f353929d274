-- What a net along a schedule file answers.
use Rattle.std.specs.Prelude.{◌≡◌, ◌<◌, ◌≤◌, ℕ, min, Some, List, Option, None, IsTrue, Result, OnOk, IfErr}
use Rattle.lt_base.specs.declared.value.Value.{Value}
use Rattle.lt_base.specs.declared.memory.Or.{Or}
use Rattle.lt_base.specs.Program.{Function}
use Rattle.lt_arch.specs.declared.event.Event.{Event}
use Rattle.lt_arch.specs.declared.event.Offence.{Offence}
use Rattle.lt_arch.specs.declared.shape.Shape.{Shape}
use Rattle.lt_arch.specs.declared.timing.Timing.{Timing}
use Rattle.lt_arch.specs.State.{start, executed_of}
use Rattle.lt_arch.specs.Readers.{node_count}
use Rattle.lt_arch.specs.declared.limits.TheConstants.{GREATEST_TIME}
use Rattle.lt_arch.specs.Schedule.{AreUpTo, IsAdmissible, after_all}
use Rattle.lt_io.specs.Counts.{IsMemory}
use Rattle.lt_io.specs.FilesState.{FilesState}
use Rattle.lt_io.specs.FabricState.{FabricState}
use Rattle.lt_answer.specs.World.{world}
use Rattle.lt_answer.specs.Answered.{Answered, OfFile, Verdict}
use Rattle.lt_schedule.specs.Errand.{schedule_errand}
use Rattle.lt_schedule.specs.Rules.{file_judged_by}
use Rattle.lt_schedule.specs.Verdict.{rules_of}
use Rattle.lt_net.specs.NetModel.{NetState}
use Rattle.lt_net.specs.Event.{SameStatic}
use Rattle.lt_net.specs.Loop.{ReplayIsClosed}
use Rattle.lt_net.specs.Net.{Lists}
use Rattle.lt_net_node.specs.Layout.{IsLaidOut}
use Rattle.lt_net_bench.specs.Whole.{RowsCoverInputs}
use Rattle.lt_net.specs.Replay.{ReplayKeeps, ReplayEnds}
use Rattle.lt_schedule.specs.declared.halt.Halt.{Halt}
use Rattle.lt_schedule.specs.declared.halt.Halt.TheVariants.{Read}
use Rattle.lt_net_replay.specs.Plays.{KeepsPlay}
use Rattle.lt_net_start.specs.Blamed.{ReplayEndsWith, play_blame, IsNearPlay}
use Rattle.lt_machine.specs.declared.machine.Machine.{Ghosts as Machines}
use Rattle.lt_arch.specs.declared.controller.Controller.{Ghosts as Controls}

-- along events in the range of times each node executes at least as many instants as this bound for its horizon, or all rows: the law of a protocol
abbrev pub IsLeastBound : (bound : Timing → ℕ → ℕ → ℕ) → Shape → Timing → (rows : ℕ) → Type 0
IsLeastBound bound s t rows =
    (es : List Event) (h n : ℕ) → AreUpTo GREATEST_TIME es → IsAdmissible s t rows es → (after_all s t rows (start t.protocol) es).horizon ≡ Some h → n < node_count s →
    min (bound t n h) rows ≤ executed_of (after_all s t rows (start t.protocol) es) n

-- a net, as it was at its start and as it is now, stands for an admissible list of events
pub record IsAtEnd {C M : Type 0} (ctl : Controls C) (mch : Machines M) (old new : NetState C M) (inputs : List (List Value)) (fabric : FabricState) (events : List Event) : Type 0 where
  pub admissible : IsAdmissible old.bench.shape old.bench.timing old.bench.rows events
  pub running : new.stopped ≡ None
  pub horizon : (h : ℕ) × (new.bench.watch.horizon ≡ Some h)
  pub fixed : SameStatic old.bench new.bench
  -- machines, cells, counts and messages are those of these lists
  pub lists : Lists
  pub keeps : ReplayKeeps ctl mch inputs events new.bench fabric lists
  -- the cells are local streams, over a faithful fabric fronts of the streams of the whole, and there are enough of them
  pub ends : (f : Function) (bound : Timing → ℕ → ℕ → ℕ) → IsLaidOut f new.bench.layout → RowsCoverInputs f inputs → IsLeastBound bound new.bench.shape new.bench.timing new.bench.rows → ReplayEnds bound f inputs new.bench fabric lists
  pub closed : ReplayIsClosed new.bench inputs fabric

-- at the end of these events
abbrev pub AtEndOf : (end : List Event → Type 0) → List Event → Unit {0} → Type 0
AtEndOf end events x = end events

-- what is right of a schedule file, with so many rows of inputs
unfoldable pub play_verdict : (end : List Event → Type 0) → Shape → Timing → (rows : ℕ) → Option (List ℕ) → Verdict (Unit {0}) (Halt Offence)
play_verdict end s t rows file = OfFile Read file (λ bytes outcome. ReplayEndsWith (AtEndOf end) (file_judged_by (rules_of s t rows) bytes) outcome)

-- the net took the file of this name to its end, or a fault stands against it
pub record HasPlayed {C M : Type 0} (ctl : Controls C) (mch : Machines M) (old new : NetState C M) (inputs later : List (List Value))
    (name : List ℕ) (files files' : FilesState) (fabric fabric' : FabricState) (result : Result (Unit {0}) (Or (Halt Offence))) : Type 0 where
  -- by the verdict of the file
  pub answered : Answered play_blame (schedule_errand name) (play_verdict (IsAtEnd ctl mch old new inputs fabric') old.bench.shape old.bench.timing old.bench.rows (files.named name)) (world files fabric) (world files' fabric') result
  -- whether or not the files tell their bytes
  pub ended : OnOk result ((events : List Event) × IsAtEnd ctl mch old new inputs fabric' events)
  pub near : IsTrue files.told → IfErr result (IsNearPlay (files.named name) files'.place)
  -- over a prompt fabric memory is never wanted
  pub prompt : IsTrue fabric.prompt → IfErr result (λ fault. IsMemory fault → ⊥)
  pub keeps : KeepsPlay mch.size old new inputs later fabric fabric'
