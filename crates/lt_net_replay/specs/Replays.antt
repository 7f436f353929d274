-- What a network along a schedule file answers.
use Rattle.std.specs.Prelude.{◌≡◌, ℕ, List, Option, Some, length, map, IsTrue, Result, IfOk, IfErr}
use Rattle.lt_base.specs.declared.value.Value.{Value}
use Rattle.lt_base.specs.declared.memory.Or.{Or}
use Rattle.lt_base.specs.Inputs.{InputTable}
use Rattle.lt_arch.specs.declared.event.Event.{Event}
use Rattle.lt_arch.specs.declared.event.Offence.{Offence}
use Rattle.lt_arch.specs.declared.shape.Shape.{Shape}
use Rattle.lt_arch.specs.declared.timing.Timing.{Timing}
use Rattle.lt_io.specs.FilesState.{FilesState}
use Rattle.lt_io.specs.FabricState.{FabricState, OpensOnce}
use Rattle.lt_answer.specs.Answered.{Answered, OfFile, Verdict}
use Rattle.lt_answer.specs.World.{world}
use Rattle.lt_schedule.specs.Errand.{schedule_errand}
use Rattle.lt_schedule.specs.Rules.{file_judged_by}
use Rattle.lt_schedule.specs.Verdict.{rules_of}
use Rattle.lt_place.specs.declared.layout.Layout.{Layout}
use Rattle.lt_net.specs.Net.{TimedBenchState}
use Rattle.lt_schedule.specs.declared.halt.Halt.{Halt}
use Rattle.lt_schedule.specs.declared.halt.Halt.TheVariants.{Read}
use Rattle.lt_net_start.specs.declared.plan.NetPlan.{NetPlan}
use Rattle.lt_net_start.specs.Blamed.{ReplayEndsWith, play_blame, IsNearPlay}
use Rattle.lt_net.specs.declared.replayed.Replayed.{Replayed}
use Rattle.lt_net_replay.specs.Run.{IsRun, HasSteps}
use Rattle.lt_machine.specs.declared.machine.Machine.{Ghosts as Machines}

-- what is taken from a net: the cells of its outputs, its horizon, its machines and its layout
pub record ReplayIsTaken {C M : Type 0} (net : TimedBenchState C M) (taken : Replayed M) : Type 0 where
  pub cells : taken.cells ≡ map (λ track. track.cells) net.tracks
  pub horizon : net.watch.horizon ≡ Some taken.horizon
  pub machines : taken.machines ≡ net.machines
  pub layout : taken.layout ≡ net.layout

-- the cells and the machines are those to which these events lead
pub record IsReplay {M : Type 0} (mch : Machines M) (l : Layout) (s : Shape) (t : Timing) (inputs : List (List Value)) (fabric : FabricState) (events : List Event) (taken : Replayed M) : Type 0 where
  pub run : IsRun l s t inputs fabric events taken.cells taken.horizon
  pub steps : HasSteps mch l s t inputs events run.lists.got taken.machines

-- what is right of a schedule file, with so many rows of inputs
unfoldable pub replay_verdict : {T : Type 0} → (end : List Event → T → Type 0) → Shape → Timing → (rows : ℕ) → Option (List ℕ) → Verdict T (Halt Offence)
replay_verdict end s t rows file = OfFile Read file (λ bytes outcome. ReplayEndsWith end (file_judged_by (rules_of s t rows) bytes) outcome)

-- the network took the file of this name to its end, or a fault stands against it
pub record HasReplayed {M : Type 0} (mch : Machines M) (l : Layout) (s : Shape) (t : Timing) (inputs : List (List Value))
    (name : List ℕ) (files files' : FilesState) (fabric fabric' : FabricState) (result : Result (Replayed M) (Or (Halt Offence))) : Type 0 where
  -- by the verdict of the file
  pub answered : Answered play_blame (schedule_errand name) (replay_verdict (IsReplay mch l s t inputs fabric') s t (length inputs) (files.named name)) (world files fabric) (world files' fabric') result
  -- whether or not the files tell their bytes
  pub ended : IfOk result (λ taken. (events : List Event) × IsReplay mch l s t inputs fabric' events taken)
  -- a refused file was read to at most a piece past the row that is refused
  pub near : IsTrue files.told → IfErr result (IsNearPlay (files.named name) files'.place)
  -- the fabric was opened at most once, and once where it took the file
  pub opens : OpensOnce fabric fabric' result
  -- the layout is given back
  pub layout : IfOk result (λ taken. taken.layout ≡ l)

-- so did the network of a plan on these inputs
abbrev pub ReplaysPlan : {M : Type 0} (mch : Machines M) → NetPlan → InputTable → (name : List ℕ) → (files files' : FilesState) → (fabric fabric' : FabricState) → Result (Replayed M) (Or (Halt Offence)) → Type 0
ReplaysPlan mch plan inputs name files files' fabric fabric' result = HasReplayed mch plan.layout plan.shape plan.timing inputs.rows name files files' fabric fabric' result
