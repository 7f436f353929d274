-- What a network along a schedule file over links that lose messages answers.
use Rattle.std.specs.Prelude.{◌≡◌, ℕ, List, Option, length, IsTrue, Result, IfOk, IfErr}
use Rattle.lt_base.specs.declared.value.Value.{Value}
use Rattle.lt_base.specs.declared.memory.Or.{Or}
use Rattle.lt_base.specs.Inputs.{InputTable}
use Rattle.lt_arch.specs.declared.shape.Shape.{Shape}
use Rattle.lt_arch.specs.declared.timing.Timing.{Timing}
use Rattle.lt_io.specs.FilesState.{FilesState}
use Rattle.lt_io.specs.FabricState.{FabricState, OpensOnce}
use Rattle.lt_answer.specs.Answered.{Answered, OfFile, Verdict}
use Rattle.lt_answer.specs.World.{world}
use Rattle.lt_schedule.specs.Errand.{schedule_errand}
use Rattle.lt_schedule.specs.Rules.{file_judged_by}
use Rattle.lt_lossy.specs.declared.event.LossyEvent.{LossyEvent}
use Rattle.lt_lossy.specs.declared.event.LossyOffence.{LossyOffence}
use Rattle.lt_place.specs.declared.layout.Layout.{Layout}
use Rattle.lt_net_start.specs.declared.plan.NetPlan.{NetPlan}
use Rattle.lt_net.specs.declared.replayed.Replayed.{Replayed}
use Rattle.lt_schedule.specs.declared.halt.Halt.{Halt}
use Rattle.lt_schedule.specs.declared.halt.Halt.TheVariants.{Read}
use Rattle.lt_net_lossy.specs.Rules.{lossy_rules_of}
use Rattle.lt_net_start.specs.Blamed.{ReplayEndsWith, play_blame, IsNearPlay}
use Rattle.lt_net_lossy.specs.LossyRun.{IsLossyRun, HasLossySteps}
use Rattle.lt_machine.specs.declared.machine.Machine.{Ghosts as Machines}

-- the cells and the machines are those to which these events lead
pub record IsLossyReplay {M : Type 0} (mch : Machines M) (l : Layout) (s : Shape) (t : Timing) (losses : ℕ) (inputs : List (List Value)) (fabric : FabricState) (events : List LossyEvent) (taken : Replayed M) : Type 0 where
  pub run : IsLossyRun l s t losses inputs fabric events taken.cells taken.horizon
  pub steps : HasLossySteps mch l s t inputs events run.got taken.machines

-- what is right of a schedule file, where so many losses in a row are allowed, with so many rows of inputs
unfoldable pub lossy_replay_verdict : {T : Type 0} → (end : List LossyEvent → T → Type 0) → Shape → Timing → (losses rows : ℕ) → Option (List ℕ) → Verdict T (Halt LossyOffence)
lossy_replay_verdict end s t losses rows file = OfFile Read file (λ bytes outcome. ReplayEndsWith end (file_judged_by (lossy_rules_of s t losses rows) bytes) outcome)

-- a net over a fabric that is open took the file of this name to its end, or a fault stands against it
pub record HasLossyPlayed {M : Type 0} (mch : Machines M) (l : Layout) (s : Shape) (t : Timing) (losses : ℕ) (inputs : List (List Value))
    (name : List ℕ) (files files' : FilesState) (fabric fabric' : FabricState) (result : Result (Replayed M) (Or (Halt LossyOffence))) : Type 0 where
  -- by the verdict of the file
  pub answered : Answered play_blame (schedule_errand name) (lossy_replay_verdict (IsLossyReplay mch l s t losses inputs fabric') s t losses (length inputs) (files.named name)) (world files fabric) (world files' fabric') result
  -- whether or not the files tell their bytes
  pub ended : IfOk result (λ taken. (events : List LossyEvent) × IsLossyReplay mch l s t losses inputs fabric' events taken)
  -- a refused file was read to at most a piece past the row that is refused
  pub near : IsTrue files.told → IfErr result (IsNearPlay (files.named name) files'.place)
  -- the fabric was not opened again
  pub opens : fabric'.opens ≡ fabric.opens
  -- the layout is given back
  pub layout : IfOk result (λ taken. taken.layout ≡ l)

-- so did a network that opens the fabric
pub record HasLossyReplayed {M : Type 0} (mch : Machines M) (l : Layout) (s : Shape) (t : Timing) (losses : ℕ) (inputs : List (List Value))
    (name : List ℕ) (files files' : FilesState) (fabric fabric' : FabricState) (result : Result (Replayed M) (Or (Halt LossyOffence))) : Type 0 where
  -- by the verdict of the file
  pub answered : Answered play_blame (schedule_errand name) (lossy_replay_verdict (IsLossyReplay mch l s t losses inputs fabric') s t losses (length inputs) (files.named name)) (world files fabric) (world files' fabric') result
  -- whether or not the files tell their bytes
  pub ended : IfOk result (λ taken. (events : List LossyEvent) × IsLossyReplay mch l s t losses inputs fabric' events taken)
  -- a refused file was read to at most a piece past the row that is refused
  pub near : IsTrue files.told → IfErr result (IsNearPlay (files.named name) files'.place)
  -- at most once, and once where it took the file
  pub opens : OpensOnce fabric fabric' result
  -- the layout is given back
  pub layout : IfOk result (λ taken. taken.layout ≡ l)

-- so did the network of a plan on these inputs
abbrev pub ReplaysLossy : {M : Type 0} (mch : Machines M) → NetPlan → (losses : ℕ) → InputTable → (name : List ℕ) → (files files' : FilesState) → (fabric fabric' : FabricState) → Result (Replayed M) (Or (Halt LossyOffence)) → Type 0
ReplaysLossy mch plan losses inputs name files files' fabric fabric' result = HasLossyReplayed mch plan.layout plan.shape plan.timing losses inputs.rows name files files' fabric fabric' result
