-- A net beside its inputs, as it takes the lines of a schedule over links that lose messages.
use Rattle.std.specs.Prelude.{ℕ, List, Result}
use Rattle.lt_base.specs.declared.memory.Or.{Or}
use Rattle.lt_bp.specs.declared.controller.BackPressure.{BackPressure}
use Rattle.lt_io.specs.FilesState.{FilesState}
use Rattle.lt_io.specs.FabricState.{FabricState}
use Rattle.lt_schedule.specs.declared.halt.Stop.{Stop}
use Rattle.lt_schedule.specs.Rules.{Rules}
use Rattle.lt_schedule.specs.Taken.{JudgesLine}
use Rattle.lt_lossy.specs.declared.event.LossyEvent.{LossyEvent}
use Rattle.lt_lossy.specs.declared.event.LossyOffence.{LossyOffence}
use Rattle.lt_net.specs.declared.replayed.Replayed.{Replayed}
use Rattle.lt_schedule.specs.declared.halt.Halt.{Halt}
use Rattle.lt_net_lossy.specs.declared.replay.playback.LossyPlayback.{LossyPlayback}
use Rattle.lt_net_lossy.specs.Rules.{lossy_rules_of}
use Rattle.lt_net_lossy.specs.LossyPlays.{IsPlayingLossy, KeepsLossyPlay}
use Rattle.lt_net_lossy.specs.LossyReplays.{HasLossyPlayed}
use Rattle.lt_machine.specs.declared.machine.Machine.{Ghosts as Machines}
use Rattle.lt_arch.specs.declared.controller.Controller.{Ghosts as Controls}

-- the rules by which it judges lines
abbrev pub lossy_rules_for : {M : Type 0} → LossyPlayback M → Rules LossyEvent LossyOffence
lossy_rules_for p = lossy_rules_of p.net.bench.shape p.net.bench.timing p.net.bench.watch.limit p.net.bench.rows

-- with its fabric it stands for these events
abbrev pub StandsForLossy : {M : Type 0} (ctl : Controls BackPressure) (mch : Machines M) → LossyPlayback M → FabricState → List LossyEvent → Type 0
StandsForLossy ctl mch p fabric before = IsPlayingLossy ctl mch p.inputs.now p.width p.row.items before p.net fabric

-- behind all events for which it stands, the line is judged by its rules; where it is taken, it stands for the line's event besides
abbrev pub TakesLineLossy : {M : Type 0} (ctl : Controls BackPressure) (mch : Machines M) → (old new : LossyPlayback M) → (line : List ℕ) → (fabric fabric' : FabricState) → Result (Unit {0}) (Stop LossyOffence) → Type 0
TakesLineLossy ctl mch old new line fabric fabric' result =
    (before : List LossyEvent) → StandsForLossy ctl mch old fabric before → JudgesLine (lossy_rules_for old) line (StandsForLossy ctl mch new fabric') before result

-- no line changes its layout, shape, timing, limit and inputs
abbrev pub KeepsLossyPlayback : {M : Type 0} → (old new : LossyPlayback M) → (fabric fabric' : FabricState) → Type 0
KeepsLossyPlayback old new fabric fabric' = KeepsLossyPlay old.net new.net old.inputs.now.rows new.inputs.now.rows fabric fabric'

-- it took the file of this name to its end, or a fault stands against the file
abbrev pub HasTakenLossy : {M : Type 0} (mch : Machines M) → LossyPlayback M → (name : List ℕ) →
    (files files' : FilesState) → (fabric fabric' : FabricState) → Result (Replayed M) (Or (Halt LossyOffence)) → Type 0
HasTakenLossy mch p name files files' fabric fabric' result =
    HasLossyPlayed mch p.net.bench.layout p.net.bench.shape p.net.bench.timing p.net.bench.watch.limit p.inputs.now.rows name files files' fabric fabric' result
