-- What a reader has of a drawn list.
use Rattle.std.proofs.Common.{◌≤◌, ℕ, length}
use Rattle.lt_arch.specs.declared.limits.TheConstants.{GREATEST_TIME}
use Rattle.lt_arch.specs.declared.shape.Shape.{Shape}
use Rattle.lt_arch.specs.declared.timing.Timing.{Timing}
use Rattle.lt_arch.specs.Schedule.{OnePlace}
use Rattle.lt_rows.specs.Limits.{most_events}
use Rattle.lt_sim.specs.Drawn.{drawn}
use Rattle.lt_sim.specs.Laws.{IsSimShown}
use Rattle.lt_sim.proofs.Ending.{drawn-sound}
use Rattle.lt_sim.proofs.FileRows.{file_accepted}

-- of one that is not too long
pub shown : (s : Shape) (t : Timing) (rows seed horizon : ℕ) → OnePlace s t rows → horizon ≤ GREATEST_TIME → length (drawn s t rows seed horizon) ≤ most_events → IsSimShown s t rows horizon (drawn s t rows seed horizon)
shown s t rows seed horizon one near few =
    let sound = drawn-sound s t rows seed horizon one near in
    record { sound = sound; reads = file_accepted s t rows (drawn s t rows seed horizon) sound.placed few sound.admissible }
