-- A line that is too long.
use Rattle.std.specs.Prelude.{◌≡◌, ◌<◌, ℕ, List, length, Err}
use Rattle.lt_arch.specs.declared.shape.Shape.{Shape}
use Rattle.lt_rows.specs.declared.fault.RowFault.TheVariants.{NotCsv}
use Rattle.lt_rows.specs.Events.{event_of}
use Rattle.lt_rows.proofs.Commas.{none_long}
use Rattle.lt_rows.proofs.Timed.{no_event}

-- it reads as no event
pub long_line : (s : Shape) (line : List ℕ) → 4096 < length line → event_of s line ≡ Err NotCsv
long_line s line long = no_event s line (none_long line long)
