-- How far a schedule file may be read.
use Rattle.std.specs.Prelude.{ℕ, List, [], ◌∷◌}
use Rattle.lt_io.specs.Visits.{Errand}
use Rattle.lt_rows.specs.Limits.{most_read}

-- to read the schedule file of this name
abbrev pub schedule_errand : (name : List ℕ) → List Errand
schedule_errand name = record { name = name; most = most_read } ∷ []
