-- The files of an audit and of a trace, in their order, and how far each may be read.
use Rattle.std.specs.Prelude.{ℕ, List, ◌++◌, Some}
use Rattle.lt_io.specs.Visits.{Errand}
use Rattle.lt_schedule.specs.Errand.{schedule_errand}
use Rattle.lt_load.specs.Errands.{load_errands}

-- the program, the setup, the inputs and the schedule
abbrev pub inspect_errands : (program inputs schedule config : List ℕ) → List Errand
inspect_errands program inputs schedule config = load_errands program inputs (Some config) ++ schedule_errand schedule
