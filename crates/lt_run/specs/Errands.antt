-- The files of a run, in their order, and how far each may be read.
use Rattle.std.specs.Prelude.{ℕ, List, ◌++◌, Option}
use Rattle.lt_io.specs.Visits.{Errand}
use Rattle.lt_schedule.specs.Errand.{schedule_errand}
use Rattle.lt_load.specs.Errands.{load_errands}

-- the program, the setup if there is one, the inputs and the schedule
abbrev pub run_errands : (program inputs schedule : List ℕ) (config : Option (List ℕ)) → List Errand
run_errands program inputs schedule config = load_errands program inputs config ++ schedule_errand schedule
