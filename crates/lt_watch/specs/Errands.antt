-- The files of a watched run, in their order, and how far each may be read.
use Rattle.std.specs.Prelude.{ℕ, List, ◌++◌, Option}
use Rattle.lt_io.specs.Visits.{Errand}
use Rattle.lt_schedule.specs.Errand.{schedule_errand}
use Rattle.lt_load_fit.specs.declared.fault.What.TheVariants.{ObserverBytes}
use Rattle.lt_load.specs.Errands.{load_errands, whole_errand}

abbrev pub observer_errand : (name : List ℕ) → List Errand
observer_errand name = whole_errand ObserverBytes name

-- the program, the setup if there is one, the inputs, the observer and the schedule
abbrev pub watch_errands : (program inputs schedule observer : List ℕ) (config : Option (List ℕ)) → List Errand
watch_errands program inputs schedule observer config = load_errands program inputs config ++ (observer_errand observer ++ schedule_errand schedule)
