-- The files of a meaning, in their order, and how far each may be read.
use Rattle.std.specs.Prelude.{ℕ, List, ◌++◌}
use Rattle.lt_io.specs.Visits.{Errand}
use Rattle.lt_load.specs.Errands.{program_errand, inputs_errand}

-- the program and the inputs
abbrev pub meaning_errands : (program inputs : List ℕ) → List Errand
meaning_errands program inputs = program_errand program ++ inputs_errand inputs
