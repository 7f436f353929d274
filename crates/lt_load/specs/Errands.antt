-- The files that a command reads whole, in their order, and how far each may be read.
use Rattle.std.specs.Prelude.{ℕ, ◌+◌, List, [], ◌∷◌, ◌++◌, Option, Some, None}
use Rattle.lt_io.specs.Visits.{Errand}
use Rattle.lt_load_fit.specs.declared.fault.What.{What}
use Rattle.lt_load_fit.specs.declared.fault.What.TheVariants.{ProgramBytes, ConfigBytes, InputsBytes}
use Rattle.lt_load.specs.Loaded.{limit_of}

-- to read a file up to its limit, and one byte more, which shows that there are too many
abbrev pub whole_errand : What → (name : List ℕ) → List Errand
whole_errand what name = record { name = name; most = limit_of what + 1 } ∷ []

abbrev pub program_errand : (name : List ℕ) → List Errand
program_errand name = whole_errand ProgramBytes name

abbrev pub config_errand : (name : List ℕ) → List Errand
config_errand name = whole_errand ConfigBytes name

abbrev pub inputs_errand : (name : List ℕ) → List Errand
inputs_errand name = whole_errand InputsBytes name

-- the setup's, if there is one
abbrev pub setup_errand : Option (List ℕ) → List Errand
setup_errand None = []
setup_errand (Some name) = config_errand name

-- the program, and the setup if there is one
abbrev pub check_errands : (program : List ℕ) (config : Option (List ℕ)) → List Errand
check_errands program config = program_errand program ++ setup_errand config

-- the program, the setup if there is one, and the inputs
abbrev pub load_errands : (program inputs : List ℕ) (config : Option (List ℕ)) → List Errand
load_errands program inputs config = program_errand program ++ (setup_errand config ++ inputs_errand inputs)
