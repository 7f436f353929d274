-- What the system's objects hold.
use Rattle.std.specs.Prelude.{ℕ, Bool, false, List, [], Option, Some, None}
use Rattle.lt_io.specs.FilesState.{FilesState}
use Rattle.lt_io.specs.SinkState.{SinkState}
use Rattle.lt_io.specs.Visits.{Visit}

-- files that tell no bytes, of these visits
abbrev pub untold_files : List Visit → (is_open : Bool) (faults : ℕ) → FilesState
untold_files visits is_open faults =
    record { sound = false; told = false; named = λ _. None; bytes = []; place = 0; visits = visits; is_open = is_open; faults = faults }

-- a sink that does not tell what it took
abbrev pub untold_sink : (faults : ℕ) → SinkState
untold_sink faults = record { sound = false; told = false; taken = []; faults = faults }

-- the bytes that the open file will give, where they are known
abbrev pub left_in : {F : Type 0} → (remaining : F → Option (List ℕ)) → Option F → Option (List ℕ)
left_in remaining None = None
left_in remaining (Some file) = remaining file
