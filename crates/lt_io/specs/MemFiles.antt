-- Files in memory.
use Rattle.std.specs.Prelude.{ℕ, true, List, [], Option, slice_get, unwrap_or, position, find}
use Rattle.std.specs.Str.{bytes_eq}
use Rattle.std.specs.Option.{option_map}
use Rattle.lt_io.specs.FilesState.{FilesState}
use Rattle.lt_io.specs.Calls.{never_fails}
use Rattle.lt_io.specs.declared.calls.Calls.{Calls}
use Rattle.lt_io.specs.declared.mem_files.MemFile.{MemFile}
use Rattle.lt_io.specs.declared.mem_files.MemFiles.{MemFiles}

-- the bytes of the file at this place in the list
abbrev pub bytes_at : List MemFile → ℕ → List ℕ
bytes_at files i = unwrap_or (option_map (λ file. file.bytes) (slice_get files i)) []

-- the place of the first file of this name
abbrev pub place_of : List MemFile → List ℕ → Option ℕ
place_of files name = position (λ file. bytes_eq file.name name) files

-- the bytes of the first file of this name
abbrev pub lookup : List MemFile → List ℕ → Option (List ℕ)
lookup files name = option_map (λ file. file.bytes) (find (λ file. bytes_eq file.name name) files)

abbrev pub mem_files_state : MemFiles → FilesState
mem_files_state m = record { sound = never_fails m.calls; told = true; named = lookup m.files; bytes = bytes_at m.files m.current; place = m.place; visits = m.history.visits; is_open = m.is_open; faults = m.calls.faults }

-- the calls on these files
abbrev pub files_calls : MemFiles → Calls
files_calls m = m.calls
