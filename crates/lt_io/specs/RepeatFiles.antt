-- A file of one line, many times over.
use Rattle.std.specs.Prelude.{◌≡◌, ◌<◌, ◌≤◌, ◌+◌, ◌*◌, max, ℕ, zero, suc, Bool, true, List, [], ◌++◌, length, codes, Option, Some, None, if◌then◌else◌}
use Rattle.std.specs.Str.{bytes_eq}
use Rattle.lt_io.specs.FilesState.{FilesState}
use Rattle.lt_io.specs.Visits.{Visit}

pub record RepeatState : Type 0 where
  -- the bytes, and how many times the file has them
  pub line : List ℕ
  pub times : ℕ
  -- how many times they were read whole, and how many bytes since
  pub whole : ℕ
  pub since : ℕ
  pub is_open : Bool
  pub visits : List Visit
  pub faults : ℕ

abbrev pub repeat_state : (line : List ℕ) (times whole since : ℕ) (is_open : Bool) (visits : List Visit) (faults : ℕ) → RepeatState
repeat_state line times whole since is_open visits faults =
    record { line = line; times = times; whole = whole; since = since; is_open = is_open; visits = visits; faults = faults }

-- these bytes, so many times
unfoldable pub repeated_bytes : ℕ → List ℕ → List ℕ
repeated_bytes zero line = []
repeated_bytes (suc n) line = line ++ repeated_bytes n line

-- the place is in the file, and the bytes read since are fewer than a line has, or none
pub record RepeatIsWithin (s : RepeatState) : Type 0 where
  pub whole : s.whole ≤ s.times
  pub since : s.since < max 1 (length s.line)
  pub at_end : s.whole ≡ s.times → s.since ≡ 0

-- the only file
abbrev pub only_file : List ℕ → List ℕ → Option (List ℕ)
only_file bytes name = if bytes_eq name (codes "lines") then Some bytes else None

abbrev pub repeat_files_state : RepeatState → FilesState
repeat_files_state s = record {
  sound = true;
  told = true;
  named = only_file (repeated_bytes s.times s.line);
  bytes = repeated_bytes s.times s.line;
  place = s.whole * length s.line + s.since;
  visits = s.visits;
  is_open = s.is_open;
  faults = s.faults;
}
