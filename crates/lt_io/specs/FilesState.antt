-- What an object of `Files` stands for, and what its calls do to it.
use Rattle.std.specs.Prelude.{◌≡◌, ◌<◌, ◌+◌, ◌↔◌, ℕ, Bool, IsTrue, List, [], ◌++◌, length, take, drop, Option, Some, IsSome, Result, IfOk, OnOk, IsOk, is_ok, MatchResult}
use Rattle.std.specs.Io.{ReadsAtMost}
use Rattle.lt_io.specs.Counts.{Counted}
use Rattle.lt_io.specs.Visits.{Visit, opened, took, unread}

pub record FilesState : Type 0 where
  -- whether only an `open` of a missing name fails
  pub sound : Bool
  -- whether the map from names to bytes and the place in the open file are told
  pub told : Bool
  -- where told: the bytes of each file, by its name
  pub named : List ℕ → Option (List ℕ)
  -- where told: the bytes of the open file, and the place in it
  pub bytes : List ℕ
  pub place : ℕ
  -- the visits so far, the last one first: each call of `open` is one, whether or not it answered Ok
  pub visits : List Visit
  -- whether the last `open` answered Ok
  pub is_open : Bool
  -- the count of faults
  pub faults : ℕ

-- what is left of the open file
abbrev pub file_left : FilesState → List ℕ
file_left s = drop s.place s.bytes

-- what no call changes
pub record KeepsNames (old new : FilesState) : Type 0 where
  pub sound : new.sound ≡ old.sound
  pub told : new.told ≡ old.told
  pub named : new.named ≡ old.named

-- what no call but `open` changes: the same, and the visits but for the bytes read in the last of them
pub record KeepsFiles (old new : FilesState) : Type 0 where
  pub sound : new.sound ≡ old.sound
  pub told : new.told ≡ old.told
  pub named : new.named ≡ old.named
  pub visits : unread new.visits ≡ unread old.visits

-- the file of this name is the open one, at its start
pub record Opens (old new : FilesState) (name : List ℕ) : Type 0 where
  pub bytes : old.named name ≡ Some new.bytes
  pub place : new.place ≡ 0

-- a call of `open`
pub record OpensFile {T E : Type 0} (old new : FilesState) (name : List ℕ) (result : Result T E) : Type 0 where
  pub cause : Counted old.faults new.faults result
  pub keeps : KeepsNames old new
  pub visits : new.visits ≡ opened name old.visits
  pub opened : new.is_open ≡ is_ok result
  -- so a missing file is a counted failure
  pub file : IsTrue old.told → OnOk result (Opens old new name)
  pub sound : IsTrue old.sound → IsSome (old.named name) → IsOk result

-- the next bytes are at the buffer's front, and there are none exactly at the end of the file
pub record Reads (old new : FilesState) (count : ℕ) (buf : List ℕ) : Type 0 where
  pub next : file_left old ≡ take count buf ++ file_left new
  pub place : new.place ≡ old.place + count
  pub at_end : 0 < length buf → (count ≡ 0) ↔ (file_left old ≡ [])

-- a call of `read`, which leaves these bytes in the buffer
pub record ReadsNext {E : Type 0} (old new : FilesState) (buf : List ℕ) (result : Result ℕ E) : Type 0 where
  pub cause : Counted old.faults new.faults result
  pub keeps : KeepsFiles old new
  pub opened : IsTrue new.is_open
  pub bound : ReadsAtMost result buf
  pub visits : MatchResult result (λ n. new.visits ≡ took n old.visits) (λ _. new.visits ≡ old.visits)
  pub file : IsTrue old.told → new.bytes ≡ old.bytes
  pub bytes : IsTrue old.told → IfOk result (λ n. Reads old new n buf)
  pub sound : IsTrue old.sound → IsOk result
