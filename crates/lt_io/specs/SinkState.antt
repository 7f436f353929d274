-- What an object of `Sink` stands for, and what its calls do to it.
use Rattle.std.specs.Prelude.{◌≡◌, ◌<◌, ◌≤◌, ℕ, Bool, IsTrue, List, ◌++◌, length, take, Result, IfOk, MatchResult}
use Rattle.lt_io.specs.declared.fault.SinkErr.{SinkErr}
use Rattle.lt_io.specs.Counts.{SinkCounted}

pub record SinkState : Type 0 where
  -- whether the count never rises
  pub sound : Bool
  -- whether the bytes taken are told
  pub told : Bool
  -- where told: the bytes taken so far
  pub taken : List ℕ
  -- the count of faults
  pub faults : ℕ

-- what no call changes
pub record KeepsSink (old new : SinkState) : Type 0 where
  pub sound : new.sound ≡ old.sound
  pub told : new.told ≡ old.told

-- a call of `write`, which takes a front of at least one byte, or nothing
pub record WritesFront (old new : SinkState) (bytes : List ℕ) (result : Result ℕ SinkErr) : Type 0 where
  pub cause : SinkCounted old.faults new.faults result
  pub keeps : KeepsSink old new
  pub front : IfOk result (λ n. (0 < n) × (n ≤ length bytes))
  pub taken : IsTrue old.told → MatchResult result (λ n. new.taken ≡ old.taken ++ take n bytes) (λ _. new.taken ≡ old.taken)
  pub sound : IsTrue old.sound → new.faults ≡ old.faults
