-- The calls on an object in memory, of which some are to fail.
use Rattle.std.specs.Prelude.{◌≡◌, ℕ, ◌+◌, ◌-◌, ◌^◌, ◌==◌, min, Bool, length, Contains}
use Rattle.lt_io.specs.declared.calls.Calls.{Calls}

-- the number of the next call, counted from 1; the count stops at its last value
abbrev pub next_call : Calls → ℕ
next_call c = min (c.made + 1) (2 ^ 64 - 1)

-- no call is to fail
abbrev pub never_fails : Calls → Bool
never_fails c = length c.fails == 0

-- the next call is to fail
abbrev pub IsListed : Calls → Type 0
IsListed c = Contains c.fails (next_call c)

-- one call more
pub record CountsCall (old new : Calls) : Type 0 where
  pub made : new.made ≡ next_call old
  pub fails : new.fails ≡ old.fails
