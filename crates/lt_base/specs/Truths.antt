-- Truths that are equal, and how many are true.
use Rattle.std.specs.Prelude.{ℕ, zero, suc, ◌+◌, Bool, not, if◌then◌else◌}

-- the two are equal
abbrev pub same_truth : Bool → Bool → Bool
same_truth Bool.true b = b
same_truth Bool.false b = not b

-- how many numbers below n pass a test
abbrev pub how_many : (p : ℕ → Bool) (n : ℕ) → ℕ
how_many p zero = 0
how_many p (suc k) = how_many p k + (if p k then 1 else 0)
