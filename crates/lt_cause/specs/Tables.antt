-- Orders and closed walks of numbers.
use Rattle.std.specs.Prelude.{◌≡◌, ℕ, ◌≤◌, true, nat_eq, nat_lt, Some, List, ◌∷◌, take, slice_get, if◌then◌else◌}
use Rattle.std.specs.List.{count_by}
use Rattle.lt_base.specs.Dependence.{has}
use Rattle.lt_base.specs.Graph.{ClosedWalk}

-- how often a number stands in a list
abbrev pub occurrences : ℕ → List ℕ → ℕ
occurrences x xs = count_by (nat_eq x) xs

-- each number below n once, and each after those that it is related to
pub record Sorts (R : ℕ → ℕ → Type 0) (n : ℕ) (order : List ℕ) : Type 0 where
  pub once : (x : ℕ) → occurrences x order ≡ (if nat_lt x n then 1 else 0)
  pub after : (i x : ℕ) → slice_get order i ≡ Some x → (y : ℕ) → R x y → has y (take i order) ≡ true

-- some walk is closed
abbrev pub HasClosedWalk : (ℕ → ℕ → Type 0) → Type 0
HasClosedWalk R = (walk : List ℕ) × ClosedWalk R walk

-- a closed walk leads from the number
abbrev pub HasWalkFrom : (ℕ → ℕ → Type 0) → ℕ → Type 0
HasWalkFrom R v = (walk : List ℕ) × ClosedWalk R (v ∷ walk)

-- none does
abbrev pub HasNoWalkFrom : (ℕ → ℕ → Type 0) → ℕ → Type 0
HasNoWalkFrom R v = (walk : List ℕ) → ClosedWalk R (v ∷ walk) → ⊥

-- a closed walk from the number, without a repeated one
pub record Circles (R : ℕ → ℕ → Type 0) (v : ℕ) (walk : List ℕ) : Type 0 where
  pub starts : slice_get walk 0 ≡ Some v
  pub closed : ClosedWalk R walk
  pub once : (x : ℕ) → occurrences x walk ≤ 1
