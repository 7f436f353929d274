-- Walks along a relation between numbers.
use Rattle.std.specs.Prelude.{ℕ, List, [], ◌∷◌}

-- a walk from x by these numbers to y, each step one of the relation
abbrev pub Walks : (ℕ → ℕ → Type 0) → ℕ → List ℕ → ℕ → Type 0
Walks R x [] y = R x y
Walks R x (z ∷ zs) y = R x z × Walks R z zs y

-- each leads to the next, and the last to the first
abbrev pub ClosedWalk : (ℕ → ℕ → Type 0) → List ℕ → Type 0
ClosedWalk R [] = ⊥
ClosedWalk R (x ∷ xs) = Walks R x xs x

-- no walk is closed
abbrev pub NoClosedWalk : (ℕ → ℕ → Type 0) → Type 0
NoClosedWalk R = (xs : List ℕ) → ClosedWalk R xs → ⊥
