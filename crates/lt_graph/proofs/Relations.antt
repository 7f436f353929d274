-- Walks under one relation that goes along with another.
use Rattle.std.proofs.Common.{ℕ, List, [], ◌∷◌}
use Rattle.lt_base.specs.Graph.{Walks, ClosedWalk, NoClosedWalk}

module _ (R S : ℕ → ℕ → Type 0) (along : (x y : ℕ) → R x y → S x y) where
  pub walks_along : (xs : List ℕ) (x y : ℕ) → Walks R x xs y → Walks S x xs y
  walks_along [] x y w = along x y w
  walks_along (z ∷ zs) x y w = (along x z w.0, walks_along zs z y w.1)

  pub closed_along : (xs : List ℕ) → ClosedWalk R xs → ClosedWalk S xs
  closed_along [] c = c
  closed_along (x ∷ xs) c = walks_along xs x x c

  -- where no walk of the larger relation is closed, none of the smaller one is
  pub none_closed_along : NoClosedWalk S → NoClosedWalk R
  none_closed_along none xs c = none xs (closed_along xs c)
