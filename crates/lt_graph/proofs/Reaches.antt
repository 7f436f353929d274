-- What a number reaches.
use Rattle.std.proofs.Common.{◌≡◌, ℕ, ◌<◌, inl, inr, Bool, true, false, List, [], ◌∷◌, ◌++◌, zero, suc, length, get_or, refl, sym, subst, arith, eqb-true}
use Rattle.std.specs.Prelude.{◌||◌, nat_eq}
use Rattle.lt_base.specs.Dependence.{has}
use Rattle.lt_base.specs.Graph.{Walks}
use Rattle.lt_base.proofs.Lookups.{same_self}
use Rattle.lt_base.proofs.Reading.{or_left, or_right}
use Rattle.lt_graph.specs.Reach.{IsOrReaches}

-- a number in a list stands at a place of it
pub has_place : (y : ℕ) (xs : List ℕ) → has y xs ≡ true → (j : ℕ) × (j < length xs) × (get_or xs j 0 ≡ y)
has_place y [] h = absurd (cc)
has_place y (x ∷ xs) h = go (nat_eq y x) refl h (has_place y xs)
  where
    go : (b : Bool) → nat_eq y x ≡ b → (b || has y xs) ≡ true → (has y xs ≡ true → (j : ℕ) × (j < length xs) × (get_or xs j 0 ≡ y)) → (j : ℕ) × (j < length (x ∷ xs)) × (get_or (x ∷ xs) j 0 ≡ y)
    go true e h later = (0, omega arith, sym (eqb-true y x e))
    go false e h later = let r = later h in (suc r.0, (let l = r.1 in omega (arith, l)), r.2)

-- what stands at a place of a list is in it
pub place_has : (xs : List ℕ) (j : ℕ) → j < length xs → has (get_or xs j 0) xs ≡ true
place_has [] j l = absurd (omega arith)
place_has (x ∷ xs) zero l = or_left (nat_eq x x) (has x xs) (same_self x)
place_has (x ∷ xs) (suc j) l = or_right (nat_eq (get_or xs j 0) x) (has (get_or xs j 0) xs) (place_has xs j (omega (arith, l)))

module _ (R : ℕ → ℕ → Type 0) where
  walks_join : (xs ys : List ℕ) (x y z : ℕ) → Walks R x xs y → Walks R y ys z → Walks R x (xs ++ y ∷ ys) z
  walks_join [] ys x y z a b = (a, b)
  walks_join (w ∷ ws) ys x y z a b = (a.0, walks_join ws ys w y z a.1 b)

  pub reach_same : (x y : ℕ) → x ≡ y → IsOrReaches R x y
  reach_same x y e = inl e

  pub reach_step : (x y : ℕ) → R x y → IsOrReaches R x y
  reach_step x y r = inr ([], r)

  pub reach_trans : (x y z : ℕ) → IsOrReaches R x y → IsOrReaches R y z → IsOrReaches R x z
  reach_trans x y z (inl e) b = subst (λ w. IsOrReaches R w z) (sym e) b
  reach_trans x y z (inr a) (inl e) = subst (λ w. IsOrReaches R x w) e (inr a)
  reach_trans x y z (inr a) (inr b) = inr (a.0 ++ y ∷ b.0, walks_join a.0 b.0 x y z a.1 b.1)

  -- a fact that each number hands on to those that it leads to
  module _ (P : ℕ → Type 0) (on : (x y : ℕ) → P x → R x y → P y) where
    walks_on : (xs : List ℕ) (x y : ℕ) → Walks R x xs y → P x → P y
    walks_on [] x y w p = on x y p w
    walks_on (z ∷ zs) x y w p = walks_on zs z y w.1 (on x z p w.0)

    pub reach_on : (x y : ℕ) → IsOrReaches R x y → P x → P y
    reach_on x y (inl e) p = subst P e p
    reach_on x y (inr w) p = walks_on w.0 x y w.1 p
