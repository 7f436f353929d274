-- A number on a closed walk leads to one of its own component.
use Rattle.std.proofs.Common.{◌≡◌, ℕ, ◌<◌, inl, inr, List, [], ◌∷◌, length, get_or, refl, ap, ◌∙◌, subst}
use Rattle.lt_base.specs.Graph.{ClosedWalk}
use Rattle.lt_graph.specs.Tables.{next, Leads, IsTable}
use Rattle.lt_graph.specs.Reach.{AreComponents}
use Rattle.lt_graph.proofs.Reaches.{has_place, place_has}

module _ (g : List (List ℕ)) (names : List ℕ) (c : AreComponents (Leads g) (length g) names) (table : IsTable g) (x : ℕ) (inside : x < length g) where
  -- one of its own component leads back to it
  pub turns : (k : ℕ) → k < length (next g x) → get_or names (get_or (next g x) k 0) 0 ≡ get_or names x 0 → (walk : List ℕ) × ClosedWalk (Leads g) (x ∷ walk)
  turns k l e =
      let y = get_or (next g x) k 0 in
      let leads = place_has (next g x) k l in
      elim (c.same y x (table x y leads) inside e) [
        | inl q ↦ ([], subst (Leads g x) q leads)
        | inr r ↦ (y ∷ r.0, (leads, r.1))
      ]

  abbrev NoneOfIts : Type 0
  NoneOfIts = (k : ℕ) → k < length (next g x) → get_or names (get_or (next g x) k 0) 0 ≡ get_or names x 0 → ⊥

  at_place : (y : ℕ) → Leads g x y → NoneOfIts → get_or names y 0 ≡ get_or names x 0 → ⊥
  at_place y l none e = let p = has_place y (next g x) l in none p.0 p.1 (ap (λ z. get_or names z 0) p.2 ∙ e)

  -- where it leads to none of its own, no closed walk leads from it
  pub turns_not : NoneOfIts → (walk : List ℕ) → ClosedWalk (Leads g) (x ∷ walk) → ⊥
  turns_not none [] w = at_place x w none refl
  turns_not none (y ∷ ys) w = at_place y w.0 none (c.together y x (table x y w.0) inside (ys, w.1) ([], w.0))
