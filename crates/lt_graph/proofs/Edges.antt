-- Edges and their table.
use Rattle.std.proofs.Common.{◌≡◌, ℕ, zero, suc, ◌<◌, ◌+◌, inl, inr, Bool, true, false, List, [], ◌∷◌, ◌++◌, length, get_or, set, Some, refl, sym, ap, ◌∙◌, subst, arith, eqb-true}
use Rattle.std.specs.Prelude.{◌||◌, nat_eq}
use Rattle.std.specs.List.{Contains, slice_get}
use Rattle.std.proofs.lemmas.List.{get_or_default, get_or-set_same, get_or-set_other, length-set}
use Rattle.std.proofs.lemmas.List.Elements.{Contains-get_or, Contains-append_left, Contains-push, Contains-push_cases}
use Rattle.std.proofs.lemmas.Option.{get_or_from_slice_get}
use Rattle.std.proofs.lemmas.Bool.Decides.{leb_tells, eqb_tells}
use Rattle.lt_base.specs.Dependence.{has}
use Rattle.lt_base.specs.Graph.{NoClosedWalk}
use Rattle.lt_base.proofs.Lookups.{same_self}
use Rattle.lt_base.proofs.Reading.{or_left, has_front, has_back, has_cases}
use Rattle.lt_graph.specs.Tables.{next, Leads}
use Rattle.lt_graph.specs.Reach.{AreComponents}
use Rattle.lt_graph.specs.Edges.{Joined, AreWithin, IsCircular, HasEdges}
use Rattle.lt_graph.proofs.Relations.{walks_along}

-- ---- one more edge in the table

has_last : (y z : ℕ) → has y (z ∷ []) ≡ true → y ≡ z
has_last y z h = by (nat_eq y z) refl h
  where
    by : (b : Bool) → nat_eq y z ≡ b → (b || false) ≡ true → y ≡ z
    by true e k = eqb-true y z e
    by false e k = absurd (cc)

module _ (nodes : ℕ) (edges : List (ℕ × ℕ)) (table : List (List ℕ)) (h : HasEdges nodes edges table) (e : ℕ × ℕ) (inside : e.0 < nodes) where
  row_inside : e.0 < length table
  row_inside = let n = h.size in omega (arith, inside, n)

  abbrev table' : List (List ℕ)
  table' = set table e.0 (next table e.0 ++ e.1 ∷ [])

  next_here : next table' e.0 ≡ next table e.0 ++ e.1 ∷ []
  next_here = get_or-set_same table e.0 (next table e.0 ++ e.1 ∷ []) [] row_inside

  next_other : (x : ℕ) → (x ≡ e.0 → ⊥) → next table' x ≡ next table x
  next_other x n = get_or-set_other table e.0 x (next table e.0 ++ e.1 ∷ []) [] n

  joined_more : (x y : ℕ) → Leads table' x y → Joined (edges ++ e ∷ []) x y
  joined_more x y l = elim (eqb_tells x e.0) [
    | inl a ↦
        elim (has_cases y (next table e.0) (e.1 ∷ []) (subst (λ r. has y r ≡ true) (ap (next table') a.1 ∙ next_here) l)) [
          | inl b ↦ Contains-append_left edges (e ∷ []) (x, y) (h.joined x y (subst (λ z. Leads table z y) (sym a.1) b))
          | inr b ↦
              let same : e ≡ (x, y) = λ i. (sym a.1 i, sym (has_last y e.1 b) i) in
              subst (λ q. Contains (edges ++ e ∷ []) q) same (Contains-push edges e)
        ]
    | inr a ↦ Contains-append_left edges (e ∷ []) (x, y) (h.joined x y (subst (λ r. has y r ≡ true) (next_other x a.1) l))
  ]

  leads_more : (x y : ℕ) → Joined (edges ++ e ∷ []) x y → Leads table' x y
  leads_more x y j = elim (Contains-push_cases edges e (x, y) j) [
    | inl a ↦ elim (eqb_tells x e.0) [
      | inl b ↦ subst (λ r. has y r ≡ true) (sym (ap (next table') b.1 ∙ next_here)) (has_front y (next table e.0) (e.1 ∷ []) (subst (λ z. Leads table z y) b.1 (h.leads x y a)))
      | inr b ↦ subst (λ r. has y r ≡ true) (sym (next_other x b.1)) (h.leads x y a)
    ]
    | inr a ↦
        let from' : e.0 ≡ x = ap (λ (q : ℕ × ℕ). q.0) a in
        let to' : e.1 ≡ y = ap (λ (q : ℕ × ℕ). q.1) a in
        subst (λ r. has y r ≡ true) (sym (ap (next table') (sym from') ∙ next_here))
        (has_back y (next table e.0) (e.1 ∷ []) (subst (λ z. has z (e.1 ∷ []) ≡ true) to' (or_left (nat_eq e.1 e.1) false (same_self e.1))))
  ]

  pub one_more : HasEdges nodes (edges ++ e ∷ []) table'
  one_more = record { size = length-set table e.0 (next table e.0 ++ e.1 ∷ []) ∙ h.size; joined = joined_more; leads = leads_more }

-- ---- circular edges have ends in one component

module _ (nodes : ℕ) (edges : List (ℕ × ℕ)) (within : AreWithin nodes edges) (table : List (List ℕ)) (h : HasEdges nodes edges table) (names : List ℕ) (c : AreComponents (Leads table) (length table) names) where
  ends_within : (e : ℕ × ℕ) → Contains edges e → (e.0 < length table) × (e.1 < length table)
  ends_within e m =
      let w : (e.0 < nodes) × (e.1 < nodes) = subst (λ (q : ℕ × ℕ). (q.0 < nodes) × (q.1 < nodes)) m.2 (within m.0 e m.1) in
      let n = h.size in
      let a = w.0 in
      let b = w.1 in
      (omega (arith, a, n), omega (arith, b, n))

  pub same_circular : (e : ℕ × ℕ) → Contains edges e → get_or names e.0 0 ≡ get_or names e.1 0 → IsCircular edges e
  same_circular e m s =
      let w = ends_within e m in
      elim (c.same e.1 e.0 w.1 w.0 (sym s)) [
        | inl q ↦ ([], subst (λ z. Joined edges z e.0) (sym q) (subst (Joined edges e.0) q m))
        | inr r ↦ (r.0, walks_along (Leads table) (Joined edges) h.joined r.0 e.1 e.0 r.1)
      ]

  pub circular_same : (e : ℕ × ℕ) → Contains edges e → IsCircular edges e → get_or names e.0 0 ≡ get_or names e.1 0
  circular_same e m r =
      let w = ends_within e m in
      c.together e.0 e.1 w.0 w.1 ([], h.leads e.0 e.1 m) (r.0, walks_along (Joined edges) (Leads table) h.leads r.0 e.1 e.0 r.1)

  -- the names of the ends of an edge, as they are read
  pub read_same : (k : ℕ) (a b : ℕ) → k < length edges → a ≡ get_or names (get_or edges k (0, 0)).0 a → b ≡ get_or names (get_or edges k (0, 0)).1 b → (a ≡ get_or names (get_or edges k (0, 0)).0 0) × (b ≡ get_or names (get_or edges k (0, 0)).1 0)
  read_same k a b l ea eb =
      let e = get_or edges k (0, 0) in
      let w = ends_within e (Contains-get_or edges k (0, 0) l) in
      let n = c.size in
      let u = w.0 in
      let v = w.1 in
      (ea ∙ get_or_default names e.0 a 0 (omega (arith, u, n)), eb ∙ get_or_default names e.1 b 0 (omega (arith, v, n)))

  abbrev pub NoneBefore : ℕ → Type 0
  NoneBefore place = (k : ℕ) (e : ℕ × ℕ) → k < place → slice_get edges k ≡ Some e → IsCircular edges e → ⊥

  pub none_before_more : (place a b : ℕ) → place < length edges → a ≡ get_or names (get_or edges place (0, 0)).0 a → b ≡ get_or names (get_or edges place (0, 0)).1 b → (a ≡ b → ⊥) → NoneBefore place → NoneBefore (place + 1)
  none_before_more place a b l ea eb n before k e m at r = elim (leb_tells (suc k) place) [
    | inl i ↦ before k e (let j = i.1 in omega (arith, j)) at r
    | inr i ↦
        let here : k ≡ place = let j = i.1 in omega (arith, j, m) in
        let is : get_or edges place (0, 0) ≡ e = ap (λ z. get_or edges z (0, 0)) (sym here) ∙ get_or_from_slice_get edges k e (0, 0) at in
        let read = read_same place a b l ea eb in
        let there = Contains-get_or edges place (0, 0) l in
        n (read.0 ∙ circular_same (get_or edges place (0, 0)) there (subst (IsCircular edges) (sym is) r) ∙ sym read.1)
  ]

-- an edge of the list stands at a place of it
found : (es : List (ℕ × ℕ)) (k : ℕ) (e : ℕ × ℕ) → k < length es → get_or es k e ≡ e → slice_get es k ≡ Some e
found [] k e l h = absurd (omega arith)
found (q ∷ es) zero e l h = ap Some h
found (q ∷ es) (suc k) e l h = found es k e (omega (arith, l)) h

-- a closed walk has an edge that lies on it
pub none_closed : (edges : List (ℕ × ℕ)) → ((k : ℕ) (e : ℕ × ℕ) → slice_get edges k ≡ Some e → IsCircular edges e → ⊥) → NoClosedWalk (Joined edges)
none_closed edges none [] c = c
none_closed edges none (x ∷ []) c = none c.0 (x, x) (found edges c.0 (x, x) c.1 c.2) ([], c)
none_closed edges none (x ∷ z ∷ zs) c = none c.0.0 (x, z) (found edges c.0.0 (x, z) c.0.1 c.0.2) (zs, c.1)
