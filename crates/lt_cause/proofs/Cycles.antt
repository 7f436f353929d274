-- Between the table and the function, and the least cycle.
use Rattle.std.proofs.Common.{◌≡◌, ℕ, suc, ◌<◌, ◌≤◌, inl, inr, true, List, [], ◌∷◌, ◌+◌, below_more, length, get_or, sym, ap, subst, arith}
use Rattle.std.proofs.lemmas.List.{get_or_past}
use Rattle.std.proofs.lemmas.Option.{get_or_from_slice_get}
use Rattle.std.proofs.lemmas.Bool.Decides.{leb_tells}
use Rattle.lt_base.specs.Program.{Function}
use Rattle.lt_base.specs.Dependence.{has, Depends}
use Rattle.lt_base.specs.Graph.{Walks, ClosedWalk}
use Rattle.lt_graph.specs.Tables.{Leads}
use Rattle.lt_cause.specs.Tables.{Sorts, HasClosedWalk, Circles}
use Rattle.lt_cause.specs.Orders.{IsLeastCycle, HasDependencies}
use Rattle.std.specs.Prelude.{Result, Err}
use Rattle.lt_base.specs.declared.memory.Or.{Or}
use Rattle.lt_base.specs.declared.memory.Or.TheVariants.{Fault}
use Rattle.lt_cause.specs.declared.causality.Order.{Order}
use Rattle.lt_cause.specs.declared.causality.Cycle.{Cycle}
use Rattle.lt_cause.proofs.Walks.{turned}

module _ (f : Function) (table : List (List ℕ)) (told : HasDependencies f table) where
  -- to lead to a number in the table is to depend on it
  pub same_relation : ◌≡◌ {A = ℕ → ℕ → Type 0} (Leads table) (Depends f)
  same_relation = λ i x y. has y (told.tells x i) ≡ true

  pub sorts_variables : (order : List ℕ) → Sorts (Leads table) (length table) order → Sorts (Depends f) (length f.decls) order
  sorts_variables order h = subst (λ n. Sorts (Depends f) n order) told.size (subst (λ (R : ℕ → ℕ → Type 0). Sorts R (length table) order) same_relation h)

  -- no closed walk starts below the variable
  abbrev pub NoneBelow : ℕ → Type 0
  NoneBelow n = (x : ℕ) → x < n → (walk : List ℕ) → ClosedWalk (Leads table) (x ∷ walk) → ⊥

  pub none_below_more : (n : ℕ) → NoneBelow n → ((walk : List ℕ) → ClosedWalk (Leads table) (n ∷ walk) → ⊥) → NoneBelow (n + 1)
  none_below_more n h k = below_more (λ x. (walk : List ℕ) → ClosedWalk (Leads table) (x ∷ walk) → ⊥) n h k

  least_by : (v : ℕ) → NoneBelow v → (walk : List ℕ) → ClosedWalk (Leads table) walk → (x : ℕ) → has x walk ≡ true → v ≤ x
  least_by v none walk c x h = elim (leb_tells (suc x) v) [
    | inl a ↦ let t = turned (Leads table) walk x c h in absurd (none x (omega (arith, a.1)) t.0 t.1)
    | inr a ↦ omega (arith, a.1)
  ]

  pub least_cycle : (v : ℕ) (walk : List ℕ) → NoneBelow v → Circles (Leads table) v walk → IsLeastCycle f walk
  least_cycle v walk none c = record {
    closed = subst (λ (R : ℕ → ℕ → Type 0). ClosedWalk R walk) same_relation c.closed;
    once = c.once;
    least = λ other d x h.
        let start : get_or walk 0 0 ≡ v = get_or_from_slice_get walk 0 v 0 c.starts in
        let l = least_by v none other (subst (λ (R : ℕ → ℕ → Type 0). ClosedWalk R other) (sym same_relation) d) x h in
        omega (arith, start, l);
  }

  leads_within : (x y : ℕ) → Leads table x y → x < length table
  leads_within x y h = elim (leb_tells (suc x) (length table)) [ inl a ↦ omega (arith, a.1) | inr a ↦ let e = get_or_past table x [] (omega (arith, a.1)) in let n = subst (λ (l : List ℕ). has y l ≡ true) e h in absurd (cc) ]

  walks_within : (x y : ℕ) (xs : List ℕ) → Walks (Leads table) x xs y → x < length table
  walks_within x y [] h = leads_within x y h
  walks_within x y (z ∷ zs) h = leads_within x z h.0

  -- a closed walk starts at a number of the table
  pub some_starts : HasClosedWalk (Leads table) → NoneBelow (length table) → ⊥
  some_starts h none = by h.0 h.1
    where
      by : (walk : List ℕ) → ClosedWalk (Leads table) walk → ⊥
      by [] c = c
      by (x ∷ xs) c = none x (walks_within x x xs c) xs c

-- a fault that is another has its variables
pub same_vars : (a b : Cycle) → ◌≡◌ {A = Result Order (Or Cycle)} (Err (Fault a)) (Err (Fault b)) → a.vars ≡ b.vars
same_vars a b e = let same : a ≡ b = cc in ap (λ (c : Cycle). c.vars) same
