-- Equations in the order of their variables.
use Rattle.std.proofs.Common.{◌≡◌, ℕ, zero, suc, ◌<◌, ◌≤◌, ◌+◌, inl, inr, Bool, true, false, cond, List, [], ◌∷◌, ◌++◌, length, take, get_or, Option, Some, None, refl, sym, ap, ◌∙◌, subst, arith, ltb-true, ltb-false, lt-ltb}
use Rattle.std.specs.Prelude.{nat_eq, nat_lt, if◌then◌else◌}
use Rattle.std.specs.Option.{MatchOption}
use Rattle.std.specs.List.{slice_get}
use Rattle.std.proofs.lemmas.List.{get_or_default, take_more, take_all, take_at, take-append-le, get_or_append_left, get_or_push, length_push, get_or-take, length-take}
use Rattle.std.proofs.lemmas.List.Sums.{sum_by-take-le}
use Rattle.std.proofs.lemmas.Option.{slice_get_read, slice_get_within, get_or_from_slice_get, slice_get-get_or, same_Some, none-some}
use Rattle.std.proofs.lemmas.Bool.Decides.{leb_tells, eqb_tells}
use Rattle.lt_base.specs.Expression.{Expression, variable}
use Rattle.lt_base.specs.Program.{Function, GoodFunction}
use Rattle.lt_base.specs.Equations.{left_count}
use Rattle.lt_base.specs.Dependence.{has, Depends}
use Rattle.lt_base.proofs.Lookups.{same_self, lefts_cons}
use Rattle.lt_cause.specs.Tables.{occurrences, Sorts}
use Rattle.lt_cause.specs.Orders.{IsOrder, NumberOf, HasEquationNumbers}
use Rattle.lt_cause.proofs.Walks.{one, count_push, has_counted, counted_has}
use Rattle.lt_cause.proofs.Table.{first_time, left_inside}

-- an equation counts among those of its variable
lefts_at : (qs : List (ℕ × Expression)) (k : ℕ) (p : ℕ × Expression) → slice_get qs k ≡ Some p → 0 < left_count p.0 qs
lefts_at [] k p h = absurd (cc)
lefts_at (q ∷ qs) zero p h =
    let same : q ≡ p = cc in
    let c = lefts_cons p.0 q qs in
    let o : ◌≡◌ {A = ℕ} (cond (nat_eq p.0 q.0) 1 0) 1 = ap (λ b. cond b 1 0) (ap (λ (r : ℕ × Expression). nat_eq p.0 r.0) same ∙ same_self p.0) in
    omega (arith, c, o)
lefts_at (q ∷ qs) (suc k) p h = let c = lefts_cons p.0 q qs in let l = lefts_at qs k p h in omega (arith, c, l)

get_take : (qs : List (ℕ × Expression)) (k m : ℕ) (p : ℕ × Expression) → k < m → slice_get qs k ≡ Some p → slice_get (take m qs) k ≡ Some p
get_take qs k m p l h =
    let w = slice_get_within qs k p h in
    let long : k < length (take m qs) = let t = length-take m qs in omega (arith, t, l, w) in
    slice_get-get_or (take m qs) k p long ∙ ap Some (get_or-take m qs k p l ∙ get_or_from_slice_get qs k p p h)

-- the equations of the first variables of an order
pub record Picked (f : Function) (order : List ℕ) (s : ℕ) (eqs : List ℕ) : Type 0 where
  pub counts : (k : ℕ) (p : ℕ × Expression) → slice_get f.eqs k ≡ Some p → occurrences k eqs ≡ occurrences p.0 (take s order)
  pub others : (k : ℕ) → length f.eqs ≤ k → occurrences k eqs ≡ 0
  pub after : (i k m : ℕ) (p q : ℕ × Expression) → slice_get eqs i ≡ Some k → slice_get f.eqs k ≡ Some p → slice_get f.eqs m ≡ Some q → Depends f p.0 q.0 → has m (take i eqs) ≡ true

module _ (f : Function) (good : GoodFunction f) where
  not_before : (k m : ℕ) (p q : ℕ × Expression) → slice_get f.eqs k ≡ Some p → slice_get f.eqs m ≡ Some q → p.0 ≡ q.0 → k < m → ⊥
  not_before k m p q h g e l =
      let some = lefts_at (take m f.eqs) k p (get_take f.eqs k m p l h) in
      let none : left_count p.0 (take m f.eqs) ≡ 0 = ap (λ x. left_count x (take m f.eqs)) e ∙ first_time f good m q g in
      omega (arith, some, none)

  -- a variable has one equation
  pub one_number : (k m : ℕ) (p q : ℕ × Expression) → slice_get f.eqs k ≡ Some p → slice_get f.eqs m ≡ Some q → p.0 ≡ q.0 → k ≡ m
  one_number k m p q h g e = elim (leb_tells (suc k) m) [
    | inl a ↦ absurd (not_before k m p q h g e (omega (arith, a.1)))
    | inr a ↦ elim (leb_tells (suc m) k) [ inl b ↦ absurd (not_before m k q p g h (sym e) (omega (arith, b.1))) | inr b ↦ omega (arith, a.1, b.1) ]
  ]

  pub none_picked : (order : List ℕ) → Picked f order 0 []
  none_picked order = record { counts = λ k p h. refl; others = λ k l. refl; after = λ i k m p q h. absurd (cc) }

  module _ (order : List ℕ) (sorts : Sorts (Depends f) (length f.decls) order) (s x : ℕ) (inside : s < length order) (is : x ≡ get_or order s x) (eqs : List ℕ) (before : Picked f order s eqs) where
    counted_more : (y : ℕ) → occurrences y (take (s + 1) order) ≡ occurrences y (take s order) + one y x
    counted_more y = ap (occurrences y) (take_more order s x inside ∙ ap (λ z. take s order ++ z ∷ []) (sym is)) ∙ count_push y x (take s order)

    one_not : (a b : ℕ) → (a ≡ b → ⊥) → one a b ≡ 0
    one_not a b h = elim (eqb_tells a b) [ inl e ↦ absurd (h e.1) | inr e ↦ ap (λ t. cond t 1 0) e.0 ]

    one_same : (a b : ℕ) → a ≡ b → one a b ≡ 1
    one_same a b h = ap (λ t. cond t 1 0) (ap (λ z. nat_eq z b) h ∙ same_self b)

    pub x_inside : x < length f.decls
    x_inside =
        let c = counted_more x in
        let o = one_same x x refl in
        let m = sum_by-take-le (λ z. cond (nat_eq x z) 1 0) order (s + 1) in
        by (nat_lt x (length f.decls)) refl (sorts.once x) (omega (arith, c, o, m))
      where
        by : (b : Bool) → nat_lt x (length f.decls) ≡ b → occurrences x order ≡ (if b then 1 else 0) → 0 < occurrences x order → x < length f.decls
        by true e h l = ltb-true x (length f.decls) e
        by false e h l = absurd (omega (arith, h, l))

    -- the variable has no equation
    pub pass_input : left_count x (take (length f.eqs) f.eqs) ≡ 0 → Picked f order (s + 1) eqs
    pass_input none = record {
      counts = λ k p h.
          let whole : left_count x f.eqs ≡ 0 = ap (left_count x) (sym (take_all (length f.eqs) f.eqs (omega arith))) ∙ none in
          let some = lefts_at f.eqs k p h in
          let c = counted_more p.0 in
          let o = one_not p.0 x (λ e. let n : left_count p.0 f.eqs ≡ 0 = ap (λ z. left_count z f.eqs) e ∙ whole in omega (arith, n, some)) in
          let b = before.counts k p h in
          omega (arith, c, o, b);
      others = before.others;
      after = before.after;
    }

    -- the variable has this equation
    module _ (m : ℕ) (q : ℕ × Expression) (at : slice_get f.eqs m ≡ Some q) (var : q.0 ≡ x) where
      same_count : (k : ℕ) (p : ℕ × Expression) → slice_get f.eqs k ≡ Some p → one k m ≡ one p.0 x
      same_count k p h = elim (eqb_tells k m) [
        | inl e ↦
            let same : p ≡ q = same_Some p q (sym h ∙ ap (slice_get f.eqs) e.1 ∙ at) in
            one_same k m e.1 ∙ sym (one_same p.0 x (ap (λ (r : ℕ × Expression). r.0) same ∙ var))
        | inr e ↦ one_not k m e.1 ∙ sym (one_not p.0 x (λ v. e.1 (one_number k m p q h at (v ∙ sym var))))
      ]

      after_by : (i k n : ℕ) (p r : ℕ × Expression) → slice_get (eqs ++ m ∷ []) i ≡ Some k → slice_get f.eqs k ≡ Some p → slice_get f.eqs n ≡ Some r → Depends f p.0 r.0 → has n (take i (eqs ++ m ∷ [])) ≡ true
      after_by i k n p r h hp hr d =
          let w = slice_get_within (eqs ++ m ∷ []) i k h in
          let size = length_push eqs m in
          elim (leb_tells (suc i) (length eqs)) [
            | inl a ↦
                let old : slice_get eqs i ≡ Some k =
                slice_get-get_or eqs i k (omega (arith, a.1)) ∙ ap Some (sym (get_or_append_left eqs (m ∷ []) k i (omega (arith, a.1))) ∙ get_or_from_slice_get (eqs ++ m ∷ []) i k k h) in
                ap (has n) (take-append-le i eqs (m ∷ []) (omega (arith, a.1))) ∙ before.after i k n p r old hp hr d
            | inr a ↦
                let last : length eqs ≡ i = omega (arith, a.1, w, size) in
                let same : m ≡ k = sym (get_or_push eqs m k i last) ∙ get_or_from_slice_get (eqs ++ m ∷ []) i k k h in
                let eq : q ≡ p = same_Some q p (sym at ∙ ap (slice_get f.eqs) same ∙ hp) in
                let dep : Depends f x r.0 = subst (λ v. Depends f v r.0) (sym (ap (λ (e : ℕ × Expression). e.0) eq) ∙ var) d in
                let there = counted_has r.0 (take s order) (sorts.after s x (slice_get_read order (length order) s x refl inside is) r.0 dep) in
                let c = before.counts n r hr in
                ap (has n) (take_at eqs (m ∷ []) i last) ∙ has_counted n eqs (omega (arith, c, there))
          ]

      pub pick : Picked f order (s + 1) (eqs ++ m ∷ [])
      pick = record {
        counts = λ k p h. let a = count_push k m eqs in let b = before.counts k p h in let c = counted_more p.0 in let e = same_count k p h in omega (arith, a, b, c, e);
        others = λ k l. let a = count_push k m eqs in let b = before.others k l in let w = slice_get_within f.eqs m q at in let o = one_not k m (λ e. omega (arith, e, w, l)) in omega (arith, a, b, o);
        after = after_by;
      }

    -- what the table of numbers tells of the variable
    pub picks : (numbers : List (Option ℕ)) → HasEquationNumbers f numbers → (o : Option ℕ) → o ≡ get_or numbers x o → MatchOption o (Picked f order (s + 1) eqs) (λ m. Picked f order (s + 1) (eqs ++ m ∷ []))
    picks numbers told o e = by o (get_or_default numbers x None o (let l = x_inside in let n = told.size in omega (arith, l, n)) ∙ sym e)
      where
        by : (o : Option ℕ) → get_or numbers x None ≡ o → MatchOption o (Picked f order (s + 1) eqs) (λ m. Picked f order (s + 1) (eqs ++ m ∷ []))
        by None h = pass_input (subst (NumberOf f (length f.eqs) x) h (told.tells x x_inside))
        by (Some m) h = let t = subst (NumberOf f (length f.eqs) x) h (told.tells x x_inside) in pick m t.0 t.1.1 t.1.2

  module _ (order eqs : List ℕ) (s : ℕ) (sorts : Sorts (Depends f) (length f.decls) order) (l : length order ≤ s) (picked : Picked f order s eqs) where
    stands_once : (k : ℕ) (p : ℕ × Expression) → slice_get f.eqs k ≡ Some p → occurrences k eqs ≡ 1
    stands_once k p h =
        picked.counts k p h ∙ ap (occurrences p.0) (take_all s order l) ∙ sorts.once p.0 ∙ ap (λ (b : Bool). if◌then◌else◌ {A = ℕ} b 1 0) (lt-ltb p.0 (length f.decls) (left_inside f good k p h))

    there_by : (k : ℕ) (o : Option (ℕ × Expression)) → slice_get f.eqs k ≡ o → k < length f.eqs → occurrences k eqs ≡ 1
    there_by k None h w = absurd (none-some (get_or f.eqs k (0, variable 0)) (sym h ∙ slice_get-get_or f.eqs k (0, variable 0) w))
    there_by k (Some p) h w = stands_once k p h

    once_by : (k : ℕ) (b : Bool) → nat_lt k (length f.eqs) ≡ b → ◌≡◌ {A = ℕ} (occurrences k eqs) (if b then 1 else 0)
    once_by k true e = there_by k (slice_get f.eqs k) refl (ltb-true k (length f.eqs) e)
    once_by k false e = picked.others k (ltb-false k (length f.eqs) e)

    pub all_picked : IsOrder f eqs
    all_picked = record { once = λ k. once_by k (nat_lt k (length f.eqs)) refl; after = picked.after }
