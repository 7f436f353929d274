-- An order of the equations gives places to the variables, so the function is causal.
use Rattle.std.proofs.Common.{◌≡◌, ℕ, zero, suc, ◌<◌, ◌≤◌, ◌+◌, inl, inr, Bool, true, false, cond, List, [], ◌∷◌, ◌++◌, length, take, get_or, Option, Some, None, refl, sym, ap, ◌∙◌, subst, arith, eqb-true, lt-ltb}
use Rattle.std.specs.Prelude.{nat_eq, nat_lt, if◌then◌else◌}
use Rattle.std.specs.List.{slice_get, position_or_len}
use Rattle.std.proofs.lemmas.List.{get_or-take, length-take}
use Rattle.std.proofs.lemmas.List.Sums.{fails_before_first, passes_at_first}
use Rattle.std.proofs.lemmas.Option.{slice_get-get_or, slice_get_within}
use Rattle.std.proofs.lemmas.Bool.Decides.{leb_tells, nat_tests}
use Rattle.lt_base.specs.Expression.{Expression}
use Rattle.lt_base.specs.Program.{Function}
use Rattle.lt_base.specs.Meaning.{clock_of, right_of}
use Rattle.lt_base.specs.Order.{Ordered}
use Rattle.lt_base.specs.Dependence.{has, reads, clock_vars, dependencies_of, Depends, Causal}
use Rattle.lt_base.proofs.Lookups.{same_self}
use Rattle.lt_base.proofs.Reading.{has_front, has_back, each_from, each_clock_from}
use Rattle.lt_base.proofs.Order.{causal_from_ranks}
use Rattle.lt_cause.specs.Tables.{occurrences}
use Rattle.lt_cause.specs.Orders.{IsOrder, is_left, place_by, order_place}
use Rattle.lt_cause.proofs.Walks.{one, count_cons, has_counted}
use Rattle.lt_graph.proofs.Reaches.{has_place}

-- ---- a list that has each number below n once is n long

total : ℕ → List ℕ → ℕ
total zero xs = 0
total (suc n) xs = total n xs + occurrences n xs

total_none : (n : ℕ) → total n [] ≡ 0
unfolding total
total_none zero = refl
total_none (suc n) = let e = total_none n in omega (arith, e)

total_one : (n x : ℕ) (xs : List ℕ) → total n (x ∷ xs) ≡ total n xs + (if nat_lt x n then 1 else 0)
unfolding total
total_one zero x xs = below_none x
  where
    below_none : (x : ℕ) → ◌≡◌ {A = ℕ} 0 (0 + (if nat_lt x 0 then 1 else 0))
    below_none x = grind (arith, nat_tests)
total_one (suc n) x xs =
    let e = total_one n x xs in
    let c = count_cons n x xs in
    let t : one n x + (if nat_lt x n then 1 else 0) ≡ (if nat_lt x (suc n) then 1 else 0) = step n x in
    omega (arith, e, c, t)
  where
    step : (n x : ℕ) → ◌≡◌ {A = ℕ} (one n x + (if nat_lt x n then 1 else 0)) (if nat_lt x (suc n) then 1 else 0)
    step n x = grind (arith, nat_tests)

total_length : (n : ℕ) (xs : List ℕ) → ((k : ℕ) → n ≤ k → occurrences k xs ≡ 0) → total n xs ≡ length xs
total_length n [] h = total_none n
total_length n (x ∷ xs) h =
    let c : (k : ℕ) → n ≤ k → (occurrences k xs ≡ 0) × (one k x ≡ 0) = λ k l. let a = h k l in let b = count_cons k x xs in (omega (arith, a, b), omega (arith, a, b)) in
    let rest = total_length n xs (λ k l. (c k l).0) in
    let e = total_one n x xs in
    elim (leb_tells (suc x) n) [
      | inl a ↦ let i : (if◌then◌else◌ {A = ℕ} (nat_lt x n) 1 0) ≡ 1 = ap (λ b. if◌then◌else◌ {A = ℕ} b 1 0) (lt-ltb x n (omega (arith, a.1))) in omega (arith, rest, e, i)
      | inr a ↦ let o = (c x (omega (arith, a.1))).1 in let s : one x x ≡ 1 = ap (λ b. cond b 1 0) (same_self x) in absurd (omega (arith, o, s))
    ]

total_each : (n : ℕ) (xs : List ℕ) → ((k : ℕ) → k < n → occurrences k xs ≡ 1) → total n xs ≡ n
unfolding total
total_each zero xs h = refl
total_each (suc n) xs h = let e = total_each n xs (λ k l. h k (omega (arith, l))) in let c = h n (omega arith) in omega (arith, e, c)

-- ---- the equation of a variable

equation_of : (eqs : List (ℕ × Expression)) (x : ℕ) (e : Expression) → right_of eqs x ≡ Some e → (k : ℕ) × ((q : ℕ × Expression) × ((slice_get eqs k ≡ Some q) × (x ≡ q.0)))
equation_of [] x e h = absurd (cc)
equation_of (p ∷ eqs) x e h = by (nat_eq x p.0) refl h (equation_of eqs x e)
  where
    by : (b : Bool) → nat_eq x p.0 ≡ b → (if b then Some p.1 else right_of eqs x) ≡ Some e → (right_of eqs x ≡ Some e → (k : ℕ) × ((q : ℕ × Expression) × ((slice_get eqs k ≡ Some q) × (x ≡ q.0)))) → (k : ℕ) × ((q : ℕ × Expression) × ((slice_get (p ∷ eqs) k ≡ Some q) × (x ≡ q.0)))
    by true t h later = (0, (p, (refl, eqb-true x p.0 t)))
    by false t h later = let r = later h in (suc r.0, r.1)

module _ (f : Function) (order : List ℕ) (is : IsOrder f order) where
  abbrev at : ℕ → ℕ
  at x = position_or_len (λ k. is_left (slice_get f.eqs k) x) order

  size : length order ≡ length f.eqs
  size =
      let n = length f.eqs in
      let each : (k : ℕ) → k < n → occurrences k order ≡ 1 = λ k l. is.once k ∙ ap (λ b. if◌then◌else◌ {A = ℕ} b 1 0) (lt-ltb k n l) in
      let none : (k : ℕ) → n ≤ k → occurrences k order ≡ 0 = λ k l. is.once k ∙ ap (λ b. if◌then◌else◌ {A = ℕ} b 1 0) (past k n l) in
      sym (total_length n order none) ∙ total_each n order each
    where
      past : (k n : ℕ) → n ≤ k → nat_lt k n ≡ false
      past k n l = grind (arith, nat_tests)

  -- it is at most the place at which the variable's equation stands
  at_most : (x j : ℕ) (q : ℕ × Expression) → slice_get f.eqs (get_or order j 0) ≡ Some q → x ≡ q.0 → at x ≤ j
  at_most x j q h e = elim (leb_tells (at x) j) [
    | inl a ↦ a.1
    | inr a ↦
        let no' = fails_before_first (λ k. is_left (slice_get f.eqs k) x) order j 0 a.1 in
        let yes : is_left (slice_get f.eqs (get_or order j 0)) x ≡ true = ap (λ o. is_left o x) h ∙ ap (nat_eq x) (sym e) ∙ same_self x in
        absurd (cc)
  ]

  stands : (k : ℕ) (q : ℕ × Expression) → slice_get f.eqs k ≡ Some q → (j : ℕ) × ((j < length order) × (get_or order j 0 ≡ k))
  stands k q h =
      let w = slice_get_within f.eqs k q h in
      let c : occurrences k order ≡ 1 = is.once k ∙ ap (λ b. if◌then◌else◌ {A = ℕ} b 1 0) (lt-ltb k (length f.eqs) w) in
      let p = has_place k order (has_counted k order (omega (arith, c))) in
      (p.0, (p.1, p.2))

  at_inside : (x : ℕ) (e : Expression) → right_of f.eqs x ≡ Some e → at x < length order
  at_inside x e h =
      let q = equation_of f.eqs x e h in
      let j = stands q.0 q.1.0 q.1.1.0 in
      let m = at_most x j.0 q.1.0 (ap (slice_get f.eqs) j.1.1 ∙ q.1.1.0) q.1.1.1 in
      let l = j.1.0 in
      omega (arith, m, l)

  -- what stands there is the variable's equation
  at_own : (x : ℕ) (e : Expression) → right_of f.eqs x ≡ Some e → (q : ℕ × Expression) × ((slice_get f.eqs (get_or order (at x) 0) ≡ Some q) × (x ≡ q.0))
  at_own x e h = by (slice_get f.eqs (get_or order (at x) 0)) refl (passes_at_first (λ k. is_left (slice_get f.eqs k) x) order 0 (at_inside x e h))
    where
      by : (o : Option (ℕ × Expression)) → slice_get f.eqs (get_or order (at x) 0) ≡ o → is_left o x ≡ true → (q : ℕ × Expression) × ((slice_get f.eqs (get_or order (at x) 0) ≡ Some q) × (x ≡ q.0))
      by None g t = absurd (cc)
      by (Some q) g t = (q, (g, eqb-true x q.0 t))

  placed : (x : ℕ) (e : Expression) → right_of f.eqs x ≡ Some e → order_place f order x ≡ suc (at x)
  placed x e h = ap (λ o. place_by o (at x)) h

  lower_by : (x y : ℕ) (e : Expression) (o : Option Expression) → right_of f.eqs x ≡ Some e → right_of f.eqs y ≡ o → Depends f x y → place_by o (at y) < suc (at x)
  lower_by x y e None h g d = omega arith
  lower_by x y e (Some a) h g d =
      let own = at_own x e h in
      let i = at_inside x e h in
      let q = equation_of f.eqs y a g in
      let here : slice_get order (at x) ≡ Some (get_or order (at x) 0) = slice_get-get_or order (at x) 0 i in
      let dep : Depends f own.0.0 q.1.0.0 = subst (λ v. Depends f v q.1.0.0) own.1.1 (subst (Depends f x) q.1.1.1 d) in
      let before = has_place q.0 (take (at x) order) (is.after (at x) (get_or order (at x) 0) q.0 own.0 q.1.0 here own.1.0 q.1.1.0 dep) in
      let t = length-take (at x) order in
      let l = before.1 in
      let j : before.0 < at x = omega (arith, t, l) in
      let same : get_or order before.0 0 ≡ q.0 = sym (get_or-take (at x) order before.0 0 j) ∙ before.2 in
      let m = at_most y before.0 q.1.0 (ap (slice_get f.eqs) same ∙ q.1.1.0) q.1.1.1 in
      omega (arith, m, j)

  lower : (x y : ℕ) (e : Expression) → right_of f.eqs x ≡ Some e → Depends f x y → order_place f order y < order_place f order x
  lower x y e h d = subst (λ n. order_place f order y < n) (sym (placed x e h)) (lower_by x y e (right_of f.eqs y) h refl d)

  -- the places of the variables by the order of the equations
  pub ordered : Ordered f (order_place f order)
  ordered = record {
    within = λ x e h. let p = placed x e h in let i = at_inside x e h in let s = size in omega (arith, p, i, s);
    later = λ x e h. let p = placed x e h in omega (arith, p);
    ranked = record {
      reads_before = λ x a e. each_from (λ y. order_place f order y < order_place f order x) a (λ y m. lower x y a e (ap (has y) (dependencies_are x a e) ∙ has_front y (reads a) (clock_vars (clock_of f.decls x)) m));
      clocks_before = λ x a e. each_clock_from (λ y. order_place f order y < order_place f order x) (clock_of f.decls x) (λ y m. lower x y a e (ap (has y) (dependencies_are x a e) ∙ has_back y (reads a) (clock_vars (clock_of f.decls x)) m));
    };
  }
    where
      dependencies_are : (x : ℕ) (a : Expression) → right_of f.eqs x ≡ Some a → dependencies_of (right_of f.eqs x) (clock_of f.decls x) ≡ reads a ++ clock_vars (clock_of f.decls x)
      dependencies_are x a e = ap (λ o. dependencies_of o (clock_of f.decls x)) e

  -- a function whose equations have an order is causal
  pub order_causal : Causal f
  order_causal = causal_from_ranks f (order_place f order) ordered.ranked
