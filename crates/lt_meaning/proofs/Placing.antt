-- The places of the variables in the order of the equations.
use Rattle.std.proofs.Common.{◌≡◌, ℕ, zero, suc, ◌+◌, ◌<◌, ◌≤◌, ◌⊎◌, inl, inr, Bool, true, false, cond, List, [], ◌∷◌, length, get_or, Option, Some, None, refl, sym, ap, subst, ◌∙◌, arith, eqb-true, ltb-true, lt-ltb}
use Rattle.std.specs.Prelude.{slice_get, nat_eq, nat_lt, if◌then◌else◌}
use Rattle.std.specs.List.{count_by, position_or_len}
use Rattle.std.proofs.lemmas.List.Sums.{position_or_len_is, sum_by-cons}
use Rattle.std.proofs.lemmas.Option.{slice_get_within, slice_get-get_or, get_or_from_slice_get}
use Rattle.lt_base.specs.Expression.{Expression}
use Rattle.lt_base.specs.Program.{Function, GoodFunction}
use Rattle.lt_base.specs.Meaning.{right_of}
use Rattle.lt_base.specs.Order.{Ordered}
use Rattle.lt_base.specs.Equations.{EquationsIn}
use Rattle.lt_base.proofs.Lookups.{same_self, all_found, left_below, input_none, inside_most}
use Rattle.lt_cause.specs.Tables.{occurrences}
use Rattle.lt_cause.specs.Orders.{IsOrder, is_left, place_by, order_place}

-- ---- elements that pass a test

counted_by : {A : Type 0} (p : A → Bool) (x : A) (xs : List A) (b : Bool) → p x ≡ b → count_by p (x ∷ xs) ≡ cond b 1 0 + count_by p xs
counted_by p x xs b h = sum_by-cons (λ y. cond (p y) 1 0) x xs ∙ ap (λ b. cond b 1 0 + count_by p xs) h

pub counted : {A : Type 0} (p : A → Bool) (xs : List A) (i : ℕ) (a : A) → slice_get xs i ≡ Some a → p a ≡ true → 0 < count_by p xs
counted p [] i a h t = absurd (cc)
counted p (x ∷ xs) zero a h t = let same : x ≡ a = cc in let c = counted_by p x xs true (ap p same ∙ t) in omega (arith, c)
counted p (x ∷ xs) (suc i) a h t = let c = counted_by p x xs (p x) refl in let r = counted p xs i a h t in omega (arith, c, r)

pub once : {A : Type 0} (p : A → Bool) (xs : List A) (i j : ℕ) (a b : A) → count_by p xs ≤ 1 → slice_get xs i ≡ Some a → slice_get xs j ≡ Some b → p a ≡ true → p b ≡ true → i ≡ j
once p [] i j a b l h g s t = absurd (cc)
once p (x ∷ xs) zero zero a b l h g s t = refl
once p (x ∷ xs) zero (suc j) a b l h g s t = let same : x ≡ a = cc in let c = counted_by p x xs true (ap p same ∙ s) in let r = counted p xs j b g t in absurd (omega (arith, c, r, l))
once p (x ∷ xs) (suc i) zero a b l h g s t = let same : x ≡ b = cc in let c = counted_by p x xs true (ap p same ∙ t) in let r = counted p xs i a h s in absurd (omega (arith, c, r, l))
once p (x ∷ xs) (suc i) (suc j) a b l h g s t = let c = counted_by p x xs (p x) refl in ap suc (once p xs i j a b (omega (arith, c, l)) h g s t)

pub passing : {A : Type 0} (p : A → Bool) (xs : List A) → 0 < count_by p xs → (i : ℕ) × (a : A) × (slice_get xs i ≡ Some a) × (p a ≡ true)
passing p [] l = absurd (omega arith)
passing p (x ∷ xs) l =
    let go : (b : Bool) → p x ≡ b → (i : ℕ) × (a : _) × (slice_get (x ∷ xs) i ≡ Some a) × (p a ≡ true) =
    elim [
      | true ↦ λ h. (0, x, refl, h)
      | false ↦ λ h. let c = counted_by p x xs false h in let r = passing p xs (omega (arith, c, l)) in (suc r.0, r.1, r.2, r.3)
    ] in
    go (p x) refl

-- ---- the equations by their numbers

in_equations : (f : Function) (qs : List (ℕ × Expression)) → EquationsIn f qs → (k : ℕ) (q : ℕ × Expression) → slice_get qs k ≡ Some q → right_of f.eqs q.0 ≡ Some q.1
in_equations f [] a k q h = absurd (cc)
in_equations f (p ∷ qs) a zero q h = let same : p ≡ q = cc in subst (λ (q : ℕ × Expression). right_of f.eqs q.0 ≡ Some q.1) same a.0
in_equations f (p ∷ qs) a (suc k) q h = in_equations f qs a.1 k q h

pub right_at : (eqs : List (ℕ × Expression)) (x : ℕ) (e : Expression) → right_of eqs x ≡ Some e → (k : ℕ) × (slice_get eqs k ≡ Some (x, e))
right_at [] x e h = absurd (cc)
right_at ((y, a) ∷ eqs) x e h =
    let go : (b : Bool) → nat_eq x y ≡ b → (if b then Some a else right_of eqs x) ≡ Some e → (k : ℕ) × (slice_get ((y, a) ∷ eqs) k ≡ Some (x, e)) =
    elim [
      | true ↦ λ t g. let left : y ≡ x = sym (eqb-true x y t) in let right : a ≡ e = cc in (0, λ i. Some (left i, right i))
      | false ↦ λ t g. let r = right_at eqs x e g in (suc r.0, r.1)
    ] in
    go (nat_eq x y) refl h

module _ (f : Function) (good : GoodFunction f) (order : List ℕ) (is : IsOrder f order) (ordered : Ordered f (order_place f order)) where
  pub right_is : (k : ℕ) (q : ℕ × Expression) → slice_get f.eqs k ≡ Some q → right_of f.eqs q.0 ≡ Some q.1
  right_is k q h = in_equations f f.eqs (all_found f good) k q h

  pub left_declared : (k : ℕ) (q : ℕ × Expression) → slice_get f.eqs k ≡ Some q → q.0 < length f.decls
  left_declared k q h = left_below f good q.0 q.1 (right_is k q h)

  low_by : (n x : ℕ) (e : Expression) → right_of f.eqs x ≡ Some e → (x < n → right_of f.eqs x ≡ None) → n ≤ x
  low_by n x e r h = elim (below x n) [ inl l ↦ let none = h l in absurd (cc) | inr l ↦ l ]
    where
      below : (j n : ℕ) → (j < n) ⊎ (n ≤ j)
      below j zero = inr (omega arith)
      below zero (suc n) = inl (omega arith)
      below (suc j) (suc n) = elim (below j n) [ inl l ↦ inl (omega (arith, l)) | inr l ↦ inr (omega (arith, l)) ]

  pub left_low : (k : ℕ) (q : ℕ × Expression) → slice_get f.eqs k ≡ Some q → f.n_in ≤ q.0
  left_low k q h = low_by f.n_in q.0 q.1 (right_is k q h) (λ l. input_none f good q.0 l)

  same_equation : (k m : ℕ) (q p : ℕ × Expression) → slice_get f.eqs k ≡ Some q → slice_get f.eqs m ≡ Some p → p.0 ≡ q.0 → k ≡ m
  same_equation k m q p h g e =
      once (λ (z : ℕ × Expression). nat_eq q.0 z.0) f.eqs k m q p
      (subst (λ n. n ≤ 1) (sym (good.lefts q.0)) (inside_most f.n_in (length f.decls) q.0))
      h g (same_self q.0) (ap (nat_eq q.0) e ∙ same_self q.0)

  once_most : (k : ℕ) → occurrences k order ≤ 1
  once_most k = let go : (b : Bool) → (if◌then◌else◌ {A = ℕ} b 1 0) ≤ 1 = elim [ true ↦ omega arith | false ↦ omega arith ] in subst (λ n. n ≤ 1) (sym (is.once k)) (go (nat_lt k (length f.eqs)))

  -- what stands in the order is the number of an equation
  pub number_inside : (i k : ℕ) → slice_get order i ≡ Some k → k < length f.eqs
  number_inside i k h =
      let c = counted (nat_eq k) order i k h (same_self k) in
      let go : (b : Bool) → nat_lt k (length f.eqs) ≡ b → k < length f.eqs =
      elim [
        | true ↦ λ t. ltb-true k (length f.eqs) t
        | false ↦ λ t. let none : occurrences k order ≡ 0 = is.once k ∙ ap (λ b. if◌then◌else◌ {A = ℕ} b 1 0) t in absurd (omega (arith, c, none))
      ] in
      go (nat_lt k (length f.eqs)) refl

  -- the place of an equation's variable
  pub place_at : (i k : ℕ) (q : ℕ × Expression) → slice_get order i ≡ Some k → slice_get f.eqs k ≡ Some q → order_place f order q.0 ≡ suc i
  place_at i k q h g =
      let l = slice_get_within order i k h in
      let passes : ℕ → Bool = λ n. is_left (slice_get f.eqs n) q.0 in
      let here : get_or order i 0 ≡ k = get_or_from_slice_get order i k 0 h in
      ap (λ o. place_by o (position_or_len (λ n. is_left (slice_get f.eqs n) q.0) order)) (right_is k q g)
      ∙ ap suc (position_or_len_is (λ n. is_left (slice_get f.eqs n) q.0) order i 0 (omega (arith, l))
      (λ j m. earlier j m (slice_get f.eqs (get_or order j 0)) refl l)
      (λ m. ap (λ n. is_left (slice_get f.eqs n) q.0) here ∙ ap (λ o. is_left o q.0) g ∙ same_self q.0))
    where
      earlier : (j : ℕ) → j < i → (o : Option (ℕ × Expression)) → slice_get f.eqs (get_or order j 0) ≡ o → i < length order → is_left o q.0 ≡ false
      earlier j m None e l = refl
      earlier j m (Some p) e l =
          let go : (b : Bool) → nat_eq q.0 p.0 ≡ b → b ≡ false =
          elim [
            | true ↦ λ t.
                let number = same_equation k (get_or order j 0) q p g e (sym (eqb-true q.0 p.0 t)) in
                let there : slice_get order j ≡ Some k = slice_get-get_or order j 0 (omega arith) ∙ ap Some (sym number) in
                let place = once (nat_eq k) order i j k k (once_most k) h there (same_self k) (same_self k) in
                absurd (omega (arith, place, m))
            | false ↦ λ t. refl
          ] in
          go (nat_eq q.0 p.0) refl

  -- every equation stands in the order
  pub covered : (x : ℕ) (e : Expression) → right_of f.eqs x ≡ Some e → (i : ℕ) × (k : ℕ) × (slice_get order i ≡ Some k) × (slice_get f.eqs k ≡ Some (x, e))
  covered x e r =
      let k = right_at f.eqs x e r in
      let w = slice_get_within f.eqs k.0 (x, e) k.1 in
      let c : occurrences k.0 order ≡ 1 = is.once k.0 ∙ ap (λ b. if◌then◌else◌ {A = ℕ} b 1 0) (lt-ltb k.0 (length f.eqs) w) in
      let p = passing (nat_eq k.0) order (omega (arith, c)) in
      (p.0, k.0, p.2 ∙ ap Some (sym (eqb-true k.0 p.1 p.3)), k.1)

  pub place_most : (x : ℕ) → order_place f order x ≤ length f.eqs
  place_most x = by (right_of f.eqs x) refl
    where
      by : (o : Option Expression) → right_of f.eqs x ≡ o → order_place f order x ≤ length f.eqs
      by None e = let p : order_place f order x ≡ 0 = ap (λ o. place_by o (position_or_len (λ n. is_left (slice_get f.eqs n) x) order)) e in omega (arith, p)
      by (Some a) e = ordered.within x a e
