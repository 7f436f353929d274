-- Items of a list that a test picks, by one number of each.
use Rattle.std.proofs.Common.{◌≡◌, ℕ, zero, suc, ◌<◌, Bool, true, false, List, [], ◌∷◌, length, map, filter, refl, sym, ap, subst, arith, cond, eqb-true}
use Rattle.std.specs.Prelude.{◌||◌, nat_eq, slice_index_or}
use Rattle.std.specs.List.{list_any}
use Rattle.lt_net_bench.proofs.Entries.{same_number}

pub or_right : (a b : Bool) → b ≡ true → (a || b) ≡ true
or_right true b h = refl
or_right false b h = h

-- no number stands twice in the list
abbrev pub AllApart : List ℕ → Type 0
AllApart [] = Unit {0}
AllApart (j ∷ js) = (list_any (nat_eq j) js ≡ false) × AllApart js

module _ {A : Type 0} (none : A) (number : A → ℕ) (test : A → Bool) where
  -- a number that is picked stands among the numbers
  pub in_picked : (xs : List A) (c : ℕ) → c < length xs → test (slice_index_or xs c none) ≡ true → list_any (nat_eq (number (slice_index_or xs c none))) (map number (filter test xs)) ≡ true
  in_picked [] c lt h = absurd (omega (arith, lt))
  in_picked (x ∷ xs) zero lt h =
      subst (λ (b : Bool). list_any (nat_eq (number x)) (map number (cond b (x ∷ filter test xs) (filter test xs))) ≡ true) (sym h)
      (ap (λ (b : Bool). b || list_any (nat_eq (number x)) (map number (filter test xs))) (same_number (number x)))
  in_picked (x ∷ xs) (suc c) lt h = later (test x) (in_picked xs c (omega (arith, lt)) h)
    where
      later : (b : Bool) → list_any (nat_eq (number (slice_index_or xs c none))) (map number (filter test xs)) ≡ true →
          list_any (nat_eq (number (slice_index_or xs c none))) (map number (cond b (x ∷ filter test xs) (filter test xs))) ≡ true
      later true e = or_right (nat_eq (number (slice_index_or xs c none)) (number x)) (list_any (nat_eq (number (slice_index_or xs c none))) (map number (filter test xs))) e
      later false e = e

  -- and each number there is that of such an item
  abbrev PickedAt : List A → ℕ → Type 0
  PickedAt xs j = (c : ℕ) × (c < length xs) × (test (slice_index_or xs c none) ≡ true) × (number (slice_index_or xs c none) ≡ j)

  one_further : (x : A) (xs : List A) (j : ℕ) → PickedAt xs j → PickedAt (x ∷ xs) j
  one_further x xs j r = (suc r.0, (let l = r.1 in omega (arith, l)), r.2, r.3)

  pub of_picked : (xs : List A) (j : ℕ) → list_any (nat_eq j) (map number (filter test xs)) ≡ true → PickedAt xs j
  of_picked [] j h = absurd (cc)
  of_picked (x ∷ xs) j h = by_test (test x) refl (λ g. of_picked xs j g) h
    where
      by_number : (b : Bool) → nat_eq j (number x) ≡ b → test x ≡ true → (list_any (nat_eq j) (map number (filter test xs)) ≡ true → PickedAt xs j) → (b || list_any (nat_eq j) (map number (filter test xs))) ≡ true →
          PickedAt (x ∷ xs) j
      by_number true e t rest g = (0, omega arith, t, sym (eqb-true j (number x) e))
      by_number false e t rest g = one_further x xs j (rest g)

      by_test : (b : Bool) → test x ≡ b → (list_any (nat_eq j) (map number (filter test xs)) ≡ true → PickedAt xs j) → list_any (nat_eq j) (map number (cond b (x ∷ filter test xs) (filter test xs))) ≡ true → PickedAt (x ∷ xs) j
      by_test true e rest g = by_number (nat_eq j (number x)) refl e rest g
      by_test false e rest g = one_further x xs j (rest g)

  -- where picked items of one number stand at one place, no number stands twice
  abbrev OnePlaceEach : List A → Type 0
  OnePlaceEach xs = (c d : ℕ) → c < length xs → d < length xs → test (slice_index_or xs c none) ≡ true → test (slice_index_or xs d none) ≡ true → number (slice_index_or xs c none) ≡ number (slice_index_or xs d none) → c ≡ d

  pub picked_apart : (xs : List A) → OnePlaceEach xs → AllApart (map number (filter test xs))
  picked_apart [] one = tt
  picked_apart (x ∷ xs) one = by_test (test x) refl (picked_apart xs rest)
    where
      rest : OnePlaceEach xs
      rest c d lc ld tc td e = let s = one (suc c) (suc d) (omega (arith, lc)) (omega (arith, ld)) tc td e in omega (arith, s)

      by_any : (b : Bool) → list_any (nat_eq (number x)) (map number (filter test xs)) ≡ b → test x ≡ true → b ≡ false
      by_any true e t =
          let r = of_picked xs (number x) e in
          let l = r.1 in
          let same : 0 ≡ suc r.0 = one 0 (suc r.0) (omega arith) (omega (arith, l)) t r.2 (sym r.3) in
          absurd (omega (arith, same))
      by_any false e t = refl

      by_test : (b : Bool) → test x ≡ b → AllApart (map number (filter test xs)) → AllApart (map number (cond b (x ∷ filter test xs) (filter test xs)))
      by_test true e h = (by_any (list_any (nat_eq (number x)) (map number (filter test xs))) refl e, h)
      by_test false e h = h
