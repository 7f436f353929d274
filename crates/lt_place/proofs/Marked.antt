-- The lowest numbers, one report more at a time.
use Rattle.std.proofs.Common.{◌≡◌, ◌≢◌, ◌⊎◌, inl, inr, ℕ, zero, suc, ◌+◌, ◌<◌, ◌≤◌, Bool, true, false, min, List, [], ◌∷◌, ◌++◌, length, take, get_or, set, Option, Some, None, refl, sym, ap, ◌∙◌, subst, arith, ⊎_elim, get_or-set_same, get_or-set_other}
use Rattle.std.specs.Prelude.{nat_eq, if◌then◌else◌}
use Rattle.std.proofs.lemmas.List.{append_assoc, append-nil, length-set, take_more}
use Rattle.std.proofs.lemmas.Bool.{cases_eq, cases_lt}
use Rattle.std.proofs.lemmas.Bool.Decides.{nat_tests}
use Rattle.lt_place.specs.Reports.{Report, IsAmong, LeastAt, HasLeast, elsewhere}
use Rattle.lt_place.proofs.Found.{in_left, in_right, in_cases}

-- a number after one more was noted
abbrev pub IsLower : Option ℕ → ℕ → ℕ → Type 0
IsLower None n v = v ≡ n
IsLower (Some k) n v = v ≡ min k n

last_of : (r s : Report) → IsAmong r (s ∷ []) → r ≡ s
last_of r s (inl h) = h
last_of r s (inr h) = elim h [ ]

module _ (rs : List Report) (at n : ℕ) where
  abbrev more : List Report
  more = rs ++ (at, n) ∷ []

  here : IsAmong (at, n) more
  here = in_right (at, n) rs ((at, n) ∷ []) (inl refl)

  old : (r : Report) → IsAmong r rs → IsAmong r more
  old r h = in_left r rs ((at, n) ∷ []) h

  new_or_old : (m k : ℕ) → IsAmong (m, k) more → IsAmong (m, k) rs ⊎ ((m ≡ at) × (k ≡ n))
  new_or_old m k h = ⊎_elim (λ h. inl h) (λ h. let e = last_of (m, k) (at, n) h in inr (ap (λ (r : Report). r.0) e, ap (λ (r : Report). r.1) e)) (in_cases (m, k) rs ((at, n) ∷ []) h)

  lowered : (o : Option ℕ) (v : ℕ) → LeastAt rs at o → IsLower o n v → LeastAt more at (Some v)
  lowered None v h e =
      (subst (λ z. IsAmong (at, z) more) (sym e) here, λ k i. ⊎_elim (λ j. absurd (h k j)) (λ j. let s = j.1 in omega (arith, e, s)) (new_or_old at k i))
  lowered (Some k) v h e = ⊎_elim
      (λ (l : k < n).
      let s : v ≡ k = omega (arith, e) in
      (subst (λ z. IsAmong (at, z) more) (sym s) (old (at, k) h.0), λ j i. ⊎_elim (λ w. let b = h.1 j w in omega (arith, b, s)) (λ w. let t = w.1 in omega (arith, t, s)) (new_or_old at j i)))
      (λ (l : n ≤ k).
      let s : v ≡ n = omega (arith, e) in
      (subst (λ z. IsAmong (at, z) more) (sym s) here, λ j i. ⊎_elim (λ w. let b = h.1 j w in omega (arith, b, s)) (λ w. let t = w.1 in omega (arith, t, s)) (new_or_old at j i)))
      (cases_lt k n)

  unmoved : (m : ℕ) → m ≢ at → (o : Option ℕ) → LeastAt rs m o → LeastAt more m o
  unmoved m a None h = λ k i. ⊎_elim (λ j. h k j) (λ j. a j.0) (new_or_old m k i)
  unmoved m a (Some k) h = (old (m, k) h.0, λ j i. ⊎_elim (λ w. h.1 j w) (λ w. absurd (a w.0)) (new_or_old m j i))

  pub marked : (marks : List (Option ℕ)) (v : ℕ) → at < length marks → IsLower (get_or marks at None) n v → HasLeast marks rs → HasLeast (set marks at (Some v)) more
  marked marks v l e h m b = ⊎_elim
      (λ (s : m ≡ at). subst (λ z. LeastAt more z (get_or (set marks at (Some v)) z None)) (sym s) (subst (LeastAt more at) (sym (get_or-set_same marks at (Some v) None l)) (lowered (get_or marks at None) v (h at l) e)))
      (λ (s : m ≢ at). subst (LeastAt more m) (sym (get_or-set_other marks at m (Some v) None s)) (unmoved m s (get_or marks m None) (h m (let k = length-set marks at (Some v) in omega (arith, k, b)))))
      (cases_eq m at)

pub default_free : {A : Type 0} (l : List A) (i : ℕ) (d e : A) → i < length l → get_or l i d ≡ get_or l i e
default_free [] i d e h = absurd (omega arith)
default_free (x ∷ l) zero d e h = refl
default_free (x ∷ l) (suc i) d e h = default_free l i d e (omega arith)

pub lower_some : (marks : List (Option ℕ)) (at n k v : ℕ) (o : Option ℕ) → at < length marks → o ≡ get_or marks at o → o ≡ Some k → v ≡ min k n → IsLower (get_or marks at None) n v
lower_some marks at n k v o l r e h = subst (λ o. IsLower o n v) (sym e ∙ r ∙ default_free marks at o None l) h

pub lower_none : (marks : List (Option ℕ)) (at n v : ℕ) (o : Option ℕ) → at < length marks → o ≡ get_or marks at o → o ≡ None → v ≡ n → IsLower (get_or marks at None) n v
lower_none marks at n v o l r e h = subst (λ o. IsLower o n v) (sym e ∙ r ∙ default_free marks at o None l) h

-- ---- what one variable reads

module _ (nodes origin : List ℕ) (x : ℕ) where
  one : ℕ → List Report
  one y = if nat_eq (get_or nodes y 0) (get_or nodes x 0) then [] else (get_or origin x 0, get_or origin y 0) ∷ []

  elsewhere_append : (ys zs : List ℕ) → elsewhere nodes origin x (ys ++ zs) ≡ elsewhere nodes origin x ys ++ elsewhere nodes origin x zs
  elsewhere_append [] zs = refl
  elsewhere_append (y ∷ ys) zs = by (nat_eq (get_or nodes y 0) (get_or nodes x 0)) (elsewhere_append ys zs)
    where
      by : (b : Bool) → elsewhere nodes origin x (ys ++ zs) ≡ elsewhere nodes origin x ys ++ elsewhere nodes origin x zs → (if b then elsewhere nodes origin x (ys ++ zs) else (get_or origin x 0, get_or origin y 0) ∷ elsewhere nodes origin x (ys ++ zs)) ≡ (if b then elsewhere nodes origin x ys else (get_or origin x 0, get_or origin y 0) ∷ elsewhere nodes origin x ys) ++ elsewhere nodes origin x zs
      by true h = h
      by false h = ap (λ l. (get_or origin x 0, get_or origin y 0) ∷ l) h

  elsewhere_more : (ys : List ℕ) (i : ℕ) → i < length ys → elsewhere nodes origin x (take (i + 1) ys) ≡ elsewhere nodes origin x (take i ys) ++ elsewhere nodes origin x (get_or ys i 0 ∷ [])
  elsewhere_more ys i l = ap (elsewhere nodes origin x) (take_more ys i 0 l) ∙ elsewhere_append (take i ys) (get_or ys i 0 ∷ [])

  module _ (ys : List ℕ) (i : ℕ) (l : i < length ys) (marks : List (Option ℕ)) (rs : List Report) where
    abbrev so_far : List Report
    so_far = rs ++ elsewhere nodes origin x (take i ys)

    joined : (last : List Report) → elsewhere nodes origin x (get_or ys i 0 ∷ []) ≡ last → so_far ++ last ≡ rs ++ elsewhere nodes origin x (take (i + 1) ys)
    joined last e = append_assoc rs (elsewhere nodes origin x (take i ys)) last ∙ ap (λ z. rs ++ z) (ap (λ z. elsewhere nodes origin x (take i ys) ++ z) (sym e) ∙ sym (elsewhere_more ys i l))

    test_true : (a b : ℕ) → a ≡ b → nat_eq a b ≡ true
    test_true a b e = grind (arith, nat_tests)

    test_false : (a b : ℕ) → a ≢ b → nat_eq a b ≡ false
    test_false a b e = grind (arith, nat_tests)

    pub note_same : get_or nodes (get_or ys i 0) 0 ≡ get_or nodes x 0 → HasLeast marks so_far → HasLeast marks (rs ++ elsewhere nodes origin x (take (i + 1) ys))
    note_same e h = subst (HasLeast marks) (sym (append-nil so_far) ∙ joined [] (ap (λ b. if b then [] else (get_or origin x 0, get_or origin (get_or ys i 0) 0) ∷ []) (test_true (get_or nodes (get_or ys i 0) 0) (get_or nodes x 0) e))) h

    pub note_other : get_or nodes (get_or ys i 0) 0 ≢ get_or nodes x 0 → HasLeast marks (so_far ++ (get_or origin x 0, get_or origin (get_or ys i 0) 0) ∷ []) → HasLeast marks (rs ++ elsewhere nodes origin x (take (i + 1) ys))
    note_other e h = subst (HasLeast marks) (joined _ (ap (λ b. if b then [] else (get_or origin x 0, get_or origin (get_or ys i 0) 0) ∷ []) (test_false (get_or nodes (get_or ys i 0) 0) (get_or nodes x 0) e))) h
