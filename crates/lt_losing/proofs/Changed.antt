-- Lists that are changed place by place.
use Rattle.std.proofs.Common.{◌≡◌, ◌≢◌, ℕ, ◌+◌, ◌<◌, List, [], length, set, Bool, true, false, ◌&&◌, nat_lt, if◌then◌else◌, inl, inr, refl, sym, ◌∙◌, ap, subst, arith, slice_index_or, length-set, lt-ltb, le-ltb}
use Rattle.std.specs.Prelude.{slice_set}
use Rattle.std.proofs.lemmas.Bool.{cases_lt}
use Rattle.std.proofs.lemmas.List.{get_or-set_same, get_or-set_other}
use Rattle.lt_arch.proofs.Changes.{same_or_not}
use Rattle.lt_losing.specs.Held.{AreChanged}

and_false : (b : Bool) → (b && false) ≡ false
and_false true = refl
and_false false = refl

lt_other : (c i : ℕ) → c ≢ i → nat_lt c i ≡ nat_lt c (i + 1)
lt_other c i ne = elim (cases_lt c i) [
  | inl lt ↦ lt-ltb c i lt ∙ sym (lt-ltb c (i + 1) (omega (arith, lt)))
  | inr le ↦ le-ltb c i le ∙ sym (le-ltb c (i + 1) (omega (arith, le, ne)))
]

module _ (n : ℕ) (on : ℕ → Bool) (new : ℕ → List ℕ) (xs : List (List ℕ)) where
  -- what place c has
  value : (b : Bool) (c : ℕ) → List ℕ
  value b c = if b then new c else slice_index_or xs c []

  pub changed_none : AreChanged n 0 on new xs xs
  unfolding value
  changed_none c lt = sym (ap (λ (b : Bool). value (b && on c) c) (le-ltb c 0 (omega arith)))

  module _ (i : ℕ) (ys : List (List ℕ)) (h : AreChanged n i on new xs ys) where
    -- the next place is as it was
    pub changed_here : i < n → slice_index_or ys i [] ≡ slice_index_or xs i []
    unfolding value
    changed_here lt = h i lt ∙ ap (λ (b : Bool). value (b && on i) i) (le-ltb i i (omega arith))

    changed_by : (zs : List (List ℕ)) (v : List ℕ) (b : Bool) → on i ≡ b → i < length ys → zs ≡ (if b then slice_set ys i v else ys) → (b ≡ true → v ≡ new i) → AreChanged n (i + 1) on new xs zs
    unfolding value
    changed_by zs v true is lt set_is v_is c within = ap (λ (l : List (List ℕ)). slice_index_or l c []) set_is ∙ elim (same_or_not c i) [
      | inl e ↦ subst (λ c. slice_index_or (set ys i v) c [] ≡ value (nat_lt c (i + 1) && on c) c) (sym e)
          (get_or-set_same ys i v [] lt ∙ (v_is refl ∙ sym (ap (λ (b : Bool). value b i) (λ j. lt-ltb i (i + 1) (omega arith) j && is j))))
      | inr ne ↦ get_or-set_other ys i c v [] ne ∙ (h c within ∙ ap (λ (b : Bool). value (b && on c) c) (lt_other c i ne))
    ]
    changed_by zs v false is lt set_is v_is c within = ap (λ (l : List (List ℕ)). slice_index_or l c []) set_is ∙ (h c within ∙ elim (same_or_not c i) [
      | inl e ↦ subst (λ c. value (nat_lt c i && on c) c ≡ value (nat_lt c (i + 1) && on c) c) (sym e)
          (ap (λ (b : Bool). value b i) ((λ j. nat_lt i i && is j) ∙ (and_false (nat_lt i i) ∙ sym ((λ j. nat_lt i (i + 1) && is j) ∙ and_false (nat_lt i (i + 1))))))
      | inr ne ↦ ap (λ (b : Bool). value (b && on c) c) (lt_other c i ne)
    ])

    -- the next place is changed where the test passes
    pub changed_more : (zs : List (List ℕ)) (v : List ℕ) → i < length ys → zs ≡ (if on i then slice_set ys i v else ys) → (on i ≡ true → v ≡ new i) → AreChanged n (i + 1) on new xs zs
    changed_more zs v lt set_is v_is = changed_by zs v (on i) refl lt set_is v_is

  -- up to the end only the test is left
  pub changed_all : (ys : List (List ℕ)) → AreChanged n n on new xs ys → (c : ℕ) → c < n → slice_index_or ys c [] ≡ (if on c then new c else slice_index_or xs c [])
  unfolding value
  changed_all ys h c lt = h c lt ∙ ap (λ (b : Bool). value (b && on c) c) (lt-ltb c n lt)

pub length-changed : (ys zs : List (List ℕ)) (i : ℕ) (v : List ℕ) (b : Bool) → zs ≡ (if b then slice_set ys i v else ys) → length zs ≡ length ys
length-changed ys zs i v true is = ap (λ (l : List (List ℕ)). length l) is ∙ length-set ys i v
length-changed ys zs i v false is = ap (λ (l : List (List ℕ)). length l) is
