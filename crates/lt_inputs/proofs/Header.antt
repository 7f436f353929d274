-- A header, field by field.
use Rattle.std.proofs.Common.{◌≡◌, ◌≢◌, ℕ, ◌+◌, ◌<◌, Bool, true, false, not, if◌then◌else◌, List, [], ◌∷◌, length, drop, get_or, refl, sym, ap, ◌∙◌, arith, drop-cons, add-one, map}
use Rattle.std.proofs.lemmas.List.{get_or-map, length-map}
use Rattle.std.specs.Str.{bytes_eq}
use Rattle.lt_base.specs.declared.function.Decl.{Decl}
use Rattle.lt_inputs.specs.Inputs.{same_fields}

-- the rest at a place of a list
pub rest_at : {A : Type 0} (s : List A) (i : ℕ) (d : A) → i < length s → drop i s ≡ get_or s i d ∷ drop (i + 1) s
rest_at s i d h = drop-cons s i d h ∙ ap (λ k. get_or s i d ∷ drop k s) (sym (add-one i))

pub of_not : (b r : Bool) → r ≡ not b → r ≡ true → b ≡ false
of_not true r e h = cc
of_not false r e h = refl

pub of_not-false : (b r : Bool) → r ≡ not b → r ≡ false → b ≡ true
of_not-false true r e h = refl
of_not-false false r e h = cc

pub agrees : (a b : List ℕ) (as_ bs : List (List ℕ)) → bytes_eq a b ≡ true → same_fields (a ∷ as_) (b ∷ bs) ≡ same_fields as_ bs
agrees a b as_ bs h = rw h refl

pub differs : (a b : List ℕ) (as_ bs : List (List ℕ)) → bytes_eq a b ≡ false → same_fields (a ∷ as_) (b ∷ bs) ≡ false
differs a b as_ bs h = rw h refl

pub unequal : (as_ bs : List (List ℕ)) → length as_ ≢ length bs → same_fields as_ bs ≡ false
unequal [] [] h = absurd (h refl)
unequal [] (b ∷ bs) h = refl
unequal (a ∷ as_) [] h = refl
unequal (a ∷ as_) (b ∷ bs) h = by (bytes_eq a b) (unequal as_ bs (λ e. h (omega (arith, e))))
  where
    by : (t : Bool) → same_fields as_ bs ≡ false → (if t then same_fields as_ bs else false) ≡ false
    by true e = e
    by false e = refl

abbrev pub name_of : Decl → List ℕ
name_of d = d.name

pub name_at : (ins : List Decl) (i : ℕ) (x : Decl) → i < length ins → x ≡ get_or ins i x → get_or (map name_of ins) i [] ≡ name_of x
name_at ins i x lt at = get_or-map name_of ins i x [] lt ∙ ap name_of (sym at)

pub names-length : (ins : List Decl) → length (map name_of ins) ≡ length ins
names-length ins = length-map ins name_of
