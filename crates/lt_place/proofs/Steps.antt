-- The pairs of a clock, as they are kept.
use Rattle.std.proofs.Common.{◌≡◌, ℕ, ◌<◌, ◌+◌, Bool, List, [], ◌∷◌, ◌++◌, length, get_or, reverse, All, sym, subst, arith, length-append}
use Rattle.std.proofs.lemmas.List.{reverse-append, get_or_append_left, get_or-append-add}
use Rattle.std.proofs.lemmas.List.Elements.{All-nil, All-cons, All-head}
use Rattle.lt_base.specs.Meaning.{ClockPairs}

all_front : {A : Type 0} (P : A → Type 0) (xs ys : List A) → All P (xs ++ ys) → All P xs
all_front P xs ys a k d l = subst P (get_or_append_left xs ys d k l) (a k d (let e = length-append xs ys in omega (arith, e, l)))

all_rear : {A : Type 0} (P : A → Type 0) (xs ys : List A) → All P (xs ++ ys) → All P ys
all_rear P xs ys a k d l = subst P (get_or-append-add xs ys k d) (a (length xs + k) d (let e = length-append xs ys in omega (arith, e, l)))

all_reversed : {A : Type 0} (P : A → Type 0) (xs : List A) → All P (reverse xs) → All P xs
all_reversed P [] a = All-nil P
all_reversed P (x ∷ xs) a =
    let b = subst (All P) (reverse-append (x ∷ []) xs) a in
    All-cons P x xs (All-head P x [] (all_rear P (reverse xs) (x ∷ []) b)) (all_reversed P xs (all_front P (reverse xs) (x ∷ []) b))

-- the variable of a pair is inside
pub step_inside : (n : ℕ) (ck steps items : ClockPairs) (i : ℕ) (d : ℕ × Bool) → All (λ p. p.0 < n) ck → reverse steps ≡ ck → items ≡ steps → i < length items → (get_or items i d).0 < n
step_inside n ck steps items i d a r e l =
    let P : ℕ × Bool → Type 0 = λ p. p.0 < n in
    subst (All P) (sym e) (all_reversed P steps (subst (All P) (sym r) a)) i d l
