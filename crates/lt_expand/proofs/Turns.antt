-- One turn of each small loop, from what its calls say.
use Rattle.std.proofs.Common.{◌≡◌, ℕ, ◌+◌, ◌^◌, ◌<◌, Bool, List, [], ◌∷◌, ◌++◌, length, map, take, get_or, reverse, All, sym, ap, ◌∙◌, subst}
use Rattle.std.proofs.lemmas.List.{map-append, reverse-append}
use Rattle.std.proofs.lemmas.List.Elements.{All-nil, All-cons, All-head, All-tail}
use Rattle.lt_base.specs.declared.function.Decl.{Decl}
use Rattle.lt_base.specs.declared.expression.Expr.{Expr}
use Rattle.lt_base.specs.Expression.{Expression, arguments_of, shape}
use Rattle.lt_base.specs.Meaning.{ClockPairs}
use Rattle.lt_expand.specs.Copies.{copy_decl, copy_decls, copy_equation, copy_equations, input_equations}
use Rattle.lt_expand.proofs.Loops.{decls_more, equations_more, inputs_more}

-- an element of a list that is read
pub all_item : {A : Type 0} (P : A → Type 0) (xs items : List A) (i : ℕ) (d : A) → All P xs → items ≡ xs → i < length items → d ≡ get_or items i d → P d
all_item P xs items i d a e l r = subst P (sym r) (subst (All P) (sym e) a i d l)

pub decls_turn : (m : ℕ) (place : ClockPairs) (items before now after : List Decl) (i : ℕ) (d r : Decl) → i < length items → d ≡ get_or items i d → r ≡ copy_decl m place d → now ≡ before ++ copy_decls m place (take i items) → after ≡ now ++ r ∷ [] → after ≡ before ++ copy_decls m place (take (i + 1) items)
decls_turn m place items before now after i d r l read is n s =
    s
    ∙ (λ j. n j ++ (is ∙ ap (copy_decl m place) read) j ∷ [])
    ∙ decls_more m place items before i d l

pub equations_turn : (m : ℕ) (items before now after : List (ℕ × Expression)) (i : ℕ) (q r : ℕ × Expression) → i < length items → q ≡ get_or items i q → r ≡ copy_equation m q → now ≡ before ++ copy_equations m (take i items) → after ≡ now ++ r ∷ [] → after ≡ before ++ copy_equations m (take (i + 1) items)
equations_turn m items before now after i q r l read is n s =
    s
    ∙ (λ j. n j ++ (is ∙ ap (copy_equation m) read) j ∷ [])
    ∙ equations_more m before items i q l

pub inputs_turn : (m number : ℕ) (before now after : List (ℕ × Expression)) (old new : List Expr) (x : Expr) (r : ℕ × Expression) → number ≡ m + length old → r ≡ (number, shape x) → now ≡ before ++ input_equations m (arguments_of (map shape old)) → after ≡ now ++ r ∷ [] → new ≡ old ++ x ∷ [] → length (map shape old) ≡ length old → after ≡ before ++ input_equations m (arguments_of (map shape new))
inputs_turn m number before now after old new x r k is n s p l =
    let at : r ≡ (m + length (map shape old), shape x) = is ∙ (λ j. ((k ∙ ap (λ z. m + z) (sym l)) j, shape x)) in
    s
    ∙ (λ j. n j ++ at j ∷ [])
    ∙ inputs_more m before (map shape old) (shape x)
    ∙ ap (λ z. before ++ input_equations m (arguments_of z)) (sym (ap (map shape) p ∙ map-append shape old (x ∷ [])))

-- ---- clocks

all_front : {A : Type 0} (P : A → Type 0) (xs ys : List A) → All P (xs ++ ys) → All P xs
all_front P [] ys a = All-nil P
all_front P (x ∷ xs) ys a = All-cons P x xs (All-head P x (xs ++ ys) a) (all_front P xs ys (All-tail P x (xs ++ ys) a))

all_back : {A : Type 0} (P : A → Type 0) (xs ys : List A) → All P (xs ++ ys) → All P ys
all_back P [] ys a = a
all_back P (x ∷ xs) ys a = all_back P xs ys (All-tail P x (xs ++ ys) a)

all_reversed : {A : Type 0} (P : A → Type 0) (xs : List A) → All P (reverse xs) → All P xs
all_reversed P [] a = All-nil P
all_reversed P (x ∷ xs) a =
    let b = subst (All P) (reverse-append (x ∷ []) xs) a in
    All-cons P x xs (All-head P x [] (all_back P (reverse xs) (x ∷ []) b)) (all_reversed P xs (all_front P (reverse xs) (x ∷ []) b))

-- the number of a pair of a clock has room for being raised
pub step_fits : (m : ℕ) (ck steps items : ClockPairs) (i : ℕ) (d : ℕ × Bool) → All (λ p. p.0 + m < 2 ^ 32) ck → reverse steps ≡ ck → items ≡ steps → i < length items → (get_or items i d).0 + m < 2 ^ 32
step_fits m ck steps items i d a r e l =
    let P : ℕ × Bool → Type 0 = λ p. p.0 + m < 2 ^ 32 in
    subst (All P) (sym e) (all_reversed P steps (subst (All P) (sym r) a)) i d l
