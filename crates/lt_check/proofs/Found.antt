-- What a look-up in a list finds.
use Rattle.std.proofs.Common.{◌≡◌, ℕ, zero, suc, ◌<◌, List, [], ◌∷◌, length, get_or, Option, Some, None, All, reverse, take, ◌-◌, refl, sym, ap, ◌∙◌, subst, arith, Bor}
use Rattle.std.specs.Option.{MatchOption, option_map, option_copied}
use Rattle.std.specs.List.{slice_get}
use Rattle.std.specs.Slice.{IsItemAt}
use Rattle.std.proofs.lemmas.Option.{slice_get_past, slice_get_read, slice_get-get_or, slice_get_within, get_or_from_slice_get}
use Rattle.std.proofs.lemmas.List.{get_or-take, length-take, get_or-reverse, length-reverse, reverse-reverse}
use Rattle.lt_base.specs.declared.function.Decl.{Decl}
use Rattle.lt_base.specs.Expression.{Expression}
use Rattle.lt_base.specs.Program.{Function, GoodFunction, VarsBelow}
use Rattle.lt_base.specs.Meaning.{clock_of, right_of, function_of}
use Rattle.lt_base.specs.Equations.{EquationsIn}
use Rattle.lt_base.proofs.Lookups.{all_found, left_below}
use Rattle.lt_base.specs.Typing.{ty_at}

pub item_is : {X : Type 0} (xs : List X) (i : ℕ) (r : Option (Bor X)) → IsItemAt xs i r → option_copied r ≡ slice_get xs i
item_is xs i None h = sym (slice_get_past xs i h.3)
item_is xs i (Some b) h = sym (slice_get_read xs (length xs) i b.now refl h.3.0 (h.1))

pub ty_at_is : (ds : List Decl) (x : ℕ) → ty_at ds x ≡ option_map (λ d. d.ty) (slice_get ds x)
ty_at_is [] x = refl
ty_at_is (d ∷ ds) zero = refl
ty_at_is (d ∷ ds) (suc x) = ty_at_is ds x

pub function_of_is : (fs : List Function) (g : ℕ) → function_of fs g ≡ slice_get fs g
function_of_is [] g = refl
function_of_is (f ∷ fs) zero = refl
function_of_is (f ∷ fs) (suc g) = function_of_is fs g

-- the type of a declaration that was looked up
pub ty_found : (ds items : List Decl) (x : ℕ) (r : Option (Bor Decl)) → items ≡ ds → IsItemAt items x r → option_map (λ (d : Bor Decl). d.now.ty) r ≡ ty_at ds x
ty_found ds items x None e h = ap (option_map (λ (d : Decl). d.ty)) (item_is items x None h) ∙ sym (ty_at_is items x) ∙ ap (λ l. ty_at l x) e
ty_found ds items x (Some d) e h = ap (option_map (λ (d : Decl). d.ty)) (item_is items x (Some d) h) ∙ sym (ty_at_is items x) ∙ ap (λ l. ty_at l x) e

-- the function that was looked up
pub function_found : (fs items : List Function) (g : ℕ) (r : Option (Bor Function)) → items ≡ fs → IsItemAt items g r → MatchOption r (function_of fs g ≡ None) (λ f. function_of fs g ≡ Some f.now)
function_found fs items g None e h = ap (λ l. function_of l g) (sym e) ∙ function_of_is items g ∙ sym (item_is items g None h)
function_found fs items g (Some f) e h = ap (λ l. function_of l g) (sym e) ∙ function_of_is items g ∙ sym (item_is items g (Some f) h)

-- ---- facts of each element

pub all_reversed : {X : Type 0} (P : X → Type 0) (xs : List X) → All P xs → All P (reverse xs)
all_reversed P xs a k d l = rw (get_or-reverse xs k d (let e = length-reverse xs in omega (arith, l, e))) (a (length xs - 1 - k) d (let e = length-reverse xs in omega (arith, l, e)))

pub none_reversed : {X : Type 0} (P : X → Type 0) (xs : List X) (i : ℕ) (x : X) → i < length xs → x ≡ get_or xs i x → (P x → ⊥) → All P (reverse xs) → ⊥
none_reversed P xs i x l r not a = not (rw r (subst (All P) (reverse-reverse xs) (all_reversed P (reverse xs) a) i x l))

-- the type of a declaration within the list
pub ty_within : (ds items : List Decl) (x : ℕ) (d : Decl) → items ≡ ds → x < length ds → Some (get_or items x d).ty ≡ ty_at ds x
ty_within ds items x d e l = rw e (ap (option_map (λ (d : Decl). d.ty)) (sym (slice_get-get_or ds x d l)) ∙ sym (ty_at_is ds x))

-- ---- declared clocks

pub clock_of_is : (ds : List Decl) (x : ℕ) (d : Decl) → x < length ds → clock_of ds x ≡ (get_or ds x d).clock
clock_of_is [] x d l = absurd (omega arith)
clock_of_is (e ∷ ds) zero d l = refl
clock_of_is (e ∷ ds) (suc x) d l = clock_of_is ds x d (omega arith)

-- a declaration that was read has the variable's clock
pub clock_read : (ds inside items : List Decl) (x : ℕ) (d : Decl) → items ≡ inside → inside ≡ ds → x < length items → d ≡ get_or items x d → d.clock ≡ clock_of ds x
clock_read ds inside items x d p q l r = ap (λ (d : Decl). d.clock) r ∙ sym (clock_of_is items x d l) ∙ (λ i. clock_of ((p ∙ q) i) x)

-- an equation that was read is found by its variable
in_equations : (f : Function) (qs : List (ℕ × Expression)) → EquationsIn f qs → (k : ℕ) (q : ℕ × Expression) → slice_get qs k ≡ Some q → right_of f.eqs q.0 ≡ Some q.1
in_equations f [] a k q h = absurd (cc)
in_equations f (p ∷ qs) a zero q h = let same : p ≡ q = cc in subst (λ (q : ℕ × Expression). right_of f.eqs q.0 ≡ Some q.1) same a.0
in_equations f (p ∷ qs) a (suc k) q h = in_equations f qs a.1 k q h

pub equation_found : (f : Function) → GoodFunction f → (k : ℕ) (q : ℕ × Expression) → slice_get f.eqs k ≡ Some q → right_of f.eqs q.0 ≡ Some q.1
equation_found f good k q h = in_equations f f.eqs (all_found f good) k q h

-- its variable is one of the function's
pub left_inside : (f : Function) → GoodFunction f → (k : ℕ) (q : ℕ × Expression) → slice_get f.eqs k ≡ Some q → q.0 < length f.decls
left_inside f good k q h = left_below f good q.0 q.1 (equation_found f good k q h)

-- an element of a list of which a fact holds, among the first ones
pub all_front : {X : Type 0} (P : X → Type 0) (xs : List X) (n k : ℕ) (x : X) → All P (take n xs) → k < n → slice_get xs k ≡ Some x → P x
all_front P xs n k x a l h =
    let long = slice_get_within xs k x h in
    let e : get_or (take n xs) k x ≡ x = get_or-take n xs k x l ∙ get_or_from_slice_get xs k x x h in
    subst P e (a k x (let t = length-take n xs in omega (arith, t, l, long)))

-- an element that was read stands in the list
pub item_read : {X : Type 0} (xs inside items : List X) (k : ℕ) (x : X) → items ≡ inside → inside ≡ xs → k < length items → x ≡ get_or items k x → slice_get xs k ≡ Some x
item_read xs inside items k x p q l r = ap (λ ys. slice_get ys k) (sym (p ∙ q)) ∙ slice_get_read items (length items) k x refl l r

pub item_inside : {X : Type 0} (xs inside items : List X) (k : ℕ) → items ≡ inside → inside ≡ xs → k < length items → k < length xs
item_inside xs inside items k p q l = subst (λ ys. k < length ys) (p ∙ q) l

-- the variables of a right side are the function's
pub right_inside : (f : Function) → GoodFunction f → (k : ℕ) (q : ℕ × Expression) → slice_get f.eqs k ≡ Some q → VarsBelow (length f.decls) q.1
right_inside f good k q h =
    subst (λ (q : ℕ × Expression). VarsBelow (length f.decls) q.1) (get_or_from_slice_get f.eqs k q q h) (good.rights k q (slice_get_within f.eqs k q h))
