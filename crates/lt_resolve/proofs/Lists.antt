-- What is found first along a list.
use Rattle.std.proofs.Common.{◌≡◌, ℕ, zero, suc, ◌+◌, ◌<◌, ◌≤◌, List, [], ◌∷◌, ◌++◌, length, get_or, drop, map, Option, None, Some, refl, sym, ap, ◌∙◌, arith, add-one, drop-cons}
use Rattle.std.specs.Option.{option_or, option_map}
use Rattle.lt_syntax.specs.declared.tree.NodeText.{NodeText}
use Rattle.lt_resolve.specs.Names.{Name, first_some}
use Rattle.lt_resolve.specs.Faults.{first_in}

pub or_none : {B : Type 0} (o p : Option B) → o ≡ None → option_or o p ≡ p
or_none o p h = ap (λ q. option_or q p) h

pub or_some : {B : Type 0} (o p : Option B) (y : B) → o ≡ Some y → option_or o p ≡ Some y
or_some o p y h = ap (λ q. option_or q p) h

pub or_assoc : {B : Type 0} (a b c : Option B) → option_or (option_or a b) c ≡ option_or a (option_or b c)
or_assoc None b c = refl
or_assoc (Some x) b c = refl

pub drop_whole : {A : Type 0} (xs : List A) (i : ℕ) → length xs ≤ i → drop i xs ≡ []
drop_whole [] zero h = refl
drop_whole [] (suc i) h = refl
drop_whole (x ∷ xs) zero h = absurd (omega arith)
drop_whole (x ∷ xs) (suc i) h = drop_whole xs i (omega arith)

module _ {A B : Type 0} (f : A → Option B) where
  pub at_place : (xs : List A) (i : ℕ) (x : A) → i < length xs → x ≡ get_or xs i x → first_some f (drop i xs) ≡ option_or (f x) (first_some f (drop (i + 1) xs))
  at_place xs i x l e =
      ap (first_some f) (drop-cons xs i x l)
      ∙ (λ j. option_or (f (sym e j)) (first_some f (drop (sym (add-one i) j) xs)))

  -- nothing is found at place i
  pub some_next : (xs : List A) (i : ℕ) (x : A) → i < length xs → x ≡ get_or xs i x → f x ≡ None → first_some f (drop i xs) ≡ first_some f xs → first_some f (drop (i + 1) xs) ≡ first_some f xs
  some_next xs i x l e h k = sym (or_none (f x) (first_some f (drop (i + 1) xs)) h) ∙ sym (at_place xs i x l e) ∙ k

  -- y is found at place i
  pub some_here : (xs : List A) (i : ℕ) (x : A) (y : B) → i < length xs → x ≡ get_or xs i x → f x ≡ Some y → first_some f (drop i xs) ≡ first_some f xs → first_some f xs ≡ Some y
  some_here xs i x y l e h k = sym k ∙ at_place xs i x l e ∙ or_some (f x) (first_some f (drop (i + 1) xs)) y h

  -- nothing is found up to the end
  pub some_none : (xs : List A) (i : ℕ) → length xs ≤ i → first_some f (drop i xs) ≡ first_some f xs → first_some f xs ≡ None
  some_none xs i l k = sym k ∙ ap (first_some f) (drop_whole xs i l)

  -- a list after another
  pub some_append : (xs ys : List A) → first_some f (xs ++ ys) ≡ option_or (first_some f xs) (first_some f ys)
  some_append [] ys = refl
  some_append (x ∷ xs) ys =
      let go : (o : Option B) → option_or o (first_some f (xs ++ ys)) ≡ option_or (option_or o (first_some f xs)) (first_some f ys) =
      elim [ None ↦ some_append xs ys | (Some y) ↦ refl ] in
      go (f x)

pub some_map : {A B C : Type 0} (f : B → Option C) (g : A → B) (xs : List A) → first_some f (map g xs) ≡ first_some (λ x. f (g x)) xs
some_map f g [] = refl
some_map f g (x ∷ xs) = ap (option_or (f (g x))) (some_map f g xs)

pub some_same : {A B : Type 0} (f g : A → Option B) → ((x : A) → f x ≡ g x) → (xs : List A) → first_some f xs ≡ first_some g xs
some_same f g h [] = refl
some_same f g h (x ∷ xs) = λ i. option_or (h x i) (some_same f g h xs i)

-- what is found first in functions
module _ (f : ℕ → NodeText → Option Name) where
  pub at_function : (t : List NodeText) (i : ℕ) (n : NodeText) → i < length t → n ≡ get_or t i n → first_in f i (drop i t) ≡ option_or (option_map (λ x. (i, x)) (f i n)) (first_in f (i + 1) (drop (i + 1) t))
  at_function t i n l e =
      ap (first_in f i) (drop-cons t i n l)
      ∙ (λ j. option_or (option_map (λ x. (i, x)) (f i (sym e j))) (first_in f (i + 1) (drop (sym (add-one i) j) t)))

  pub in_next : (t : List NodeText) (i : ℕ) (n : NodeText) → i < length t → n ≡ get_or t i n → f i n ≡ None → first_in f i (drop i t) ≡ first_in f 0 t → first_in f (i + 1) (drop (i + 1) t) ≡ first_in f 0 t
  in_next t i n l e h k = sym (ap (λ o. option_or (option_map (λ x. (i, x)) o) (first_in f (i + 1) (drop (i + 1) t))) h) ∙ sym (at_function t i n l e) ∙ k

  pub in_here : (t : List NodeText) (i : ℕ) (n : NodeText) (y : Name) → i < length t → n ≡ get_or t i n → f i n ≡ Some y → first_in f i (drop i t) ≡ first_in f 0 t → first_in f 0 t ≡ Some (i, y)
  in_here t i n y l e h k = sym k ∙ at_function t i n l e ∙ ap (λ o. option_or (option_map (λ x. (i, x)) o) (first_in f (i + 1) (drop (i + 1) t))) h

  pub in_none : (t : List NodeText) (i : ℕ) → length t ≤ i → first_in f i (drop i t) ≡ first_in f 0 t → first_in f 0 t ≡ None
  in_none t i l k = sym k ∙ ap (first_in f i) (drop_whole t i l)
