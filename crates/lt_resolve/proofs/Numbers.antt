-- Names and their numbers.
use Rattle.std.proofs.Common.{◌≡◌, ℕ, suc, ◌+◌, ◌<◌, Bool, true, false, not, ◌||◌, cond, List, [], ◌∷◌, ◌++◌, length, get_or, position, Option, None, Some, refl, sym, ap, ◌∙◌, arith, ltb, is_some, if◌then◌else◌}
use Rattle.std.specs.List.{position_or_len}
use Rattle.std.specs.Option.{option_map}
use Rattle.std.specs.Str.{bytes_eq}
use Rattle.std.proofs.lemmas.Bool.Decides.{nat_tests}
use Rattle.std.proofs.lemmas.List.Folds.{list_any-append}
use Rattle.std.proofs.lemmas.List.Quantifiers.{position-Some}
use Rattle.std.proofs.lemmas.Slice.Eq.{bytes_eq-Decides}
use Rattle.lt_resolve.specs.Names.{Name, number_of_name, among, if_missing}
use Rattle.lt_resolve.specs.Named.{operator_of}
use Rattle.lt_resolve.specs.Uses.{if_uncallable}

less_suc : (j n : ℕ) → ltb (suc j) (suc n) ≡ ltb j n
less_suc j n = grind (arith, nat_tests)

less_zero : (n : ℕ) → ltb 0 (suc n) ≡ true
less_zero n = grind (arith, nat_tests)

never_less : (n : ℕ) → ltb n 0 ≡ false
never_less n = grind (arith, nat_tests)

pub position-cons : {A : Type 0} (p : A → Bool) (x : A) (xs : List A) → position p (x ∷ xs) ≡ cond (p x) (Some 0) (option_map suc (position p xs))
position-cons p x xs = go (p x)
  where
    k : ℕ
    k = position_or_len p xs

    later : (b : Bool) → ◌≡◌ {A = Option ℕ} (cond b (Some (suc k)) None) (option_map suc (cond b (Some k) None))
    later true = refl
    later false = refl

    one : 1 + k ≡ suc k
    one = omega arith

    go : (b : Bool) → ◌≡◌ {A = Option ℕ} (cond (ltb (cond (not b) (1 + k) 0) (suc (length xs))) (Some (cond (not b) (1 + k) 0)) None) (cond b (Some 0) (option_map suc (position p xs)))
    go true = ap (λ t. cond t (Some 0) None) (less_zero (length xs))
    go false = ap (λ m. cond (ltb m (suc (length xs))) (Some m) None) one ∙ ap (λ t. cond t (Some (suc k)) None) (less_suc k (length xs)) ∙ later (ltb k (length xs))

-- a name has a number where it is among the names
pub has_number : (names : List Name) (x : Name) → is_some (number_of_name names x) ≡ among names x
has_number [] x = refl
has_number (y ∷ names) x = ap is_some (position-cons (bytes_eq x) y names) ∙ go (bytes_eq x y) (number_of_name names x) (has_number names x)
  where
    go : (b : Bool) (o : Option ℕ) → is_some o ≡ among names x → is_some (cond b (Some 0) (option_map suc o)) ≡ (b || among names x)
    go true o h = refl
    go false None h = h
    go false (Some i) h = h

pub number_below : (names : List Name) (x : Name) (i : ℕ) → number_of_name names x ≡ Some i → i < length names
number_below names x i h = (position-Some (bytes_eq x) names i [] h).0

-- the name of that number
pub numbered : (names : List Name) (x : Name) (i : ℕ) → number_of_name names x ≡ Some i → get_or names i [] ≡ x
numbered names x i h = sym ((bytes_eq-Decides x (get_or names i [])).0 (position-Some (bytes_eq x) names i [] h).1)

-- a number tells whether the name is one of the first ones
pub number_tells : (xs ys : List Name) (x : Name) (i : ℕ) → number_of_name (xs ++ ys) x ≡ Some i → ltb i (length xs) ≡ among xs x
number_tells [] ys x i h = never_less i
number_tells (y ∷ xs) ys x i h = go (number_tells xs ys x) (bytes_eq x y) (number_of_name (xs ++ ys) x) refl (sym (position-cons (bytes_eq x) y (xs ++ ys)) ∙ h)
  where
    go : ((j : ℕ) → number_of_name (xs ++ ys) x ≡ Some j → ltb j (length xs) ≡ among xs x) → (b : Bool) (o : Option ℕ) → number_of_name (xs ++ ys) x ≡ o → cond b (Some 0) (option_map suc o) ≡ Some i → ltb i (suc (length xs)) ≡ (b || among xs x)
    go ih true o e k = let z : i ≡ 0 = cc in ap (λ n. ltb n (suc (length xs))) z ∙ less_zero (length xs)
    go ih false None e k = absurd (cc)
    go ih false (Some j) e k = let s : i ≡ suc j = cc in ap (λ n. ltb n (suc (length xs))) s ∙ less_suc j (length xs) ∙ ih j e

or_false : (a b : Bool) → (a || b) ≡ false → a ≡ false
or_false false b h = refl
or_false true b h = h

-- without a number it is none of them
pub no_number_tells : (xs ys : List Name) (x : Name) → number_of_name (xs ++ ys) x ≡ None → false ≡ among xs x
no_number_tells xs ys x h = sym (or_false (among xs x) (among ys x) (sym (list_any-append (bytes_eq x) xs ys) ∙ sym (has_number (xs ++ ys) x) ∙ ap is_some h))

-- ---- what a look-up tells

pub not_missing : (names : List Name) (x : Name) (i : ℕ) → Some i ≡ number_of_name names x → if_missing names x ≡ None
not_missing names x i h = ap (λ b. if b then None else Some x) (sym (has_number names x) ∙ ap is_some (sym h))

pub is_missing : (names : List Name) (x : Name) → None ≡ number_of_name names x → if_missing names x ≡ Some x
is_missing names x h = ap (λ b. if b then None else Some x) (sym (has_number names x) ∙ ap is_some (sym h))

pub is_callable : (funcs : List Name) (f : Name) (g : ℕ) → Some g ≡ number_of_name funcs f → if_uncallable funcs f ≡ None
is_callable funcs f g h = ap (λ b. if b || is_some (operator_of f) then None else Some f) (sym (has_number funcs f) ∙ ap is_some (sym h))

pub is_uncallable : (funcs : List Name) (f : Name) → None ≡ number_of_name funcs f → None ≡ operator_of f → if_uncallable funcs f ≡ Some f
is_uncallable funcs f h k = λ i. if (sym (has_number funcs f) ∙ ap is_some (sym h)) i || is_some (sym k i) then None else Some f
