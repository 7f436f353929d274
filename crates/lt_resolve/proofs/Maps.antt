-- A search in a mapped list.
use Rattle.std.proofs.Common.{◌≡◌, ℕ, ◌+◌, Bool, true, false, not, ◌||◌, cond, List, [], ◌∷◌, ◌++◌, map, position, refl, sym, ap, ◌∙◌, Bor, if◌then◌else◌}
use Rattle.std.proofs.lemmas.List.{length-map, map-append}
use Rattle.std.specs.List.{list_any, prefix_len}
use Rattle.std.specs.Str.{bytes_eq}
use Rattle.lt_resolve.specs.Names.{among}

pub prefix_len-map : {A B : Type 0} (p : B → Bool) (f : A → B) (xs : List A) → prefix_len p (map f xs) ≡ prefix_len (λ x. p (f x)) xs
prefix_len-map p f [] = refl
prefix_len-map p f (x ∷ xs) = ap (λ n. cond (p (f x)) (1 + n) 0) (prefix_len-map p f xs)

pub position-map : {A B : Type 0} (p : B → Bool) (f : A → B) (xs : List A) → position p (map f xs) ≡ position (λ x. p (f x)) xs
position-map p f xs = rw (prefix_len-map (λ y. not (p y)) f xs, length-map xs f) refl

pub list_any-map : {A B : Type 0} (p : B → Bool) (f : A → B) (xs : List A) → list_any p (map f xs) ≡ list_any (λ x. p (f x)) xs
list_any-map p f [] = refl
list_any-map p f (x ∷ xs) = ap (λ b. p (f x) || b) (list_any-map p f xs)

-- the borrowed names of a table, and the names
pub among-borrowed : (x : List ℕ) (keys : List (Bor (List ℕ))) (names : List (List ℕ)) → map (λ (k : Bor (List ℕ)). k.now) keys ≡ names → list_any (λ (k : Bor (List ℕ)). bytes_eq x k.now) keys ≡ among names x
among-borrowed x keys names e = sym (list_any-map (bytes_eq x) (λ (k : Bor (List ℕ)). k.now) keys) ∙ ap (λ ns. among ns x) e

-- a name that goes last where it is not there
pub inserted : (x : Bor (List ℕ)) (keys keys' : List (Bor (List ℕ))) (names : List (List ℕ)) → map (λ (k : Bor (List ℕ)). k.now) keys ≡ names → keys' ≡ (if list_any (λ (k : Bor (List ℕ)). bytes_eq x.now k.now) keys then keys else keys ++ x ∷ []) → map (λ (k : Bor (List ℕ)). k.now) keys' ≡ (if among names x.now then names else names ++ x.now ∷ [])
inserted x keys keys' names e h =
    ap (map (λ (k : Bor (List ℕ)). k.now)) h
    ∙ by (list_any (λ (k : Bor (List ℕ)). bytes_eq x.now k.now) keys)
    ∙ ap (λ b. if b then names else names ++ x.now ∷ []) (among-borrowed x.now keys names e)
  where
    by : (b : Bool) → map (λ (k : Bor (List ℕ)). k.now) (if b then keys else keys ++ x ∷ []) ≡ (if b then names else names ++ x.now ∷ [])
    by true = e
    by false = map-append (λ (k : Bor (List ℕ)). k.now) keys (x ∷ []) ∙ ap (λ ns. ns ++ x.now ∷ []) e
