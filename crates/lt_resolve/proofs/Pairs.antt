-- Two lists side by side.
use Rattle.std.proofs.Common.{◌≡◌, ℕ, zero, suc, ◌+◌, ◌<◌, ◌≤◌, List, [], ◌∷◌, ◌++◌, length, get_or, take, reverse, refl, sym, ap, ◌∙◌, subst, arith}
use Rattle.std.specs.List.{All}
use Rattle.std.proofs.lemmas.List.{append_assoc, take_more, take_all, reverse-append, reverse-reverse}
use Rattle.std.proofs.lemmas.List.Elements.{All-nil, All-cons, All-head, All-tail, All-push, All-same, All-get_or}
use Rattle.lt_resolve.specs.Named.{Along, numbers_from}

module _ {A B : Type 0} (R : A → B → Type 0) where
  pub along_append : (xs xs' : List A) (ys ys' : List B) → Along R xs ys → Along R xs' ys' → Along R (xs ++ xs') (ys ++ ys')
  along_append [] xs' [] ys' h k = k
  along_append [] xs' (y ∷ ys) ys' h k = absurd h
  along_append (x ∷ xs) xs' [] ys' h k = absurd h
  along_append (x ∷ xs) xs' (y ∷ ys) ys' h k = (h.0, along_append xs xs' ys ys' h.1 k)

  pub along_push : (xs : List A) (ys : List B) (x : A) (y : B) → Along R xs ys → R x y → Along R (xs ++ x ∷ []) (ys ++ y ∷ [])
  along_push xs ys x y h r = along_append xs (x ∷ []) ys (y ∷ []) h (r, tt)

  -- one element more on both sides
  pub along_more : (xs : List A) (i : ℕ) (x : A) (ys ys' : List B) (y : B) → i < length xs → x ≡ get_or xs i x → Along R (take i xs) ys → R x y → ys' ≡ ys ++ y ∷ [] → Along R (take (i + 1) xs) ys'
  along_more xs i x ys ys' y l e h r p =
      let more : take i xs ++ x ∷ [] ≡ take (i + 1) xs = ap (λ z. take i xs ++ z ∷ []) e ∙ sym (take_more xs i x l) in
      subst (λ zs. Along R zs ys') more (subst (λ zs. Along R (take i xs ++ x ∷ []) zs) (sym p) (along_push (take i xs) ys x y h r))

  -- the whole lists
  pub along_all : (xs : List A) (i : ℕ) (ys : List B) → length xs ≤ i → Along R (take i xs) ys → Along R xs ys
  along_all xs i ys l h = subst (λ zs. Along R zs ys) (take_all i xs l) h

  pub along_length : (xs : List A) (ys : List B) → Along R xs ys → length ys ≡ length xs
  along_length [] [] h = refl
  along_length [] (y ∷ ys) h = absurd h
  along_length (x ∷ xs) [] h = absurd h
  along_length (x ∷ xs) (y ∷ ys) h = ap suc (along_length xs ys h.1)

-- the same after other pairs
module _ {A B : Type 0} (R : A → B → Type 0) where
  pub along_more_after : (before xs : List A) (i : ℕ) (x : A) (ys ys' : List B) (y : B) → i < length xs → x ≡ get_or xs i x → Along R (before ++ take i xs) ys → R x y → ys' ≡ ys ++ y ∷ [] → Along R (before ++ take (i + 1) xs) ys'
  along_more_after before xs i x ys ys' y l e h r p =
      let more : (before ++ take i xs) ++ x ∷ [] ≡ before ++ take (i + 1) xs = append_assoc before (take i xs) (x ∷ []) ∙ ap (λ zs. before ++ zs) (ap (λ z. take i xs ++ z ∷ []) e ∙ sym (take_more xs i x l)) in
      subst (λ zs. Along R zs ys') more (subst (λ zs. Along R ((before ++ take i xs) ++ x ∷ []) zs) (sym p) (along_push R (before ++ take i xs) ys x y h r))

  -- a fact of the right elements
  pub along_right : (P : B → Type 0) → ((x : A) (y : B) → R x y → P y) → (xs : List A) (ys : List B) → Along R xs ys → All P ys
  along_right P f [] [] h = All-nil P
  along_right P f [] (y ∷ ys) h = absurd h
  along_right P f (x ∷ xs) [] h = absurd h
  along_right P f (x ∷ xs) (y ∷ ys) h = All-cons P y ys (f x y h.0) (along_right P f xs ys h.1)

-- a fact at a place
pub all_at : {A : Type 0} (P : A → Type 0) (xs : List A) (i : ℕ) (x : A) → All P xs → i < length xs → x ≡ get_or xs i x → P x
all_at P xs i x h l e = subst P (sym e) (All-get_or P xs i x l h)

pub all_left : {A : Type 0} (P : A → Type 0) (xs ys : List A) → All P (xs ++ ys) → All P xs
all_left P [] ys h = All-nil P
all_left P (x ∷ xs) ys h = All-cons P x xs (All-head P x (xs ++ ys) h) (all_left P xs ys (All-tail P x (xs ++ ys) h))

pub all_right : {A : Type 0} (P : A → Type 0) (xs ys : List A) → All P (xs ++ ys) → All P ys
all_right P [] ys h = h
all_right P (x ∷ xs) ys h = all_right P xs ys (All-tail P x (xs ++ ys) h)

pub reverse_cons : {A : Type 0} (x : A) (xs : List A) → reverse (x ∷ xs) ≡ reverse xs ++ x ∷ []
reverse_cons x xs = reverse-append (x ∷ []) xs

pub all_reversed : {A : Type 0} (P : A → Type 0) (xs : List A) → All P xs → All P (reverse xs)
all_reversed P [] h = h
all_reversed P (x ∷ xs) h = All-same P (reverse (x ∷ xs)) (reverse xs ++ x ∷ []) (reverse_cons x xs) (All-push P (reverse xs) x (all_reversed P xs (All-tail P x xs h)) (All-head P x xs h))

pub all_unreversed : {A : Type 0} (P : A → Type 0) (xs : List A) → All P (reverse xs) → All P xs
all_unreversed P xs h = All-same P xs (reverse (reverse xs)) (sym (reverse-reverse xs)) (all_reversed P (reverse xs) h)

pub numbers_more : (first n : ℕ) → numbers_from first (suc n) ≡ numbers_from first n ++ (first + n) ∷ []
numbers_more first zero = ap (λ k. k ∷ []) (omega arith)
numbers_more first (suc n) = ap (λ l. first ∷ l) (numbers_more (suc first) n ∙ ap (λ k. numbers_from (suc first) n ++ k ∷ []) (omega arith))
