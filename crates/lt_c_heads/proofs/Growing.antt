-- Texts of lists, which grow item by item.
use Rattle.std.proofs.Common.{◌≡◌, OnOk, Result, Ok, Err, ℕ, zero, suc, ◌+◌, ◌<◌, ◌≤◌, ◌^◌, Bool, List, map, [], ◌∷◌, ◌++◌, length, take, get_or, refl, sym, ap, ◌∙◌, arith, append_assoc, add-one, append-nil}
use Rattle.std.proofs.Math.Seq.{take-suc}
use Rattle.std.specs.List.{count_by, filter, flat_map}
use Rattle.std.proofs.lemmas.List.{length-map}
use Rattle.std.proofs.lemmas.Grind.{flat_map-append}
use Rattle.std.proofs.lemmas.List.Concat.{flat_map-cons}
use Rattle.std.proofs.lemmas.List.Sums.{count_by-le-length, length-filter}
use Rattle.lt_c_step.proofs.Pieces.{next}
use Rattle.lt_base.specs.declared.memory.Memory.{Memory}
use Rattle.lt_c_heads.specs.Words.{texts_from, made_from}

flat_snoc : {A : Type 0} (f : A → List ℕ) (xs : List A) (x : A) → flat_map f (xs ++ x ∷ []) ≡ flat_map f xs ++ f x
flat_snoc f xs x = flat_map-append f xs (x ∷ []) ∙ ap (λ z. flat_map f xs ++ z) (flat_map-cons f x [] ∙ append-nil (f x))

-- one more item
pub grows : {A : Type 0} (f : A → List ℕ) (old m n : List ℕ) (xs : List A) (i : ℕ) (x : A) → i < length xs → x ≡ get_or xs i x → m ≡ old ++ flat_map f (take i xs) → n ≡ m ++ f x → n ≡ old ++ flat_map f (take (i + 1) xs)
grows f = next (flat_map f) f (flat_snoc f)

-- the item at a place of a list is that by any default
same_there : {A : Type 0} (xs : List A) (i : ℕ) (d e : A) → i < length xs → get_or xs i d ≡ get_or xs i e
same_there [] i d e l = absurd (omega (arith, l))
same_there (y ∷ xs) zero d e l = refl
same_there (y ∷ xs) (suc i) d e l = same_there xs i d e (omega (arith, l))

pub grows_there : {A : Type 0} (f : A → List ℕ) (old m n : List ℕ) (xs : List A) (i : ℕ) (d : A) → i < length xs → m ≡ old ++ flat_map f (take i xs) → n ≡ m ++ f (get_or xs i d) → n ≡ old ++ flat_map f (take (i + 1) xs)
grows_there f old m n xs i d h = grows f old m n xs i (get_or xs i d) h (same_there xs i d (get_or xs i d) h)

from_snoc : {A : Type 0} (f : ℕ → A → List ℕ) (k : ℕ) (xs : List A) (x : A) → texts_from f k (xs ++ x ∷ []) ≡ texts_from f k xs ++ f (k + length xs) x
from_snoc f k [] x = append-nil (f k x) ∙ ap (λ j. f j x) (plus_zero k)
  where
    plus_zero : (k : ℕ) → k ≡ k + 0
    plus_zero k = omega arith
from_snoc f k (y ∷ xs) x =
    ap (λ z. f k y ++ z) (from_snoc f (suc k) xs x ∙ ap (λ j. texts_from f (suc k) xs ++ f j x) (turn k (length xs)))
    ∙ sym (append_assoc (f k y) (texts_from f (suc k) xs) (f (k + suc (length xs)) x))
  where
    turn : (k n : ℕ) → suc k + n ≡ k + suc n
    turn k n = omega arith

length_taken : {A : Type 0} (xs : List A) (i : ℕ) → i < length xs → length (take i xs) ≡ i
length_taken [] i l = absurd (omega (arith, l))
length_taken (y ∷ xs) zero l = refl
length_taken (y ∷ xs) (suc i) l = ap suc (length_taken xs i (omega (arith, l)))

taken : {A : Type 0} (xs : List A) (i : ℕ) → i < length xs → 0 + length (take i xs) ≡ i
taken xs i l = let e = length_taken xs i l in omega (arith, e)

-- one more item, by its place
pub grows_at : {A : Type 0} (f : ℕ → A → List ℕ) (old m n : List ℕ) (xs : List A) (i : ℕ) (x : A) → i < length xs → x ≡ get_or xs i x → m ≡ old ++ texts_from f 0 (take i xs) → n ≡ m ++ f i x → n ≡ old ++ texts_from f 0 (take (i + 1) xs)
grows_at f old m n xs i x h is p q =
    let t : take i xs ++ x ∷ [] ≡ take (i + 1) xs = ap (λ z. take i xs ++ z ∷ []) is ∙ sym (take-suc xs i x h) ∙ ap (λ k. take k xs) (sym (add-one i)) in
    q ∙ ap (λ z. z ++ f i x) p ∙ append_assoc old (texts_from f 0 (take i xs)) (f i x)
    ∙ ap (λ z. old ++ z) (ap (λ j. texts_from f 0 (take i xs) ++ f j x) (sym (taken xs i h)) ∙ sym (from_snoc f 0 (take i xs) x) ∙ ap (texts_from f 0) t)

made_snoc : {A B : Type 0} (f : ℕ → A → B) (k : ℕ) (xs : List A) (x : A) → made_from f k (xs ++ x ∷ []) ≡ made_from f k xs ++ f (k + length xs) x ∷ []
made_snoc f k [] x = ap (λ j. f j x ∷ []) (plus_zero k)
  where
    plus_zero : (k : ℕ) → k ≡ k + 0
    plus_zero k = omega arith
made_snoc f k (y ∷ xs) x = ap (λ z. f k y ∷ z) (made_snoc f (suc k) xs x ∙ ap (λ j. made_from f (suc k) xs ++ f j x ∷ []) (turn k (length xs)))
  where
    turn : (k n : ℕ) → suc k + n ≡ k + suc n
    turn k n = omega arith

-- one more item is made, by its place
pub made_more : {A B : Type 0} (f : ℕ → A → B) (xs : List A) (i : ℕ) (x : A) → i < length xs → x ≡ get_or xs i x → made_from f 0 (take (i + 1) xs) ≡ made_from f 0 (take i xs) ++ f i x ∷ []
made_more f xs i x h is =
    let t : take i xs ++ x ∷ [] ≡ take (i + 1) xs = ap (λ z. take i xs ++ z ∷ []) is ∙ sym (take-suc xs i x h) ∙ ap (λ k. take k xs) (sym (add-one i)) in
    ap (made_from f 0) (sym t) ∙ made_snoc f 0 (take i xs) x ∙ ap (λ j. made_from f 0 (take i xs) ++ f j x ∷ []) (taken xs i h)

-- one more item is made, behind others or behind none
pub made_grows : {A B : Type 0} (f : ℕ → A → B) (old m n : List B) (xs : List A) (i : ℕ) (x : A) (y : B) → i < length xs → x ≡ get_or xs i x → m ≡ old ++ made_from f 0 (take i xs) → y ≡ f i x → n ≡ m ++ y ∷ [] → n ≡ old ++ made_from f 0 (take (i + 1) xs)
made_grows f old m n xs i x y h is p made q =
    q ∙ (λ k. p k ++ made k ∷ []) ∙ append_assoc old (made_from f 0 (take i xs)) (f i x ∷ []) ∙ ap (λ z. old ++ z) (sym (made_more f xs i x h is))

pub made_next : {A B : Type 0} (f : ℕ → A → B) (m n : List B) (xs : List A) (i : ℕ) (x : A) (y : B) → i < length xs → x ≡ get_or xs i x → m ≡ made_from f 0 (take i xs) → y ≡ f i x → n ≡ m ++ y ∷ [] → n ≡ made_from f 0 (take (i + 1) xs)
made_next f m n xs i x y h is p made q = q ∙ (λ k. p k ++ made k ∷ []) ∙ sym (made_more f xs i x h is)

pub made_there : {A B : Type 0} (f : ℕ → A → B) (m n : List B) (xs : List A) (i : ℕ) (d : A) (y : B) → i < length xs → m ≡ made_from f 0 (take i xs) → y ≡ f i (get_or xs i d) → n ≡ m ++ y ∷ [] → n ≡ made_from f 0 (take (i + 1) xs)
made_there f m n xs i d y h = made_next f m n xs i (get_or xs i d) y h (same_there xs i d (get_or xs i d) h)

pub count_most : {A : Type 0} (p : A → Bool) (xs : List A) → count_by p xs ≤ length xs
count_most p xs = count_by-le-length p xs

pub made_length : {A B : Type 0} (f : ℕ → A → B) (k : ℕ) (xs : List A) → length (made_from f k xs) ≡ length xs
made_length f k [] = refl
made_length f k (x ∷ xs) = ap suc (made_length f (suc k) xs)

-- what is picked is no more
pub few_picked : {A B : Type 0} (f : A → B) (p : A → Bool) (xs : List A) (ys : List B) → ys ≡ map f (filter p xs) → length xs < 2 ^ 32 → length ys < 2 ^ 32
few_picked f p xs ys e few =
    let same = ap length e ∙ length-map (filter p xs) f ∙ length-filter p xs in
    let most = count_by-le-length p xs in
    omega (arith, same, most, few)

-- ---- pieces of text, one after another

pub two_pieces : (r : Result (Unit {0}) Memory) (o a b p n : List ℕ) → p ≡ o ++ a → OnOk r (n ≡ p ++ b) → OnOk r (n ≡ o ++ (a ++ b))
two_pieces (Err x) o a b p n f g = tt
two_pieces (Ok x) o a b p n f g = g ∙ ap (λ z. z ++ b) f ∙ append_assoc o a b

pub three_pieces : (r : Result (Unit {0}) Memory) (o a b c p q n : List ℕ) → p ≡ o ++ a → q ≡ p ++ b → OnOk r (n ≡ q ++ c) → OnOk r (n ≡ o ++ (a ++ (b ++ c)))
three_pieces (Err x) o a b c p q n f g h = tt
three_pieces (Ok x) o a b c p q n f g h = h ∙ ap (λ z. z ++ c) (g ∙ ap (λ z. z ++ b) f ∙ append_assoc o a b) ∙ append_assoc o (a ++ b) c ∙ ap (λ z. o ++ z) (append_assoc a b c)

pub four_pieces : (r : Result (Unit {0}) Memory) (o a b c d p q s n : List ℕ) → p ≡ o ++ a → q ≡ p ++ b → s ≡ q ++ c → OnOk r (n ≡ s ++ d) → OnOk r (n ≡ o ++ (a ++ (b ++ (c ++ d))))
four_pieces (Err x) o a b c d p q s n f g h k = tt
four_pieces (Ok x) o a b c d p q s n f g h k =
    k ∙ ap (λ z. z ++ d) (h ∙ ap (λ z. z ++ c) (g ∙ ap (λ z. z ++ b) f)) ∙ append_assoc ((o ++ a) ++ b) c d ∙ append_assoc (o ++ a) b (c ++ d) ∙ append_assoc o a (b ++ (c ++ d))

pub five_pieces : (r : Result (Unit {0}) Memory) (o a b c d e p q s t n : List ℕ) → p ≡ o ++ a → q ≡ p ++ b → s ≡ q ++ c → t ≡ s ++ d → OnOk r (n ≡ t ++ e) → OnOk r (n ≡ o ++ (a ++ (b ++ (c ++ (d ++ e)))))
five_pieces r o a b c d e p q s t n f g h k l = four_pieces r o a b c (d ++ e) p q s n f g h (two_pieces r s d e t n k l)

pub six_pieces : (r : Result (Unit {0}) Memory) (o a b c d e y p q s t u n : List ℕ) → p ≡ o ++ a → q ≡ p ++ b → s ≡ q ++ c → t ≡ s ++ d → u ≡ t ++ e → OnOk r (n ≡ u ++ y)
    → OnOk r (n ≡ o ++ (a ++ (b ++ (c ++ (d ++ (e ++ y))))))
six_pieces r o a b c d e y p q s t u n f g h k l m = five_pieces r o a b c d (e ++ y) p q s t n f g h k (two_pieces r t e y u n l m)

-- a piece under another name
pub piece_is : (o a b n : List ℕ) → a ≡ b → n ≡ o ++ a → n ≡ o ++ b
piece_is o a b n e h = h ∙ ap (λ z. o ++ z) e

pub last_is : (r : Result (Unit {0}) Memory) (o a b n : List ℕ) → a ≡ b → OnOk r (n ≡ o ++ a) → OnOk r (n ≡ o ++ b)
last_is (Err x) o a b n e h = tt
last_is (Ok x) o a b n e h = piece_is o a b n e h
