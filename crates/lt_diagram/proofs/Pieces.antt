-- Texts that grow piece by piece.
use Rattle.std.proofs.Common.{◌≡◌, ℕ, ◌+◌, ◌<◌, ◌≤◌, List, [], ◌∷◌, ◌++◌, length, drop, get_or, OnOk, Result, Ok, Err, refl, sym, ap, ◌∙◌, append_assoc, add-one, drop-cons, append-nil}
use Rattle.std.proofs.lemmas.List.{drop_all}
use Rattle.lt_base.specs.declared.memory.Memory.{Memory}
use Rattle.lt_diagram.specs.Template.{each_text}

-- the rest at a place of a list
pub rest_there : {A : Type 0} (xs : List A) (i : ℕ) (d : A) → i < length xs → drop i xs ≡ get_or xs i d ∷ drop (i + 1) xs
rest_there xs i d h = drop-cons xs i d h ∙ ap (λ k. get_or xs i d ∷ drop k xs) (sym (add-one i))

-- the text of one more item, and of those behind it
pub each_put : {A : Type 0} (f : A → List A → List ℕ) (x : A) (xs : List A) → each_text f (x ∷ xs) ≡ f x xs ++ each_text f xs
unfolding each_text
each_put f x xs = refl

pub each_done : {A : Type 0} (f : A → List A → List ℕ) → each_text f [] ≡ []
unfolding each_text
each_done f = refl

-- a list of texts goes on by an item
pub goes_on : {A : Type 0} (f : A → List A → List ℕ) (m n o : List ℕ) (xs : List A) (i : ℕ) (d : A) → i < length xs
    → m ++ each_text f (drop i xs) ≡ o → n ≡ m ++ f (get_or xs i d) (drop (i + 1) xs) → n ++ each_text f (drop (i + 1) xs) ≡ o
goes_on f m n o xs i d h p q =
    ap (λ z. z ++ each_text f (drop (i + 1) xs)) q ∙ append_assoc m (f (get_or xs i d) (drop (i + 1) xs)) (each_text f (drop (i + 1) xs))
    ∙ ap (λ z. m ++ z) (sym (each_put f (get_or xs i d) (drop (i + 1) xs)) ∙ ap (each_text f) (sym (rest_there xs i d h))) ∙ p

-- and ends with the last
pub ends : {A : Type 0} (f : A → List A → List ℕ) (m o : List ℕ) (xs : List A) (i : ℕ) → length xs ≤ i → m ++ each_text f (drop i xs) ≡ o → m ≡ o
ends f m o xs i h p = sym (ap (λ z. m ++ each_text f z) (drop_all i xs h) ∙ ap (λ z. m ++ z) (each_done f) ∙ append-nil m) ∙ p

-- two pieces, one after the other
pub two_pieces : (r : Result (Unit {0}) Memory) (o a b p n : List ℕ) → p ≡ o ++ a → OnOk r (n ≡ p ++ b) → OnOk r (n ≡ o ++ (a ++ b))
two_pieces (Err x) o a b p n f g = tt
two_pieces (Ok x) o a b p n f g = g ∙ ap (λ z. z ++ b) f ∙ append_assoc o a b

pub three_pieces : (r : Result (Unit {0}) Memory) (o a b c p q n : List ℕ) → p ≡ o ++ a → q ≡ p ++ b → OnOk r (n ≡ q ++ c) → OnOk r (n ≡ o ++ (a ++ (b ++ c)))
three_pieces r o a b c p q n f g h = two_pieces r o a (b ++ c) p n f (two_pieces r p b c q n g h)

pub four_pieces : (r : Result (Unit {0}) Memory) (o a b c d p q s n : List ℕ) → p ≡ o ++ a → q ≡ p ++ b → s ≡ q ++ c → OnOk r (n ≡ s ++ d) → OnOk r (n ≡ o ++ (a ++ (b ++ (c ++ d))))
four_pieces r o a b c d p q s n f g h k = two_pieces r o a (b ++ (c ++ d)) p n f (three_pieces r p b c d q s n g h k)
