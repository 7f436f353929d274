-- Texts that are appended one after another.
use Rattle.std.proofs.Common.{◌≡◌, ℕ, List, ◌++◌, OnOk, Result, Ok, Err, ap, ◌∙◌, append_assoc}
use Rattle.lt_base.specs.declared.memory.Memory.{Memory}

-- two and one more, the second of which has another name
pub third_after : (r : Result (Unit {0}) Memory) (o m n a b x y : List ℕ) → x ≡ b → m ≡ o ++ (a ++ x) → OnOk r (n ≡ m ++ y) → OnOk r (n ≡ o ++ (a ++ (b ++ y)))
third_after (Err e) o m n a b x y s p q = tt
third_after (Ok u) o m n a b x y s p q =
    q ∙ ap (λ z. z ++ y) (p ∙ ap (λ z. o ++ (a ++ z)) s) ∙ append_assoc o (a ++ b) y ∙ ap (λ z. o ++ z) (append_assoc a b y)

-- three and one more
pub fourth_after : (r : Result (Unit {0}) Memory) (o m n a b x y : List ℕ) → m ≡ o ++ (a ++ (b ++ x)) → OnOk r (n ≡ m ++ y) → OnOk r (n ≡ o ++ (a ++ (b ++ (x ++ y))))
fourth_after (Err e) o m n a b x y p q = tt
fourth_after (Ok u) o m n a b x y p q =
    q ∙ ap (λ z. z ++ y) p ∙ append_assoc o (a ++ (b ++ x)) y ∙ ap (λ z. o ++ z) (append_assoc a (b ++ x) y ∙ ap (λ z. a ++ z) (append_assoc b x y))

-- three, one after another
pub three_after : (r : Result (Unit {0}) Memory) (o m p n a b y : List ℕ) → m ≡ o ++ a → p ≡ m ++ b → OnOk r (n ≡ p ++ y) → OnOk r (n ≡ o ++ (a ++ (b ++ y)))
three_after (Err e) o m p n a b y s t q = tt
three_after (Ok u) o m p n a b y s t q =
    q ∙ ap (λ z. z ++ y) (t ∙ ap (λ z. z ++ b) s) ∙ append_assoc (o ++ a) b y ∙ append_assoc o a (b ++ y)

-- four, one after another
pub four_after : (r : Result (Unit {0}) Memory) (o m p q n a b x y : List ℕ) → m ≡ o ++ a → p ≡ m ++ b → q ≡ p ++ x → OnOk r (n ≡ q ++ y) → OnOk r (n ≡ o ++ (a ++ (b ++ (x ++ y))))
four_after (Err e) o m p q n a b x y s t u v = tt
four_after (Ok w) o m p q n a b x y s t u v =
    v ∙ ap (λ z. z ++ y) (u ∙ ap (λ z. z ++ x) (t ∙ ap (λ z. z ++ b) s)) ∙ append_assoc ((o ++ a) ++ b) x y ∙ append_assoc (o ++ a) b (x ++ y) ∙ append_assoc o a (b ++ (x ++ y))
