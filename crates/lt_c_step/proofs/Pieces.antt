-- Texts that grow piece by piece.
use Rattle.std.proofs.Common.{◌≡◌, ◌≢◌, OnOk, Result, Ok, Err, reverse, ℕ, ◌+◌, ◌<◌, List, [], ◌∷◌, ◌++◌, length, take, get_or, refl, sym, ap, ◌∙◌, codes, arith, append_assoc, add-one, append-nil}
use Rattle.std.proofs.Math.Seq.{take-suc}
use Rattle.std.proofs.lemmas.List.{length-reverse}
use Rattle.lt_base.specs.declared.memory.Memory.{Memory}
use Rattle.lt_base.specs.Meaning.{ClockPairs}
use Rattle.lt_step.specs.Code.{LetForm, KeepForm}
use Rattle.lt_c.specs.Tree.{slot, Statement, assign}
use Rattle.lt_c.specs.Text.{Spelling, conditions_text, statement_text}
use Rattle.lt_c_step.specs.Translate.{under, of_let, of_keep, of_lets, of_keeps, of_firsts}
use Rattle.lt_c.specs.Literals.{of_value}

-- one more item in the text
pub next : {A : Type 0} → (f : List A → List ℕ) (piece : A → List ℕ) → ((xs : List A) (x : A) → f (xs ++ x ∷ []) ≡ f xs ++ piece x) → (old m n : List ℕ) (xs : List A) (i : ℕ) (x : A) → i < length xs → x ≡ get_or xs i x → m ≡ old ++ f (take i xs) → n ≡ m ++ piece x → n ≡ old ++ f (take (i + 1) xs)
next f piece snoc old m n xs i x h is p q =
    let t : take i xs ++ x ∷ [] ≡ take (i + 1) xs = ap (λ z. take i xs ++ z ∷ []) is ∙ sym (take-suc xs i x h) ∙ ap (λ k. take k xs) (sym (add-one i)) in
    q ∙ ap (λ z. z ++ piece x) p ∙ append_assoc old (f (take i xs)) (piece x) ∙ ap (λ z. old ++ z) (sym (snoc (take i xs) x) ∙ ap f t)

module _ (nm : Spelling) where
  abbrev pub let_piece : LetForm → List ℕ
  let_piece l = statement_text nm (codes "    ") (of_let l)

  abbrev pub keep_piece : KeepForm → List ℕ
  keep_piece k = statement_text nm (codes "    ") (of_keep k)

  abbrev pub first_piece : KeepForm → List ℕ
  first_piece k = statement_text nm (codes "    ") (assign (slot k.slot) (of_value k.first))

  pub lets_snoc : (ls : List LetForm) (l : LetForm) → statement_text nm (codes "    ") (of_lets (ls ++ l ∷ [])) ≡ statement_text nm (codes "    ") (of_lets ls) ++ let_piece l
  lets_snoc [] l = append-nil (let_piece l)
  lets_snoc (m ∷ ls) l = ap (λ z. let_piece m ++ z) (lets_snoc ls l) ∙ sym (append_assoc (let_piece m) (statement_text nm (codes "    ") (of_lets ls)) (let_piece l))

  pub keeps_snoc : (ls : List KeepForm) (l : KeepForm) → statement_text nm (codes "    ") (of_keeps (ls ++ l ∷ [])) ≡ statement_text nm (codes "    ") (of_keeps ls) ++ keep_piece l
  keeps_snoc [] l = append-nil (keep_piece l)
  keeps_snoc (m ∷ ls) l = ap (λ z. keep_piece m ++ z) (keeps_snoc ls l) ∙ sym (append_assoc (keep_piece m) (statement_text nm (codes "    ") (of_keeps ls)) (keep_piece l))

  pub firsts_snoc : (ls : List KeepForm) (l : KeepForm) → statement_text nm (codes "    ") (of_firsts (ls ++ l ∷ [])) ≡ statement_text nm (codes "    ") (of_firsts ls) ++ first_piece l
  firsts_snoc [] l = append-nil (first_piece l)
  firsts_snoc (m ∷ ls) l = ap (λ z. first_piece m ++ z) (firsts_snoc ls l) ∙ sym (append_assoc (first_piece m) (statement_text nm (codes "    ") (of_firsts ls)) (first_piece l))

flat : (o a b c d e : List ℕ) → ((((o ++ a) ++ b) ++ c) ++ d) ++ e ≡ o ++ (a ++ (b ++ (c ++ (d ++ e))))
flat o a b c d e = append_assoc (((o ++ a) ++ b) ++ c) d e ∙ append_assoc ((o ++ a) ++ b) c (d ++ e) ∙ append_assoc (o ++ a) b (c ++ (d ++ e)) ∙ append_assoc o a (b ++ (c ++ (d ++ e)))

-- a statement under conditions
pub under_text : (nm : Spelling) (r : Result (Unit {0}) Memory) (ck : ClockPairs) (s : Statement) (o p q t u n : List ℕ) → ck ≢ [] → p ≡ o ++ codes "    if (" → q ≡ p ++ conditions_text nm ck → t ≡ q ++ codes ") {\n" → u ≡ t ++ statement_text nm (codes "        ") s → OnOk r (n ≡ u ++ codes "    }\n") → OnOk r (n ≡ o ++ statement_text nm (codes "    ") (under ck s))
under_text nm r [] s o p q t u n h a b c d e = absurd (h refl)
under_text nm (Err x) (k ∷ ck) s o p q t u n h a b c d e = tt
under_text nm (Ok x) (k ∷ ck) s o p q t u n h a b c d e =
    e ∙ ap (λ z. z ++ codes "    }\n") (d ∙ ap (λ z. z ++ statement_text nm (codes "        ") s) (c ∙ ap (λ z. z ++ codes ") {\n") (b ∙ ap (λ z. z ++ conditions_text nm (k ∷ ck)) a)))
    ∙ flat o (codes "    if (") (conditions_text nm (k ∷ ck)) (codes ") {\n") (statement_text nm (codes "        ") s) (codes "    }\n")

pub not_none : (steps : ClockPairs) (ck : ClockPairs) → ck ≡ reverse steps → steps ≢ [] → ck ≢ []
not_none [] ck e h k = h refl
not_none (p ∷ steps) ck e h k = let z : length (reverse (p ∷ steps)) ≡ 0 = ap length (sym e ∙ k) in let l = length-reverse (p ∷ steps) in absurd (omega (arith, z, l))
