-- Types and clocks by numbers.
use Rattle.std.proofs.Common.{◌≡◌, ℕ, zero, suc, ◌<◌, ◌≤◌, List, [], ◌∷◌, length, get_or, refl, arith}
use Rattle.lt_base.specs.declared.function.Decl.{Decl}
use Rattle.lt_base.specs.Meaning.{clock_of}
use Rattle.lt_c_heads.specs.Words.{type_word, type_word_at}

pub word_there : (ds : List Decl) (x : ℕ) (d : Decl) → x < length ds → type_word_at ds x ≡ type_word (get_or ds x d).ty
word_there [] x d l = absurd (omega (arith, l))
word_there (e ∷ ds) zero d l = refl
word_there (e ∷ ds) (suc x) d l = word_there ds x d (omega (arith, l))

pub word_past : (ds : List Decl) (x : ℕ) → length ds ≤ x → type_word_at ds x ≡ []
word_past [] x l = refl
word_past (e ∷ ds) zero l = absurd (omega (arith, l))
word_past (e ∷ ds) (suc x) l = word_past ds x (omega (arith, l))

pub clock_there : (ds : List Decl) (x : ℕ) (d : Decl) → x < length ds → clock_of ds x ≡ (get_or ds x d).clock
clock_there [] x d l = absurd (omega (arith, l))
clock_there (e ∷ ds) zero d l = refl
clock_there (e ∷ ds) (suc x) d l = clock_there ds x d (omega (arith, l))

pub clock_past : (ds : List Decl) (x : ℕ) → length ds ≤ x → clock_of ds x ≡ []
clock_past [] x l = refl
clock_past (e ∷ ds) zero l = absurd (omega (arith, l))
clock_past (e ∷ ds) (suc x) l = clock_past ds x (omega (arith, l))
