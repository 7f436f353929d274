-- The clock of a declared variable.
use Rattle.std.proofs.Common.{◌≡◌, ℕ, zero, suc, ◌<◌, List, [], ◌∷◌, length, get_or, refl, arith}
use Rattle.lt_base.specs.declared.function.Decl.{Decl}
use Rattle.lt_base.specs.Meaning.{clock_of}

pub clock_get : (ds : List Decl) (x : ℕ) (d : Decl) → x < length ds → clock_of ds x ≡ (get_or ds x d).clock
clock_get [] x d l = absurd (omega arith)
clock_get (e ∷ ds) zero d l = refl
clock_get (e ∷ ds) (suc x) d l = clock_get ds x d (omega arith)
