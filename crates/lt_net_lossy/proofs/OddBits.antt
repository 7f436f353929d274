-- The bit of a number is whether it is odd.
use Rattle.std.proofs.Common.{◌≡◌, ℕ, zero, suc, ◌+◌, ◌%◌, Bool, true, false, not, refl, ap, ◌∙◌, arith}
use Rattle.std.specs.Prelude.{◌==◌}
use Rattle.std.proofs.Math.Nat.{add-mod_left}
use Rattle.lt_link.specs.Bits.{bit_of}

twice : (b : Bool) → b ≡ not (not b)
twice true = refl
twice false = refl

pub odd_is : (k : ℕ) → (k % 2 == 1) ≡ bit_of k
odd_is zero = refl
odd_is (suc zero) = refl
odd_is (suc (suc k)) = let e : suc (suc k) ≡ 2 + k = omega arith in ap (λ n. n % 2 == 1) e ∙ ap (λ r. r == 1) (add-mod_left 2 k) ∙ odd_is k ∙ twice (bit_of k)
