-- Products and quotients in their types' ranges.
use Rattle.std.proofs.Common.{◌≡◌, ℕ, ◌+◌, ◌*◌, ◌/◌, ◌^◌, ◌<◌, ◌≤◌, min, max, subst, arith, mul_comm}
use Rattle.std.proofs.Math.Nat.{div-le_of_le-mul}
use Rattle.std.proofs.lemmas.Nat.{mul-le}

pub plain_product_fits : (a b : ℕ) → a < 2 ^ 64 → b < 2 ^ 64 → a * b < 2 ^ 128
plain_product_fits a b h k = omega (arith, mul-le a b 18446744073709551615 18446744073709551615 (omega arith) (omega arith))

pub product_fits : (a p w : ℕ) → a < 2 ^ 64 → p < 2 ^ 64 → a * min p w < 2 ^ 128
product_fits a p w h k = plain_product_fits a (min p w) h (omega arith)

pub share_within : (a p w : ℕ) → a * min p w / max w 1 ≤ a
share_within a p w =
    div-le_of_le-mul (max w 1) (subst (λ z. a * min p w ≤ z) (mul_comm a (max w 1)) (mul-le a (min p w) a (max w 1) (omega arith) (omega arith)))

pub share_fits : (a p w : ℕ) → a < 2 ^ 64 → a * min p w / max w 1 < 2 ^ 64
share_fits a p w h = omega (arith, share_within a p w)

pub row_fits : (node row : ℕ) → node < 2 ^ 32 → row < 2 ^ 8 → node * row < 2 ^ 40
row_fits node row h k = omega (arith, mul-le node row 4294967295 255 (omega arith) (omega arith))
