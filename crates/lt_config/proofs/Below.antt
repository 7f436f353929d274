-- A test that some number below a bound passes.
use Rattle.std.proofs.Common.{◌≡◌, ℕ, zero, suc, ◌<◌, Bool, true, false, ◌||◌, ◌⊎◌, inl, inr, refl, sym, ap, ◌∙◌, arith}
use Rattle.lt_config.specs.Faults.{is_any_below}

or_right : (a b : Bool) → b ≡ true → (a || b) ≡ true
or_right true b h = refl
or_right false b h = h

last_or_before : (j m : ℕ) → j < suc m → (j ≡ m) ⊎ (j < m)
last_or_before j m k = grind arith

pub any-below : (p : ℕ → Bool) (i n : ℕ) → i < n → p i ≡ true → is_any_below p n ≡ true
any-below p i zero below h = absurd (omega arith)
any-below p i (suc n) below h = by (last_or_before i n below) (λ less. any-below p i n less h)
  where
    by : (i ≡ n) ⊎ (i < n) → (i < n → is_any_below p n ≡ true) → (is_any_below p n || p n) ≡ true
    by (inl same) rec = or_right (is_any_below p n) (p n) (ap p (sym same) ∙ h)
    by (inr less) rec = ap (λ b. b || p n) (rec less)
