-- How often a node can have been activated, by the time of its last activation.
use Rattle.std.proofs.Common.{◌≡◌, ℕ, ◌+◌, ◌*◌, ◌/◌, ◌<◌, ◌≤◌, inl, inr, Option, Some, None, arith}
use Rattle.std.proofs.lemmas.Bool.{cases_lt}
use Rattle.std.proofs.Math.Nat.{mul-le-mul_left}
use Rattle.lt_arch.specs.Step.{too_soon}
use Rattle.lt_arch.proofs.Facts.{rested, IsRested}

-- once, and once more in each least period
abbrev pub turns : (least : ℕ) → Option ℕ → ℕ
turns least None = 0
turns least (Some at) = at / least + 1

abbrev pub ends : Option ℕ → ℕ
ends None = 0
ends (Some h) = 1

-- a least period later is one period further
pub period_more : (least last at : ℕ) → 0 < least → last + least ≤ at → last / least + 1 ≤ at / least
period_more least last at some late = elim (cases_lt (last / least) (at / least)) [
  | inl less ↦ omega (arith, less)
  | inr le ↦
      let product : least * (at / least) ≤ least * (last / least) = mul-le-mul_left least le in
      absurd (omega (arith, some, late, product))
]

pub period_at_most : (least at most : ℕ) → 0 < least → at ≤ most → at / least ≤ most / least
period_at_most least at most some le = elim (cases_lt (most / least) (at / least)) [
  | inl less ↦
      let product : least * (most / least + 1) ≤ least * (at / least) = mul-le-mul_left least (omega (arith, less)) in
      let split : least * (most / least + 1) ≡ least * (most / least) + least = omega arith in
      absurd (omega (arith, some, le, product, split))
  | inr h ↦ h
]

by_rest : (least tmin at : ℕ) (last : Option ℕ) → 0 < least → least ≤ tmin → IsRested at tmin last → turns least last + 1 ≤ turns least (Some at)
by_rest least tmin at None some le rest = omega arith
by_rest least tmin at (Some last) some le rest = let more = period_more least last at some (omega (arith, le, rest)) in omega (arith, more)

-- an activation without an offence is one more
pub turn_more : (least n tmin at : ℕ) (last : Option ℕ) → 0 < least → least ≤ tmin → too_soon n tmin at last ≡ None → turns least last + 1 ≤ turns least (Some at)
turn_more least n tmin at last some le own = by_rest least tmin at last some le (rested n tmin at last own)
