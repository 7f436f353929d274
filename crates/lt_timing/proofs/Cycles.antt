-- Cycles are at least one tick.
use Rattle.std.proofs.Common.{◌≡◌, ℕ, ◌+◌, ◌*◌, ◌<◌, ◌≤◌, ◌⊎◌, inl, inr, length, Bool, true, false, refl, arith}
use Rattle.std.proofs.Math.Nat.{mul-le-mul_right}
use Rattle.lt_arch.specs.declared.timing.Timing.{Timing}
use Rattle.lt_arch.specs.Readers.{tmax_of, send_of, execute_of, is_back_pressure}
use Rattle.lt_arch.proofs.Ranges.{tmax-some, send-some, slowest-some}
use Rattle.lt_timing.specs.Bounds.{cycle_of, time_based_cycle}

pub time_based_cycle-some : (t : Timing) (n : ℕ) → 1 ≤ time_based_cycle t n
time_based_cycle-some t n =
    let s = send-some t n in
    let m : 1 * tmax_of t n ≤ (send_of t n + execute_of t n) * tmax_of t n = mul-le-mul_right (tmax_of t n) (omega (arith, s)) in
    let p = tmax-some t n in
    omega (arith, m, p)

true_or_false : (b : Bool) → (b ≡ true) ⊎ (b ≡ false)
true_or_false true = inl refl
true_or_false false = inr refl

pub cycle_some : (t : Timing) (n : ℕ) → n < length t.nodes → 1 ≤ cycle_of t n
cycle_some t n lt = elim (true_or_false (is_back_pressure t.protocol)) [
  | inl b ↦ rw b (let s = slowest-some t n lt in omega (arith, s))
  | inr b ↦ rw b (time_based_cycle-some t n)
]
