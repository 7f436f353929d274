-- Links that lose messages promise no more instants than links that lose none.
use Rattle.std.proofs.Common.{ℕ, ◌+◌, ◌-◌, ◌*◌, ◌/◌, ◌<◌, ◌≤◌, Bool, true, false, nat_lt, if◌then◌else◌, length, arith}
use Rattle.std.proofs.Math.Nat.{le_refl, div-mul-le_self}
use Rattle.std.proofs.lemmas.Nat.{mul-le, le-div}
use Rattle.lt_arch.specs.declared.timing.Timing.{Timing}
use Rattle.lt_arch.specs.Readers.{tmax_of, slowest_of, most_of}
use Rattle.lt_arch.proofs.Ranges.{slowest-some}
use Rattle.lt_timing.specs.Bounds.{back_pressure_cycle, back_pressure_bound}
use Rattle.lt_lossy.specs.Laws.{lossy_cycle, lossy_bound}

-- a longer cycle goes less often into a time
longer : (x short long : ℕ) → 1 ≤ short → short ≤ long → x / long ≤ x / short
longer x short long some le =
    let whole : x / long * short ≤ x / long * long = mul-le (x / long) short (x / long) long (le_refl (x / long)) le in
    let all : x / long * long ≤ x = div-mul-le_self x long in
    le-div (x / long) x short some (omega (arith, whole, all))

by_tests : (early late : Bool) (q r : ℕ) → q ≤ r → (if early then 0 else (if late then 1 else q + 1)) ≤ (if early then 0 else (if late then 1 else r + 1))
by_tests true late q r le = omega arith
by_tests false true q r le = omega arith
by_tests false false q r le = omega (arith, le)

pub lossy_at_most : (t : Timing) (limit n h : ℕ) → n < length t.nodes → lossy_bound t limit n h ≤ back_pressure_bound t n h
lossy_at_most t limit n h within =
    let some : 1 ≤ slowest_of t = slowest-some t n within in
    by_tests (nat_lt h (tmax_of t n)) (nat_lt h (slowest_of t)) ((h - slowest_of t) / lossy_cycle t limit) ((h - slowest_of t) / back_pressure_cycle t)
    (longer (h - slowest_of t) (back_pressure_cycle t) (lossy_cycle t limit) (omega (arith, some)) (omega arith))
