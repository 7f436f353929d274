-- Cycles are at least one tick.
use Rattle.std.proofs.Common.{◌≡◌, ◌≤◌, ◌<◌, ◌+◌, ◌*◌, ℕ, Bool, true, false, max, if◌then◌else◌, length, arith, nat_lt}
use Rattle.lt_arch.specs.declared.timing.Timing.{Timing}
use Rattle.lt_timing.specs.Least.{least_send, least_execute, least_above, execute_among}

above_some : (a b : ℕ) → 1 ≤ least_above a b
above_some a b = omega arith

pub least_some : (t : Timing) (n : ℕ) → 1 ≤ least_execute t n
least_some t n = by (nat_lt (length t.nodes) 2)
  where
    by : (b : Bool) → 1 ≤ (if b then 1 else execute_among t n)
    by true = omega arith
    by false = omega arith
