-- The numbers of the time-based protocol with the least countdowns.
use Rattle.std.specs.Prelude.{ℕ, ◌+◌, ◌*◌, nat_lt, if◌then◌else◌}
use Rattle.lt_arch.specs.declared.timing.Timing.{Timing}
use Rattle.lt_arch.specs.Readers.{tmax_of}
use Rattle.lt_timing.specs.Bounds.{instants_by}
use Rattle.lt_timing.specs.Least.{least_send, least_execute}

-- within so many ticks node n executes one more instant
abbrev pub node_least_cycle : Timing → (n : ℕ) → ℕ
node_least_cycle t n = (least_send t n + least_execute t n) * tmax_of t n

-- so many instants are executed by a horizon at least
abbrev pub least_bound : Timing → (n horizon : ℕ) → ℕ
least_bound t n horizon = if nat_lt horizon (tmax_of t n) then 0 else instants_by (tmax_of t n) (node_least_cycle t n) horizon
