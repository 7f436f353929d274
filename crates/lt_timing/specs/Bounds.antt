-- The cycle of a node, within which it executes one more instant, and how many instants it has executed at least at a horizon.
use Rattle.std.specs.Prelude.{ℕ, ◌+◌, ◌-◌, ◌*◌, ◌/◌, nat_lt, if◌then◌else◌}
use Rattle.lt_arch.specs.declared.timing.Timing.{Timing}
use Rattle.lt_arch.specs.Readers.{tmax_of, send_of, execute_of, slowest_of, most_of, is_back_pressure}

-- each instant comes at most so many activations of node n after the preceding one
abbrev pub time_based_cycle : Timing → (n : ℕ) → ℕ
time_based_cycle t n = (send_of t n + execute_of t n) * tmax_of t n

-- the slowest acknowledgement, send, message and execution come after one another
abbrev pub back_pressure_cycle : Timing → ℕ
back_pressure_cycle t = 2 * (slowest_of t + most_of t)

-- one instant by a time, and one more for each whole cycle from then to the horizon
abbrev pub instants_by : (first cycle horizon : ℕ) → ℕ
instants_by first cycle horizon = (horizon - first) / cycle + 1

-- node n executes its first instant by its first deadline
abbrev pub time_based_bound : Timing → (n horizon : ℕ) → ℕ
time_based_bound t n horizon = if nat_lt horizon (tmax_of t n) then 0 else instants_by (tmax_of t n) (time_based_cycle t n) horizon

-- the same, and every node has executed its first instant by the slowest node's first deadline
abbrev pub back_pressure_bound : Timing → (n horizon : ℕ) → ℕ
back_pressure_bound t n horizon =
    if nat_lt horizon (tmax_of t n) then 0 else (if nat_lt horizon (slowest_of t) then 1 else instants_by (slowest_of t) (back_pressure_cycle t) horizon)

abbrev pub cycle_of : Timing → (n : ℕ) → ℕ
cycle_of t n = if is_back_pressure t.protocol then back_pressure_cycle t else time_based_cycle t n

abbrev pub bound_of : Timing → (n horizon : ℕ) → ℕ
bound_of t n horizon = if is_back_pressure t.protocol then back_pressure_bound t n horizon else time_based_bound t n horizon
