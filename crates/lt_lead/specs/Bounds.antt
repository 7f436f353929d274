-- How many instants a node has executed at least at a horizon, where a node leads.
use Rattle.std.specs.Prelude.{ℕ, ◌+◌, ◌-◌, ◌*◌, ◌/◌, ◌==◌, nat_lt, if◌then◌else◌}
use Rattle.lt_arch.specs.declared.timing.Timing.{Timing}
use Rattle.lt_arch.specs.Readers.{tmax_of, send_of, execute_of, dmax_of}
use Rattle.lt_timing.specs.Bounds.{time_based_cycle, bound_of}

-- the leader sends its first message by this time, since it executes its first instant by its first deadline
abbrev pub first_sent_by : Timing → (leader : ℕ) → ℕ
first_sent_by t leader = (send_of t leader + 1) * tmax_of t leader

-- and the one after k more by this time, since it sends once a cycle
abbrev pub leader_sent_by : Timing → (leader k : ℕ) → ℕ
leader_sent_by t leader k = first_sent_by t leader + k * time_based_cycle t leader

-- node n executes its second instant by this time: that message has come, and the node has been activated, has sent and has counted
abbrev pub second_by : Timing → (leader n : ℕ) → ℕ
second_by t leader n = first_sent_by t leader + dmax_of t leader n + (execute_of t n + 1) * tmax_of t n

-- a node that follows: one instant by its first deadline, two by that time, and one more for each whole cycle of the leader from then on
abbrev pub follower_bound : Timing → (leader n horizon : ℕ) → ℕ
follower_bound t leader n horizon =
    if nat_lt horizon (tmax_of t n) then 0 else (if nat_lt horizon (second_by t leader n) then 1 else (horizon - second_by t leader n) / time_based_cycle t leader + 2)

-- the leader itself keeps the bound of its protocol
abbrev pub lead_bound_of : Timing → (leader n horizon : ℕ) → ℕ
lead_bound_of t leader n horizon = if n == leader then bound_of t n horizon else follower_bound t leader n horizon
