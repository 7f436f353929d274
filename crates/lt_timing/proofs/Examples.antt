-- Worked timings of two nodes, computed.
use Rattle.std.proofs.Common.{◌≡◌, ◌≤◌, ℕ, lit≤, refl}
use Rattle.lt_arch.specs.declared.limits.TheConstants.{GREATEST_COUNTDOWN}
use Rattle.lt_arch.specs.declared.times.NodeTime.{NodeTime}
use Rattle.lt_arch.specs.declared.timing.Timing.{Timing}
use Rattle.lt_arch.specs.declared.timing.Protocol.{Protocol}
use Rattle.lt_arch.specs.declared.timing.Protocol.TheVariants.{BackPressure, TimeBased}
use Rattle.lt_arch.specs.Readers.{tmin_of, tmax_of, send_of, execute_of, dmin_of, dmax_of, most_of, slowest_of}
use Rattle.lt_arch.proofs.Examples.{two_nodes, node_with}
use Rattle.lt_timing.specs.declared.fault.Which.TheVariants.{Execute, Send}
use Rattle.lt_timing.specs.Accepts.{left_side, right_side}
use Rattle.lt_timing.specs.Least.{least_send, least_execute}
use Rattle.lt_timing.specs.Bounds.{time_based_cycle, time_based_bound, back_pressure_cycle, back_pressure_bound}

-- Two equal nodes with periods from 9 to 11, and delays from 1 to 4.

abbrev node : (send : ℕ) → 1 ≤ send → send ≤ GREATEST_COUNTDOWN → NodeTime
node send some few = node_with 9 11 send 3 (lit≤ tt, lit≤ tt, lit≤ tt) (some, few) (lit≤ tt, lit≤ tt)

abbrev alike : (send : ℕ) → 1 ≤ send → send ≤ GREATEST_COUNTDOWN → Timing
alike send some few = two_nodes (node send some few) (node send some few) 1 4 (lit≤ tt) (lit≤ tt) TimeBased

-- the least pair is 3 and 3, and with it the cycle is 66
least_of_alike : (least_execute (alike 3 (lit≤ tt) (lit≤ tt)) 0 ≡ 3) × (least_send (alike 3 (lit≤ tt) (lit≤ tt)) 0 ≡ 3) × (time_based_cycle (alike 3 (lit≤ tt) (lit≤ tt)) 0 ≡ 66) × (back_pressure_cycle (alike 3 (lit≤ tt) (lit≤ tt)) ≡ 30)
unfolding tmin_of tmax_of send_of execute_of dmin_of dmax_of most_of slowest_of
least_of_alike = (refl, refl, refl, refl)

bounds_of_alike : (time_based_bound (alike 3 (lit≤ tt) (lit≤ tt)) 0 1000 ≡ 15) × (back_pressure_bound (alike 3 (lit≤ tt) (lit≤ tt)) 0 1000 ≡ 33) × (time_based_bound (alike 3 (lit≤ tt) (lit≤ tt)) 0 1001 ≡ 16) × (back_pressure_bound (alike 3 (lit≤ tt) (lit≤ tt)) 0 1001 ≡ 34)
unfolding tmin_of tmax_of send_of execute_of dmin_of dmax_of most_of slowest_of
bounds_of_alike = (refl, refl, refl, refl)

-- with a send of 2 the second inequality fails by these sides
sides_of_alike : (left_side Send (alike 2 (lit≤ tt) (lit≤ tt)) (send_of (alike 2 (lit≤ tt) (lit≤ tt))) (execute_of (alike 2 (lit≤ tt) (lit≤ tt))) 0 ≡ 46) × (right_side Send (alike 2 (lit≤ tt) (lit≤ tt)) (execute_of (alike 2 (lit≤ tt) (lit≤ tt))) 0 ≡ 48)
unfolding tmin_of tmax_of send_of execute_of dmin_of dmax_of
sides_of_alike = (refl, refl)

-- Periods of 10 and delays of 5: equal sides are not above.

abbrev even_node : NodeTime
even_node = node_with 10 10 1000 2 (lit≤ tt, lit≤ tt, lit≤ tt) (lit≤ tt, lit≤ tt) (lit≤ tt, lit≤ tt)

abbrev even : Timing
even = two_nodes even_node even_node 5 5 (lit≤ tt) (lit≤ tt) TimeBased

sides_of_even : (left_side Execute even (send_of even) (execute_of even) 0 ≡ 20) × (right_side Execute even (execute_of even) 0 ≡ 20)
unfolding tmin_of tmax_of send_of execute_of dmin_of dmax_of
sides_of_even = (refl, refl)

-- A quick node and a slow one with periods from 20 to 22.

abbrev mixed : (send : ℕ) → 1 ≤ send → send ≤ GREATEST_COUNTDOWN → Timing
mixed send some few =
    two_nodes (node_with 9 11 send 4 (lit≤ tt, lit≤ tt, lit≤ tt) (some, few) (lit≤ tt, lit≤ tt)) (node_with 20 22 2 1 (lit≤ tt, lit≤ tt, lit≤ tt) (lit≤ tt, lit≤ tt) (lit≤ tt, lit≤ tt)) 1 4 (lit≤ tt) (lit≤ tt) TimeBased

abbrev mixed_3 : Timing
mixed_3 = mixed 3 (lit≤ tt) (lit≤ tt)

abbrev mixed_2 : Timing
mixed_2 = mixed 2 (lit≤ tt) (lit≤ tt)

least_of_mixed : (least_execute mixed_3 0 ≡ 4) × (least_send mixed_3 0 ≡ 3) × (least_execute mixed_3 1 ≡ 1) × (least_send mixed_3 1 ≡ 2)
unfolding tmin_of tmax_of dmin_of dmax_of
least_of_mixed = (refl, refl, refl, refl)

cycles_of_mixed : (time_based_cycle mixed_3 0 ≡ 77) × (time_based_cycle mixed_3 1 ≡ 66) × (back_pressure_cycle mixed_3 ≡ 52)
unfolding tmax_of send_of execute_of most_of slowest_of
cycles_of_mixed = (refl, refl, refl)

bounds_of_mixed : (time_based_bound mixed_3 0 1000 ≡ 13) × (back_pressure_bound mixed_3 0 1000 ≡ 19) × (time_based_bound mixed_3 1 1000 ≡ 15) × (back_pressure_bound mixed_3 1 1000 ≡ 19)
unfolding tmax_of send_of execute_of most_of slowest_of
bounds_of_mixed = (refl, refl, refl, refl)

sides_of_mixed : (left_side Send mixed_2 (send_of mixed_2) (execute_of mixed_2) 0 ≡ 55) × (right_side Send mixed_2 (execute_of mixed_2) 0 ≡ 59)
unfolding tmin_of tmax_of send_of execute_of dmin_of dmax_of
sides_of_mixed = (refl, refl)
