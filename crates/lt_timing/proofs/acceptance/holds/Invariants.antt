-- It holds of the nodes before this one.
use Rattle.std.proofs.Common.{ℕ, ◌<◌}
use Rattle.lt_arch.specs.Readers.{send_of, execute_of}
use Rattle.lt_timing.specs.Accepts.{InequalityHolds}
use Rattle.lt_timing.proofs.acceptance.holds.Given as goal

abbrev pub invariant-loop-node : goal.invariant-loop-node
invariant-loop-node l = (j : ℕ) → j < l.node → InequalityHolds l.which l.timing (send_of l.timing) (execute_of l.timing) j
