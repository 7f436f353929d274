use Rattle.std.proofs.Common.{◌≡◌, Some, slice_index_or}
use Rattle.lt_arch.specs.Deadline.{least_below}
use Rattle.lt_losing.proofs.pending.first_activation.Given as goal

abbrev pub invariant-loop-n : goal.invariant-loop-n
invariant-loop-n l = l.best ≡ least_below (λ n. Some (slice_index_or l.activations n 0)) l.n
