use Rattle.std.proofs.Common.{◌≡◌, ◌<◌, ◌+◌, ℕ, [], Option, length, slice_index_or}
use Rattle.lt_arch.specs.Deadline.{least_below}
use Rattle.lt_lossy.specs.Times.{oldest_in}
use Rattle.lt_losing.proofs.pending.first_arrival.Given as goal

abbrev pub invariant-loop-c : goal.invariant-loop-c
invariant-loop-c l = (f : ℕ → Option ℕ) → l.fn.best ≡ least_below f l.places → ((c : ℕ) → c < length l.arrivals.items → f (l.places + c) ≡ oldest_in (slice_index_or l.arrivals.items c []))
    → l.first ≡ least_below f (l.places + l.c)
