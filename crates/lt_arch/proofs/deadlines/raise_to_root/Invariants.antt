-- Only what stands above the entry that was written last is still to be written.
use Rattle.std.proofs.Common.{ℕ, ◌≡◌, ◌*◌, ◌^◌, ◌<◌, ◌≤◌}
use Rattle.lt_arch.specs.Queue.{queue_slot, no_entry, IsRaised}
use Rattle.lt_arch.proofs.Raising.{IsPaid}
use Rattle.lt_arch.proofs.deadlines.raise_to_root.Given as goal

abbrev pub invariant-loop-i : goal.invariant-loop-i
invariant-loop-i g l = record {
  raised : IsRaised l.fn.entries l.entries l.places l.place l.i l.fn.e;
  -- what was written last is at hand
  least : queue_slot l.entries l.i ≡ l.least;
  bound : l.least ≤ no_entry;
  low : 1 ≤ l.i;
  high : l.i < 2 * l.places;
  -- as many levels are left as have been paid for
  cost : (d : ℕ) → l.places ≤ 2 ^ d → IsPaid l.i l.steps l.fn.steps d;
}

abbrev pub decreases-loop-i : goal.decreases-loop-i
decreases-loop-i g l = l.i
