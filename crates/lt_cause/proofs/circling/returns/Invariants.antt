use Rattle.std.proofs.Common.{◌≡◌, ◌<◌, ℕ, get_or}
use Rattle.lt_cause.proofs.circling.returns.Given as goal

abbrev pub invariant-loop-next : goal.invariant-loop-next
invariant-loop-next l = (k : ℕ) → k < l.next-index → get_or l.names.items (get_or l.next-items k 0) 0 ≡ get_or l.names.items l.number 0 → ⊥
