use Rattle.std.proofs.Common.{◌≡◌, ◌<◌, ℕ, false, get_or}
use Rattle.std.specs.Prelude.{◌==◌}
use Rattle.lt_past.proofs.names.position_in.Given as goal

abbrev pub invariant-outs : goal.invariant-outs
invariant-outs l = (k : ℕ) → k < l.k → (get_or l.outs k 0 == l.place) ≡ false
