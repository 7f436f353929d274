use Rattle.std.proofs.Common.{◌≡◌, ◌<◌, ℕ, false, get_or}
use Rattle.lt_past.specs.Naming.{is_called}
use Rattle.lt_past.proofs.names.place_of.Given as goal

abbrev pub invariant-outs : goal.invariant-outs
invariant-outs l = (k : ℕ) → k < l.place → is_called l.fn.main l.fn.name (get_or l.fn.main.outs k 0) ≡ false
