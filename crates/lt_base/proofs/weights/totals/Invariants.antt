use Rattle.std.proofs.Common.{◌≡◌, ℕ}
use Rattle.lt_base.specs.Sizes.{cut, in_table, nested}
use Rattle.lt_base.specs.Measured.{measured}
use Rattle.lt_base.proofs.weights.totals.Given as goal

abbrev pub invariant-loop-round : goal.invariant-loop-round
invariant-loop-round l = (g : ℕ) → in_table l.table.items g ≡ cut (nested (measured l.measure) l.functions l._round g)
