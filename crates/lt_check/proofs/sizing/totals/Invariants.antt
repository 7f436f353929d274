use Rattle.std.proofs.Common.{◌≡◌, ℕ, map}
use Rattle.lt_base.specs.Sizes.{cut, in_table, nested}
use Rattle.lt_check.specs.Shares.{share_measure}
use Rattle.lt_check.proofs.sizing.totals.Given as goal

abbrev pub invariant-rounds : goal.invariant-rounds
invariant-rounds l = (g : ℕ) → in_table l.table.items g ≡ cut (nested (share_measure l.measure) (map (λ s. s.function.now) l.shares) l._round g)
