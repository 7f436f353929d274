use Rattle.std.proofs.Common.{◌≡◌, ◌+◌, take}
use Rattle.std.specs.List.{sum_by}
use Rattle.lt_base.specs.Sizes.{cut, in_table}
use Rattle.lt_check.proofs.sizing.total.Given as goal

abbrev pub invariant-calls : goal.invariant-calls
invariant-calls l = l.sum ≡ cut (l.own + sum_by (in_table l.table) (take l.g-index l.g-items))
