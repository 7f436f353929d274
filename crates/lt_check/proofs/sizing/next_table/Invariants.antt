use Rattle.std.proofs.Common.{◌≡◌, map, take}
use Rattle.lt_base.specs.Sizes.{cut, in_table}
use Rattle.lt_check.specs.Shares.{share_measure}
use Rattle.lt_check.proofs.sizing.next_table.Given as goal

abbrev pub invariant-shares : goal.invariant-shares
invariant-shares l = l.next.items ≡ map (λ s. cut (share_measure l.measure (in_table l.table) s.function.now)) (take l.share-index l.shares)
