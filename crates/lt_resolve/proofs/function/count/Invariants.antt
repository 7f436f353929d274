use Rattle.std.proofs.Common.{◌≡◌}
use Rattle.lt_resolve.specs.Named.{numbers_from}
use Rattle.lt_resolve.proofs.function.count.Given as goal

abbrev pub invariant-numbers : goal.invariant-numbers
invariant-numbers l = l.list.items ≡ numbers_from l.first l.i
