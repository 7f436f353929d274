use Rattle.std.proofs.Common.{◌≡◌, length}
use Rattle.lt_place.specs.Spread.{AllBuilt}
use Rattle.lt_place.proofs.placing.parts.Given as goal

abbrev pub invariant-loop-n : goal.invariant-loop-n
invariant-loop-n l = record {
  size : length l.parts.items ≡ l.n;
  built : AllBuilt l.f l.s l.parts.items;
}
