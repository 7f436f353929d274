use Rattle.std.proofs.Common.{◌≡◌, take, drop, reverse}
use Rattle.lt_resolve.specs.Names.{if_missing, first_some}
use Rattle.lt_resolve.specs.Named.{IsPair, Along}
use Rattle.lt_resolve.proofs.function.clock.Given as goal

abbrev pub invariant-pairs : goal.invariant-pairs
invariant-pairs l = record {
  rest : first_some (λ p. if_missing l.variables p.0) (drop l.pair-index l.pair-items) ≡ first_some (λ p. if_missing l.variables p.0) l.pair-items;
  along : Along (IsPair l.variables) (take l.pair-index l.pair-items) (reverse l.clock);
}
