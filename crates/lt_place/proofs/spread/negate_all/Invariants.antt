use Rattle.std.proofs.Common.{◌≡◌, not, map, take}
use Rattle.lt_place.proofs.spread.negate_all.Given as goal

abbrev pub invariant-loop-truth : goal.invariant-loop-truth
invariant-loop-truth l = l.negated.items ≡ map not (take l.truth-index l.truths)
