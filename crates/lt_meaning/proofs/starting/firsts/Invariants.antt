use Rattle.std.proofs.Common.{◌≡◌, Some, map, take}
use Rattle.lt_meaning.proofs.starting.firsts.Given as goal

abbrev pub invariant-loop-delay : goal.invariant-loop-delay
invariant-loop-delay l = l.kept.items ≡ map (λ d. Some d.first) (take l.delay-index l.delay-items)
