use Rattle.std.proofs.Common.{All, take}
use Rattle.lt_base.specs.Dependence.{Causal}
use Rattle.lt_front.proofs.causality.causality.Given as goal

abbrev pub invariant-loop-number : goal.invariant-loop-number
invariant-loop-number l = All Causal (take l.number l.f-items)
