use Rattle.lt_cause.proofs.Picked.{Picked}
use Rattle.lt_cause.proofs.causality.equations_in.Given as goal

abbrev pub invariant-loop-x : goal.invariant-loop-x
invariant-loop-x l = Picked l.f l.x-items l.x-index l.eqs
