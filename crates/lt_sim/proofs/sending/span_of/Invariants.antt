use Rattle.lt_sim.specs.Spans.{IsSpanBelow}
use Rattle.lt_sim.proofs.sending.span_of.Given as goal

abbrev pub invariant-loop-c : goal.invariant-loop-c
invariant-loop-c l = IsSpanBelow l.channels l.data_kind l.node l.c l.span
