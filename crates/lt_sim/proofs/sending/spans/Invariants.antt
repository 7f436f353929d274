use Rattle.std.proofs.Common.{◌≡◌, ℕ, length, Some}
use Rattle.std.specs.Prelude.{slice_get}
use Rattle.lt_sim.specs.declared.sending.Span.{Span}
use Rattle.lt_sim.specs.Spans.{IsSpanBelow}
use Rattle.lt_sim.proofs.sending.spans.Given as goal

abbrev pub invariant-loop-node : goal.invariant-loop-node
invariant-loop-node l = record {
  size : length l.spans.items ≡ l.node;
  each : (n : ℕ) (span : Span) → slice_get l.spans.items n ≡ Some span → IsSpanBelow l.channels l.data_kind n (length l.channels) span;
}
