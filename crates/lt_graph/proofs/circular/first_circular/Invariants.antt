use Rattle.std.proofs.Common.{◌≡◌, ◌<◌, ℕ, Some}
use Rattle.std.specs.List.{slice_get}
use Rattle.lt_graph.specs.Edges.{IsCircular}
use Rattle.lt_graph.proofs.circular.first_circular.Given as goal

abbrev pub invariant-loop-place : goal.invariant-loop-place
invariant-loop-place l = (k : ℕ) (e : ℕ × ℕ) → k < l.place → slice_get l.edges k ≡ Some e → IsCircular l.edges e → ⊥
