use Rattle.std.proofs.Common.{◌<◌, ◌∷◌, ℕ, List}
use Rattle.lt_base.specs.Graph.{ClosedWalk}
use Rattle.lt_graph.specs.Tables.{Leads}
use Rattle.lt_cause.proofs.causality.causal.Given as goal

abbrev pub invariant-loop-variable : goal.invariant-loop-variable
invariant-loop-variable l = (x : ℕ) → x < l.variable → (walk : List ℕ) → ClosedWalk (Leads l.table-inside.items.items) (x ∷ walk) → ⊥
