use Rattle.std.proofs.Common.{◌≡◌, ◌++◌, take}
use Rattle.std.specs.List.{flat_map}
use Rattle.lt_text_values.specs.Clocks.{step_text}
use Rattle.lt_text_values.proofs.clocks.append_clock.Given as goal

abbrev pub invariant-loop-variable : goal.invariant-loop-variable
invariant-loop-variable l = l.line ≡ l.initial.line ++ flat_map (λ p. step_text l.tree l.func p) (take l.variable-index l.variable-items)
