use Rattle.std.proofs.Common.{◌≡◌, ◌++◌, ◌∷◌, take}
use Rattle.std.specs.List.{flat_map}
use Rattle.lt_text_values.specs.Names.{variable_name}
use Rattle.lt_text_lines.proofs.program.append_each.Given as goal

abbrev pub invariant-loop-variable : goal.invariant-loop-variable
invariant-loop-variable l = l.line ≡ l.initial.line ++ flat_map (λ x. 32 ∷ variable_name l.tree l.func x) (take l.variable-index l.variables)
