use Rattle.std.proofs.Common.{◌≡◌, ◌++◌, [], ◌∷◌, map, drop}
use Rattle.lt_text_lines.proofs.plan.text.spaced_names.Given as goal

abbrev pub invariant-loop-name : goal.invariant-loop-name
invariant-loop-name l = map (λ name. name ++ 32 ∷ []) l.names ≡ l.titles ++ map (λ name. name ++ 32 ∷ []) (drop l.name-index l.names)
