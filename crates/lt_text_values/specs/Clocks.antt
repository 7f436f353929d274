-- How clocks, and the places where they are at fault, are written.
use Rattle.std.specs.Prelude.{ℕ, ◌+◌, Bool, List, ◌++◌, Option, Some, None, codes, reverse, if◌then◌else◌}
use Rattle.std.specs.List.{flat_map}
use Rattle.std.specs.Fmt.{decimal}
use Rattle.lt_base.specs.Meaning.{ClockPairs}
use Rattle.lt_syntax.specs.declared.tree.NodeText.{NodeText}
use Rattle.lt_text_values.specs.Names.{variable_name}

-- a pair of a clock
abbrev pub step_text : List NodeText → ℕ → ℕ × Bool → List ℕ
step_text t func p = (if p.1 then codes " on " else codes " on not ") ++ variable_name t func p.0

-- a clock, from the base clock inwards
abbrev pub clock_path_text : List NodeText → ℕ → ClockPairs → List ℕ
clock_path_text t func ck = codes "base" ++ flat_map (λ p. step_text t func p) (reverse ck)

-- a declaration, or an equation by its number from 1 on
abbrev pub clock_place_text : Option ℕ → List ℕ
clock_place_text None = codes "declaration"
clock_place_text (Some k) = codes "equation " ++ decimal (k + 1)
