-- Functions and trees that have a program.
use Rattle.std.specs.Prelude.{◌≡◌, ◌≤◌, None, List, [], length}
use Rattle.std.specs.List.{All}
use Rattle.lt_syntax.specs.declared.tree.DeclText.{DeclText}
use Rattle.lt_syntax.specs.declared.tree.NodeText.{NodeText}
use Rattle.lt_resolve.specs.Names.{Name, repeated_name}
use Rattle.lt_resolve.specs.Scopes.{declarations, variables, functions}
use Rattle.lt_resolve.specs.Named.{main}
use Rattle.lt_resolve.specs.Known.{HasNumber, IsKnown}
use Rattle.lt_resolve.specs.Faults.{no_equation_in, two_equations_in, input_equation_in}

-- each variable of a clock is declared
abbrev pub ClockKnown : List Name → DeclText → Type 0
ClockKnown vars d = All (λ p. HasNumber vars p.0) d.clock

-- a function without a fault of its own, whose inputs have no clocks
pub record NodeIsRight (funcs : List Name) (n : NodeText) : Type 0 where
  pub apart : repeated_name [] (variables n) ≡ None
  pub clocks : All (ClockKnown (variables n)) (declarations n)
  pub lefts : All (λ q. HasNumber (variables n) q.0) n.eqs
  pub known : All (λ q. IsKnown (variables n) funcs q.1) n.eqs
  pub each : no_equation_in n ≡ None
  pub once : two_equations_in n ≡ None
  pub inputs : input_equation_in n ≡ None
  pub base : All (λ d. d.clock ≡ []) n.ins
  pub few : length (declarations n) ≤ 4096

-- each function is one, and one of them is `main`
pub record IsRightTree (t : List NodeText) : Type 0 where
  pub all : All (NodeIsRight (functions t)) t
  pub main : HasNumber (functions t) main
  pub few : length t ≤ 64
