-- The first function whose variables depend on each other.
use Rattle.std.specs.Prelude.{ℕ, List, take, MatchOption}
use Rattle.std.specs.List.{All}
use Rattle.lt_base.specs.Program.{WholeProgram}
use Rattle.lt_base.specs.Meaning.{function_of}
use Rattle.lt_base.specs.Dependence.{Causal}
use Rattle.lt_cause.specs.Orders.{IsLeastCycle}

-- the functions before the number's are causal, and these variables of its own are a cycle
pub record IsFirstCycle (p : WholeProgram) (func : ℕ) (vars : List ℕ) : Type 0 where
  pub before : All Causal (take func p.funcs)
  pub here : MatchOption (function_of p.funcs func) ⊥ (λ f. IsLeastCycle f vars)
