-- A function that keeps the variables of another one, with other right sides and more variables.
use Rattle.std.specs.Prelude.{◌≡◌, ℕ, ◌<◌, ◌≤◌, length, Some, None, List}
use Rattle.lt_base.specs.Expression.{Expression}
use Rattle.lt_base.specs.Program.{Function}
use Rattle.lt_base.specs.Meaning.{ClockPairs, Environment, Row, Callee, clock_of, right_of}
use Rattle.lt_base.specs.Solution.{Solves}
use Rattle.lt_base.specs.Tells.{Tells}

-- F's right side of x tells e along every solution of F
pub record Retold (callee : Callee) (F : Function) (x : ℕ) (ck : ClockPairs) (e : Expression) : Type 0 where
  pub form : Expression
  pub stands : right_of F.eqs x ≡ Some form
  pub tells : (es : List Environment) (rows : List Row) → Solves callee F es rows → Tells callee es ck e form

-- F has f's variables under their numbers, and tells each right side
pub record Keeps (callee : Callee) (F f : Function) : Type 0 where
  pub more : length f.decls ≤ length F.decls
  pub inputs : (x : ℕ) → x < length f.decls → right_of f.eqs x ≡ None → right_of F.eqs x ≡ None
  pub clocks : (x : ℕ) → x < length f.decls → clock_of F.decls x ≡ clock_of f.decls x
  pub rights : (x : ℕ) (e : Expression) → x < length f.decls → right_of f.eqs x ≡ Some e → Retold callee F x (clock_of f.decls x) e
