-- What the checks say of an expression at a clock.
use Rattle.std.specs.Prelude.{◌≡◌, ℕ, ◌<◌, Some, List}
use Rattle.lt_base.specs.declared.function.Decl.{Decl}
use Rattle.lt_base.specs.Expression.{Expression}
use Rattle.lt_base.specs.Program.{Function}
use Rattle.lt_base.specs.Meaning.{ClockPairs, right_of, function_of}
use Rattle.lt_base.specs.Clocking.{WellFormed, Clocked, ClockedFunction}
use Rattle.lt_base.specs.Checked.{EachUse, AnswersCall}

-- a call fits its function, which is lower than this
abbrev pub CallFits : List Function → (ℕ → ℕ) → ℕ → ℕ → ℕ → Type 0
CallFits fs height top g n = AnswersCall (function_of fs g) n × (height g < top)

-- the expression is at the clock, which is well formed, and each call in it fits its function, which is lower than this
pub record Fine (fs : List Function) (height : ℕ → ℕ) (top : ℕ) (ds : List Decl) (e : Expression) (ck : ClockPairs) : Type 0 where
  pub clocked : Clocked fs ds e ck
  pub formed : WellFormed ds ck
  pub uses : EachUse (CallFits fs height top) e

-- a function of a checked program among these: all that it calls is lower than this
pub record FunctionPasses (fs : List Function) (height : ℕ → ℕ) (top : ℕ) (f : Function) : Type 0 where
  pub clocked : ClockedFunction fs f
  pub uses : (x : ℕ) (e : Expression) → right_of f.eqs x ≡ Some e → EachUse (CallFits fs height top) e
