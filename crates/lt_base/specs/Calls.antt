-- Which functions call which, and what their calls mean.
use Rattle.std.specs.Prelude.{◌≡◌, ℕ, ◌<◌, true, Option, Some, None, List, [], ◌∷◌, ◌++◌}
use Rattle.lt_base.specs.Expression.{Expression, literal, variable, unary, binary, imported, choose, sampled, merged, delayed, follow, arrow, call, Arguments, no_arguments, argument}
use Rattle.lt_base.specs.Program.{Function}
use Rattle.lt_base.specs.Meaning.{Row, Callee, right_of, function_of, answer, environments}
use Rattle.lt_base.specs.Dependence.{has}
use Rattle.lt_base.specs.Graph.{NoClosedWalk}

-- the functions that an expression calls, in text order
abbrev mutual
  pub called : Expression → List ℕ
  called (literal v) = []
  called (variable x) = []
  called (unary o a) = called a
  called (binary o a b) = called a ++ called b
  called (imported o a b) = called a ++ called b
  called (choose c a b) = called c ++ (called a ++ called b)
  called (sampled e c b) = called e
  called (merged c a b) = called a ++ called b
  called (delayed v e) = called e
  called (follow a b) = called a ++ called b
  called (arrow a b) = called a ++ called b
  called (call g args) = g ∷ arguments_called args

  pub arguments_called : Arguments → List ℕ
  arguments_called no_arguments = []
  arguments_called (argument e args) = called e ++ arguments_called args

-- the functions that these equations call
abbrev pub equations_called : List (ℕ × Expression) → List ℕ
equations_called [] = []
equations_called (q ∷ eqs) = called q.1 ++ equations_called eqs

-- the functions that a function calls, if there is one
abbrev pub function_called : Option Function → List ℕ
function_called None = []
function_called (Some f) = equations_called f.eqs

-- function g calls function h
abbrev pub CallsFunction : List Function → ℕ → ℕ → Type 0
CallsFunction fs g h = has h (function_called (function_of fs g)) ≡ true

-- no function calls itself, directly or through others
abbrev pub NotRecursive : List Function → Type 0
NotRecursive fs = NoClosedWalk (CallsFunction fs)

-- a fact of each function that an expression calls
abbrev mutual
  pub EachCall : (ℕ → Type 0) → Expression → Type 0
  EachCall P (literal v) = Unit {0}
  EachCall P (variable x) = Unit {0}
  EachCall P (unary o a) = EachCall P a
  EachCall P (binary o a b) = EachCall P a × EachCall P b
  EachCall P (imported o a b) = EachCall P a × EachCall P b
  EachCall P (choose c a b) = EachCall P c × EachCall P a × EachCall P b
  EachCall P (sampled e c b) = EachCall P e
  EachCall P (merged c a b) = EachCall P a × EachCall P b
  EachCall P (delayed v e) = EachCall P e
  EachCall P (follow a b) = EachCall P a × EachCall P b
  EachCall P (arrow a b) = EachCall P a × EachCall P b
  EachCall P (call g args) = P g × EachArgumentCall P args

  pub EachArgumentCall : (ℕ → Type 0) → Arguments → Type 0
  EachArgumentCall P no_arguments = Unit {0}
  EachArgumentCall P (argument e args) = EachCall P e × EachArgumentCall P args

-- functions call only lower ones
pub record Layered (fs : List Function) (height : ℕ → ℕ) : Type 0 where
  pub lower : (g : ℕ) (f : Function) → function_of fs g ≡ Some f → (x : ℕ) (e : Expression) → right_of f.eqs x ≡ Some e → EachCall (λ h. height h < height g) e

-- what a call answers is what the called function means with the same calls
pub record Closed (fs : List Function) (callee : Callee) : Type 0 where
  pub calls : (g : ℕ) (f : Function) → function_of fs g ≡ Some f → (rows : List Row) → callee g rows ≡ answer f.outs (environments callee f rows)
