-- What the checks establish of a program.
use Rattle.std.specs.Prelude.{◌≡◌, ℕ, ◌<◌, ◌+◌, Option, Some, None, List, [], length, map, slice_index_or}
use Rattle.std.specs.List.{All}
use Rattle.lt_base.specs.Expression.{Expression, literal, variable, unary, binary, imported, choose, sampled, merged, delayed, follow, arrow, call, Arguments, no_arguments, argument}
use Rattle.lt_base.specs.Program.{Function, WholeProgram}
use Rattle.lt_base.specs.Meaning.{function_of}
use Rattle.lt_base.specs.Typing.{TypedProgram}
use Rattle.lt_base.specs.Clocking.{ClockedProgram}
use Rattle.lt_base.specs.Dependence.{CausalProgram}
use Rattle.lt_base.specs.Calls.{NotRecursive}

-- the number of a call's arguments
abbrev pub argument_count : Arguments → ℕ
argument_count no_arguments = 0
argument_count (argument e args) = 1 + argument_count args

-- a fact of each call in an expression: of the function's number and the number of arguments
abbrev mutual
  pub EachUse : (ℕ → ℕ → Type 0) → Expression → Type 0
  EachUse P (literal v) = Unit {0}
  EachUse P (variable x) = Unit {0}
  EachUse P (unary o a) = EachUse P a
  EachUse P (binary o a b) = EachUse P a × EachUse P b
  EachUse P (imported o a b) = EachUse P a × EachUse P b
  EachUse P (choose c a b) = EachUse P c × EachUse P a × EachUse P b
  EachUse P (sampled e c b) = EachUse P e
  EachUse P (merged c a b) = EachUse P a × EachUse P b
  EachUse P (delayed v e) = EachUse P e
  EachUse P (follow a b) = EachUse P a × EachUse P b
  EachUse P (arrow a b) = EachUse P a × EachUse P b
  EachUse P (call g args) = P g (argument_count args) × EachArgumentUse P args

  pub EachArgumentUse : (ℕ → ℕ → Type 0) → Arguments → Type 0
  EachArgumentUse P no_arguments = Unit {0}
  EachArgumentUse P (argument e args) = EachUse P e × EachArgumentUse P args

-- a function that has that many inputs and exactly one output
abbrev pub AnswersCall : Option Function → ℕ → Type 0
AnswersCall None n = ⊥
AnswersCall (Some f) n = (f.n_in ≡ n) × (length f.outs ≡ 1)

-- no two of these names are equal
abbrev pub NamesDiffer : List (List ℕ) → Type 0
NamesDiffer names = (i j : ℕ) → i < length names → j < length names → slice_index_or names i [] ≡ slice_index_or names j [] → i ≡ j

-- functions have one name each, and so have the variables of a function; each call fits its function; and no function calls itself
pub record NamedProgram (p : WholeProgram) : Type 0 where
  pub functions : NamesDiffer (map (λ f. f.name) p.funcs)
  pub variables : All (λ f. NamesDiffer (map (λ d. d.name) f.decls)) p.funcs
  pub uses : All (λ f. All (λ e. EachUse (λ g n. AnswersCall (function_of p.funcs g) n) e.1) f.eqs) p.funcs
  pub not_recursive : NotRecursive p.funcs

-- the checks of names, types, clocks and causality hold
pub record CheckedProgram (p : WholeProgram) : Type 0 where
  pub named : NamedProgram p
  pub typed : TypedProgram p
  pub clocked : ClockedProgram p
  pub causal : CausalProgram p
