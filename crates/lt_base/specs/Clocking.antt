-- Clocks: at which instants variables and expressions have values.
use Rattle.std.specs.Prelude.{◌≡◌, ℕ, ◌<◌, Bool, true, false, Option, Some, None, List, [], ◌∷◌, length}
use Rattle.std.specs.List.{All}
use Rattle.lt_base.specs.Expression.{Expression, literal, variable, unary, binary, imported, choose, sampled, merged, delayed, follow, arrow, call, Arguments, no_arguments, argument}
use Rattle.lt_base.specs.declared.function.Decl.{Decl}
use Rattle.lt_base.specs.Program.{Function, WholeProgram}
use Rattle.lt_base.specs.Meaning.{ClockPairs, clock_of, right_of, function_of}

-- each clock variable is declared at the clock before it
abbrev pub WellFormed : List Decl → ClockPairs → Type 0
WellFormed ds [] = Unit {0}
WellFormed ds ((c, b) ∷ ck) = (c < length ds) × (clock_of ds c ≡ ck) × WellFormed ds ck

-- a clock that ends in this pair, with a fact of the clock before it
abbrev pub EndsIn : ClockPairs → ℕ → Bool → (ClockPairs → Type 0) → Type 0
EndsIn [] c b P = ⊥
EndsIn ((d, a) ∷ ck) c b P = (d ≡ c) × (a ≡ b) × P ck

-- the first output is on the base clock
abbrev pub FirstOnBase : List Decl → List ℕ → Type 0
FirstOnBase ds [] = ⊥
FirstOnBase ds (y ∷ ys) = (y < length ds) × (clock_of ds y ≡ [])

-- a called function answers on its base clock
abbrev pub AnswersOnBase : Option Function → Type 0
AnswersOnBase None = ⊥
AnswersOnBase (Some f) = FirstOnBase f.decls f.outs

-- an expression is at a clock
abbrev mutual
  pub Clocked : List Function → List Decl → Expression → ClockPairs → Type 0
  Clocked fs ds (literal v) ck = Unit {0}
  Clocked fs ds (variable x) ck = (x < length ds) × (clock_of ds x ≡ ck)
  Clocked fs ds (unary o a) ck = Clocked fs ds a ck
  Clocked fs ds (binary o a b) ck = Clocked fs ds a ck × Clocked fs ds b ck
  Clocked fs ds (imported o a b) ck = Clocked fs ds a ck × Clocked fs ds b ck
  Clocked fs ds (choose c a b) ck = Clocked fs ds c ck × Clocked fs ds a ck × Clocked fs ds b ck
  Clocked fs ds (sampled e c b) ck = EndsIn ck c b (λ before. (c < length ds) × (clock_of ds c ≡ before) × Clocked fs ds e before)
  Clocked fs ds (merged c a b) ck =
      (c < length ds) × (clock_of ds c ≡ ck) × Clocked fs ds a ((c, true) ∷ ck) × Clocked fs ds b ((c, false) ∷ ck)
  Clocked fs ds (delayed v e) ck = Clocked fs ds e ck
  Clocked fs ds (follow a b) ck = Clocked fs ds a ck × Clocked fs ds b ck
  Clocked fs ds (arrow a b) ck = Clocked fs ds a ck × Clocked fs ds b ck
  Clocked fs ds (call g args) ck = AnswersOnBase (function_of fs g) × ArgumentsClocked fs ds args ck

  -- every argument is at a clock
  pub ArgumentsClocked : List Function → List Decl → Arguments → ClockPairs → Type 0
  ArgumentsClocked fs ds no_arguments ck = Unit {0}
  ArgumentsClocked fs ds (argument e args) ck = Clocked fs ds e ck × ArgumentsClocked fs ds args ck

-- every declared clock is well formed, and every right side is at its variable's clock
pub record ClockedFunction (fs : List Function) (f : Function) : Type 0 where
  pub clocks : (x : ℕ) → WellFormed f.decls (clock_of f.decls x)
  pub rights : (x : ℕ) (e : Expression) → right_of f.eqs x ≡ Some e → Clocked fs f.decls e (clock_of f.decls x)

-- every function of a program is clocked
abbrev pub ClockedProgram : WholeProgram → Type 0
ClockedProgram p = All (ClockedFunction p.funcs) p.funcs
