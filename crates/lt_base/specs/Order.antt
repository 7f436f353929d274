-- The equations of a function in an order in which each comes after what it depends on.
use Rattle.std.specs.Prelude.{◌≡◌, ℕ, ◌<◌, ◌≤◌, Some, [], ◌∷◌, length}
use Rattle.lt_base.specs.Expression.{Expression, literal, variable, unary, binary, imported, choose, sampled, merged, delayed, follow, arrow, call, Arguments, no_arguments, argument}
use Rattle.lt_base.specs.Program.{Function}
use Rattle.lt_base.specs.Meaning.{ClockPairs, clock_of, right_of}

-- a fact of each variable that is read outside the right side of every delay
abbrev mutual
  pub EachRead : (ℕ → Type 0) → Expression → Type 0
  EachRead P (literal v) = Unit {0}
  EachRead P (variable x) = P x
  EachRead P (unary o a) = EachRead P a
  EachRead P (binary o a b) = EachRead P a × EachRead P b
  EachRead P (imported o a b) = EachRead P a × EachRead P b
  EachRead P (choose c a b) = EachRead P c × EachRead P a × EachRead P b
  EachRead P (sampled e c b) = EachRead P e × P c
  EachRead P (merged c a b) = P c × EachRead P a × EachRead P b
  EachRead P (delayed v e) = Unit {0}
  EachRead P (follow a b) = EachRead P a
  EachRead P (arrow a b) = EachRead P a × EachRead P b
  EachRead P (call g args) = EachArgumentRead P args

  pub EachArgumentRead : (ℕ → Type 0) → Arguments → Type 0
  EachArgumentRead P no_arguments = Unit {0}
  EachArgumentRead P (argument e args) = EachRead P e × EachArgumentRead P args

-- a fact of each variable of a clock
abbrev pub EachClockVar : (ℕ → Type 0) → ClockPairs → Type 0
EachClockVar P [] = Unit {0}
EachClockVar P ((c, b) ∷ ck) = P c × EachClockVar P ck

-- each variable with an equation has a higher rank than all that it depends on
pub record Ranked (f : Function) (rank : ℕ → ℕ) : Type 0 where
  pub reads_before : (x : ℕ) (e : Expression) → right_of f.eqs x ≡ Some e → EachRead (λ y. rank y < rank x) e
  pub clocks_before : (x : ℕ) (e : Expression) → right_of f.eqs x ≡ Some e → EachClockVar (λ y. rank y < rank x) (clock_of f.decls x)

-- ranks from 1 to the number of equations
pub record Ordered (f : Function) (place : ℕ → ℕ) : Type 0 where
  pub within : (x : ℕ) (e : Expression) → right_of f.eqs x ≡ Some e → place x ≤ length f.eqs
  pub later : (x : ℕ) (e : Expression) → right_of f.eqs x ≡ Some e → 0 < place x
  pub ranked : Ranked f place
