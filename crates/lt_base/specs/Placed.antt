-- A function that stands in another one, at a clock and under other numbers.
use Rattle.std.specs.Prelude.{◌≡◌, ℕ, ◌<◌, length, Some, None, List, [], ◌∷◌, if◌then◌else◌}
use Rattle.lt_base.specs.Expression.{Expression, literal, variable, unary, binary, imported, choose, sampled, merged, delayed, follow, arrow, call, Arguments, no_arguments, argument}
use Rattle.lt_base.specs.Program.{Function}
use Rattle.lt_base.specs.Meaning.{ClockPairs, Environment, Row, clock_of, right_of, entry, present}

-- an expression with other numbers for its variables
abbrev mutual
  pub renamed : (ℕ → ℕ) → Expression → Expression
  renamed r (literal v) = literal v
  renamed r (variable x) = variable (r x)
  renamed r (unary o a) = unary o (renamed r a)
  renamed r (binary o a b) = binary o (renamed r a) (renamed r b)
  renamed r (imported o a b) = imported o (renamed r a) (renamed r b)
  renamed r (choose c a b) = choose (renamed r c) (renamed r a) (renamed r b)
  renamed r (sampled e c b) = sampled (renamed r e) (r c) b
  renamed r (merged c a b) = merged (r c) (renamed r a) (renamed r b)
  renamed r (delayed v e) = delayed v (renamed r e)
  renamed r (follow a b) = follow (renamed r a) (renamed r b)
  renamed r (arrow a b) = arrow (renamed r a) (renamed r b)
  renamed r (call g args) = call g (arguments_renamed r args)

  pub arguments_renamed : (ℕ → ℕ) → Arguments → Arguments
  arguments_renamed r no_arguments = no_arguments
  arguments_renamed r (argument e args) = argument (renamed r e) (arguments_renamed r args)

-- a clock of the inner function, below the clock at which it stands
abbrev pub below : (ℕ → ℕ) → ClockPairs → ClockPairs → ClockPairs
below r [] ck = ck
below r ((c, b) ∷ k) ck = (r c, b) ∷ below r k ck

-- an environment under the inner function's numbers
abbrev pub seen : (ℕ → ℕ) → Environment → Environment
seen r env x = env (r x)

-- the instants at which the clock is present, under the inner function's numbers
abbrev pub thinned : (ℕ → ℕ) → ClockPairs → List Environment → List Environment
thinned r ck [] = []
thinned r ck (env ∷ past) = if present env ck then seen r env ∷ thinned r ck past else thinned r ck past

-- the rows hold the values of the inputs
abbrev pub Shows : Function → List Environment → List Row → Type 0
Shows g [] [] = Unit {0}
Shows g [] (row ∷ rows) = ⊥
Shows g (env ∷ es) [] = ⊥
Shows g (env ∷ es) (row ∷ rows) = ((x : ℕ) → x < length g.decls → right_of g.eqs x ≡ None → env x ≡ entry row x) × Shows g es rows

-- g's equations stand in f under these numbers, below this clock
pub record StandsIn (f g : Function) (r : ℕ → ℕ) (ck : ClockPairs) : Type 0 where
  pub numbers : (x : ℕ) → x < length g.decls → r x < length f.decls
  pub equations : (x : ℕ) (e : Expression) → right_of g.eqs x ≡ Some e → right_of f.eqs (r x) ≡ Some (renamed r e)
  pub clocks : (x : ℕ) (e : Expression) → right_of g.eqs x ≡ Some e → clock_of f.decls (r x) ≡ below r (clock_of g.decls x) ck
