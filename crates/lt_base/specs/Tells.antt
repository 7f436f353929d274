-- An expression that has the value of another one along a solution.
use Rattle.std.specs.Prelude.{◌≡◌, ℕ, ◌<◌, length, true, Some, List, [], ◌∷◌}
use Rattle.lt_base.specs.Expression.{Expression, Arguments}
use Rattle.lt_base.specs.Program.{Function}
use Rattle.lt_base.specs.Meaning.{ClockPairs, Environment, Callee, clock_of, right_of, present, value_of, values_of}
use Rattle.lt_base.specs.Placed.{renamed, below}

-- a fact of each instant and of those before it
abbrev pub AtEach : (List Environment → Environment → Type 0) → List Environment → Type 0
AtEach P [] = Unit {0}
AtEach P (env ∷ past) = P past env × AtEach P past

-- the second expression has the first one's value at each instant at which the clock is present
abbrev pub Tells : Callee → List Environment → ClockPairs → Expression → Expression → Type 0
Tells callee es ck e e' = AtEach (λ past env. present env ck ≡ true → value_of callee e' ck past env ≡ value_of callee e ck past env) es

-- so have the second arguments the first ones' values
abbrev pub ArgumentsTell : Callee → List Environment → ClockPairs → Arguments → Arguments → Type 0
ArgumentsTell callee es ck args args' = AtEach (λ past env. present env ck ≡ true → values_of callee args' ck past env ≡ values_of callee args ck past env) es

-- g's equations stand in f along these instants, under other numbers, below a clock, and perhaps in another form
pub record TellsFunction (callee : Callee) (es : List Environment) (f g : Function) (r : ℕ → ℕ) (ck : ClockPairs) : Type 0 where
  pub form : ℕ → Expression
  pub numbers : (x : ℕ) → x < length g.decls → r x < length f.decls
  pub equations : (x : ℕ) (e : Expression) → right_of g.eqs x ≡ Some e → right_of f.eqs (r x) ≡ Some (form x)
  pub clocks : (x : ℕ) (e : Expression) → right_of g.eqs x ≡ Some e → clock_of f.decls (r x) ≡ below r (clock_of g.decls x) ck
  pub tells : (x : ℕ) (e : Expression) → right_of g.eqs x ≡ Some e → Tells callee es (below r (clock_of g.decls x) ck) (renamed r e) (form x)
