-- Where a function breaks a rule first: the declarations come before the equations.
use Rattle.std.specs.Prelude.{◌≡◌, ℕ, ◌<◌, Some, length, take, slice_get}
use Rattle.std.specs.List.{All}
use Rattle.lt_base.specs.Expression.{Expression}
use Rattle.lt_base.specs.Program.{Function}

-- a declaration by its variable's number, or an equation by its own
pub data Place : Type 0 where
  declaration : ℕ → Place
  equation : ℕ → Place

-- the variable's declaration breaks the rule, and those before it keep it
pub record FirstDeclaration (rule : ℕ → Type 0) (f : Function) (x : ℕ) : Type 0 where
  pub inside : x < length f.decls
  pub before : (y : ℕ) → y < x → rule y
  pub broken : rule x → ⊥

-- the equation breaks the rule, and those before it keep it
pub record FirstEquation (rule : ℕ × Expression → Type 0) (f : Function) (k : ℕ) (q : ℕ × Expression) : Type 0 where
  pub here : slice_get f.eqs k ≡ Some q
  pub before : All rule (take k f.eqs)
  pub broken : rule q → ⊥

-- the place at which a function breaks the rule of declarations or that of equations first
abbrev pub FirstIn : (ℕ → Type 0) → (ℕ × Expression → Type 0) → Function → Place → Type 0
FirstIn declared equated f (declaration x) = FirstDeclaration declared f x
FirstIn declared equated f (equation k) = ((x : ℕ) → x < length f.decls → declared x) × ((q : ℕ × Expression) × FirstEquation equated f k q)
