-- Copies of functions that stand in another function.
use Rattle.std.specs.Prelude.{◌≡◌, ℕ, ◌+◌, ◌<◌, Some, List, [], ◌∷◌, length}
use Rattle.lt_base.specs.Expression.{Expression}
use Rattle.lt_base.specs.Program.{Function}
use Rattle.lt_base.specs.Meaning.{clock_of, right_of}
use Rattle.lt_base.specs.Equations.{EquationsIn}
use Rattle.lt_base.specs.Typing.{ty_at}
use Rattle.lt_base.specs.Placed.{renamed, below}
use Rattle.lt_expand.specs.Copies.{raise, Copy, input_equations}

-- a fact of each of these copies
abbrev pub Each : (Copy → Type 0) → List Copy → Type 0
Each P [] = Unit {0}
Each P (c ∷ cs) = P c × Each P cs

-- the variables of the copy are declared in F at their numbers, below the clock of the call's place
pub record Declared (F : Function) (c : Copy) : Type 0 where
  pub numbers : (x : ℕ) → x < length c.source.decls → x + c.from < length F.decls
  pub clocks : (x : ℕ) → x < length c.source.decls → clock_of F.decls (x + c.from) ≡ below (raise c.from) (clock_of c.source.decls x) c.clock
  pub types : (x : ℕ) → x < length c.source.decls → ty_at F.decls (x + c.from) ≡ ty_at c.source.decls x

-- and so are its equations
pub record Stands (F : Function) (c : Copy) : Type 0 where
  pub declared : Declared F c
  pub inputs : EquationsIn F (input_equations c.from c.inputs)
  pub rights : (x : ℕ) (e : Expression) → right_of c.source.eqs x ≡ Some e → right_of F.eqs (x + c.from) ≡ Some (renamed (raise c.from) e)

-- the number of variables of these copies
abbrev pub span : List Copy → ℕ
span [] = 0
span (c ∷ cs) = length c.source.decls + span cs

-- each copy begins where the one before it ends, the first one at n
abbrev pub Numbered : ℕ → List Copy → Type 0
Numbered n [] = Unit {0}
Numbered n (c ∷ cs) = (c.from ≡ n) × Numbered (n + length c.source.decls) cs

-- k numbers from n on are those of these copies
pub record Fills (n k : ℕ) (cs : List Copy) : Type 0 where
  pub numbered : Numbered n cs
  pub all : span cs ≡ k
