-- What the equations of a flat function read.
use Rattle.std.specs.Prelude.{ℕ, List, [], ◌∷◌}
use Rattle.lt_base.specs.Expression.{Expression, variable, delayed}
use Rattle.lt_base.specs.Meaning.{ClockPairs, clock_of}
use Rattle.lt_base.specs.Dependence.{reads, clock_vars}
use Rattle.lt_norm.specs.Flat.{Originated}
use Rattle.lt_place_reads.specs.declared.look.Look.{Look}
use Rattle.lt_place_reads.specs.declared.look.Look.TheVariants.{Clocks, Direct, Slow}

-- what a delay delays: the variable that is all of it
abbrev pub whole_read : Expression → List ℕ
whole_read (variable x) = x ∷ []
whole_read e = []

-- the variables that it reads otherwise
abbrev pub parts_read : Expression → List ℕ
parts_read (variable x) = []
parts_read e = reads e

-- a flat right side: the variable that is all that a delay delays
abbrev pub delayed_reads : Expression → List ℕ
delayed_reads (delayed v a) = whole_read a
delayed_reads e = []

-- the variables that it reads otherwise
abbrev pub direct_reads : Expression → List ℕ
direct_reads (delayed v a) = parts_read a
direct_reads e = reads e

-- the variables of a variable's clock
abbrev pub clock_reads : Originated → ℕ → Expression → List ℕ
clock_reads f x e = clock_vars (clock_of f.func.decls x)

-- those that a variable's right side reads otherwise than as all that a delay delays
abbrev pub plain_reads : Originated → ℕ → Expression → List ℕ
plain_reads f x e = direct_reads e

-- the one that is all that a delay delays which is on another clock than the base clock
abbrev pub unless_base : ClockPairs → List ℕ → List ℕ
unless_base [] ys = []
unless_base (p ∷ ck) ys = ys

abbrev pub slow_reads : Originated → ℕ → Expression → List ℕ
slow_reads f x e = unless_base (clock_of f.func.decls x) (delayed_reads e)

-- a way in which an equation reads variables
abbrev pub looked : Look → Originated → ℕ → Expression → List ℕ
looked Clocks f = clock_reads f
looked Direct f = plain_reads f
looked Slow f = slow_reads f

-- not a variable
abbrev pub NotVariable : Expression → Type 0
NotVariable (variable x) = ⊥
NotVariable e = Unit {0}

-- not a delay with a literal
abbrev pub NotDelay : Expression → Type 0
NotDelay (delayed v a) = ⊥
NotDelay e = Unit {0}
