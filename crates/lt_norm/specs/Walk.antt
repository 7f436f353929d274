-- What the steps of lifting do to the declarations and equations made so far.
use Rattle.std.specs.Prelude.{◌≡◌, ℕ, Bool, true, false, List, ◌++◌, length, map}
use Rattle.lt_base.specs.declared.function.Decl.{Decl}
use Rattle.lt_base.specs.Expression.{Expression, delayed}
use Rattle.lt_base.specs.Meaning.{ClockPairs}
use Rattle.lt_norm.specs.declared.lift.Lifting.{Lifting}
use Rattle.lt_norm.specs.declared.equations.Parts.{Parts}
use Rattle.lt_norm.specs.Plain.{plain_equations}
use Rattle.lt_norm.specs.Lift.{Delay, lifted, lifted_delays, new_decl, new_equations, right_lifted, right_fresh, equations_lifted, equations_fresh}
use Rattle.lt_norm.specs.NormalForm.{lifted_origins}

-- these delays were appended to the declarations and to the equations
pub record AddsDelays (rs : List Delay) (ds : List Decl) (es : List (ℕ × Expression)) (ds' : List Decl) (es' : List (ℕ × Expression)) : Type 0 where
  pub decls : ds' ≡ ds ++ map new_decl rs
  pub eqs : es' ≡ es ++ new_equations (length ds) rs

-- the delays of an expression at a clock were lifted, and this form of it is left
pub record LiftedTo (ck : ClockPairs) (e : Expression) (ds : List Decl) (es : List (ℕ × Expression)) (ds' : List Decl) (es' : List (ℕ × Expression)) (e' : Expression) : Type 0 where
  pub form : e' ≡ lifted (length ds) e
  pub rows : AddsDelays (lifted_delays (length ds) ck e) ds es ds' es'

-- so were those of a right side
pub record RightTo (ck : ClockPairs) (e : Expression) (ds : List Decl) (es : List (ℕ × Expression)) (ds' : List Decl) (es' : List (ℕ × Expression)) (e' : Expression) : Type 0 where
  pub form : e' ≡ right_lifted (length ds) e
  pub rows : AddsDelays (right_fresh (length ds) ck e) ds es ds' es'

-- so were those of these equations of a function with these declarations and origins
pub record AllLifted (known : List Decl) (origin : List ℕ) (qs : List (ℕ × Expression)) (ds : List Decl) (eqs : List (ℕ × Expression)) (new : List (ℕ × Expression)) (origins : List ℕ) : Type 0 where
  pub decls : ds ≡ known ++ map new_decl (equations_fresh known (length known) (plain_equations known qs))
  pub eqs_are : eqs ≡ equations_lifted (length known) (plain_equations known qs)
  pub new_are : new ≡ new_equations (length known) (equations_fresh known (length known) (plain_equations known qs))
  pub origins_are : origins ≡ origin ++ lifted_origins origin known qs

-- a step lifts the delays of an expression at a clock: what was made before it and after it, and the form that is left
abbrev pub Lifts : ClockPairs → Expression → Lifting → Lifting → Expression → Type 0
Lifts ck e before after e' = LiftedTo ck e before.decls.items before.delays.items after.decls.items after.delays.items e'

-- a step lifts those of a right side
abbrev pub LiftsRight : ClockPairs → Expression → Lifting → Lifting → Expression → Type 0
LiftsRight ck e before after e' = RightTo ck e before.decls.items before.delays.items after.decls.items after.delays.items e'

-- these parts of a function with these declarations and origins have these of its equations, without their delays
abbrev pub HaveLifted : List Decl → List ℕ → List (ℕ × Expression) → Parts → Type 0
HaveLifted known origin qs parts = AllLifted known origin qs parts.lifting.decls.items parts.eqs.items parts.lifting.delays.items parts.origins.items

-- whether it is a delay with a literal
abbrev pub is_delay : Expression → Bool
is_delay (delayed v e) = true
is_delay e = false
