-- The first fault of clocks.
use Rattle.std.specs.Prelude.{◌≡◌, ℕ, Some, None, List, take, slice_get, MatchOption}
use Rattle.std.specs.List.{All}
use Rattle.lt_base.specs.declared.function.Decl.{Decl}
use Rattle.lt_base.specs.Expression.{Expression}
use Rattle.lt_base.specs.Program.{Function, WholeProgram}
use Rattle.lt_base.specs.Meaning.{clock_of, function_of}
use Rattle.lt_base.specs.Clocking.{WellFormed, Clocked, ClockedFunction}
use Rattle.lt_check.specs.declared.clocking.ClockFault.{ClockFault}
use Rattle.lt_check.specs.Places.{Place, declaration, equation, FirstIn}

-- the variable's declared clock is well formed
abbrev pub GoodClock : List Decl → ℕ → Type 0
GoodClock ds x = WellFormed ds (clock_of ds x)

-- the right side is at its variable's clock
abbrev pub IsAtItsClock : List Function → List Decl → ℕ × Expression → Type 0
IsAtItsClock fs ds q = Clocked fs ds q.1 (clock_of ds q.0)

-- what a fault says: a variable with its clock, and the equation if it is one that is at fault
abbrev pub SaysClocks : Function → ClockFault → Place → Type 0
SaysClocks f fault (declaration x) = (fault.var ≡ x) × (fault.at ≡ None)
SaysClocks f fault (equation k) = MatchOption (slice_get f.eqs k) ⊥ (λ q. (fault.var ≡ q.0) × (fault.at ≡ Some k))

-- a function's fault stands at the first place at which the function is not clocked
pub record IsClockFaultIn (fs : List Function) (f : Function) (fault : ClockFault) : Type 0 where
  pub place : Place
  pub first : FirstIn (GoodClock f.decls) (IsAtItsClock fs f.decls) f place
  pub says : SaysClocks f fault place
  pub want : fault.want ≡ clock_of f.decls fault.var

-- the functions before the fault's are clocked, and it is that function's fault
pub record IsFirstClockFault (p : WholeProgram) (fault : ClockFault) : Type 0 where
  pub before : All (ClockedFunction p.funcs) (take fault.func p.funcs)
  pub here : MatchOption (function_of p.funcs fault.func) ⊥ (λ f. IsClockFaultIn p.funcs f fault)
