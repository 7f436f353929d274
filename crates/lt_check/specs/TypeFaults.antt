-- The first fault of types.
use Rattle.std.specs.Prelude.{◌≡◌, ◌≢◌, ℕ, Option, Some, List, take, slice_get, MatchOption}
use Rattle.std.specs.List.{All}
use Rattle.lt_base.specs.declared.value.Ty.{Ty}
use Rattle.lt_base.specs.declared.value.Ty.TheVariants.{Int as IntTy, Bool as BoolTy}
use Rattle.lt_base.specs.declared.function.Decl.{Decl}
use Rattle.lt_base.specs.Expression.{Expression}
use Rattle.lt_base.specs.Program.{Function, WholeProgram}
use Rattle.lt_base.specs.Meaning.{ClockPairs, clock_of, function_of}
use Rattle.lt_base.specs.Typing.{ty_at, type_of, TypedFunction}
use Rattle.lt_check.specs.declared.typing.TypeFault.{TypeFault}
use Rattle.lt_check.specs.Places.{Place, declaration, equation, FirstIn}

-- every variable of the clock is a bool
abbrev pub AllBools : List Decl → ClockPairs → Type 0
AllBools ds ck = All (λ p. ty_at ds p.0 ≡ Some BoolTy) ck

-- every clock variable of the variable is a bool
abbrev pub BoolClock : List Decl → ℕ → Type 0
BoolClock ds x = AllBools ds (clock_of ds x)

-- the right side has its variable's type
abbrev pub HasItsType : List Function → List Decl → ℕ × Expression → Type 0
HasItsType fs ds q = type_of fs ds q.1 ≡ ty_at ds q.0

-- the type that an equation's variable wants and the one that its right side has, which differ
abbrev pub IsMisfit : List Function → List Decl → ℕ × Expression → Ty × Option Ty → Type 0
IsMisfit fs ds q m = (Some m.0 ≡ ty_at ds q.0) × (m.1 ≡ type_of fs ds q.1) × (m.1 ≢ Some m.0)

-- what a fault says: an int is among the clock variables of a declared variable, or which type a right side wants and has
abbrev pub SaysTypes : List Function → Function → TypeFault → Place → Type 0
SaysTypes fs f fault (declaration x) = (fault.var ≡ x) × (fault.want ≡ BoolTy) × (fault.got ≡ Some IntTy)
SaysTypes fs f fault (equation k) =
    MatchOption (slice_get f.eqs k) ⊥ (λ q. (fault.var ≡ q.0) × (Some fault.want ≡ ty_at f.decls q.0) × (fault.got ≡ type_of fs f.decls q.1))

-- a function's fault stands at the first place at which the function is not typed
pub record IsTypeFaultIn (fs : List Function) (f : Function) (fault : TypeFault) : Type 0 where
  pub place : Place
  pub first : FirstIn (BoolClock f.decls) (HasItsType fs f.decls) f place
  pub says : SaysTypes fs f fault place

-- the functions before the fault's are typed, and it is that function's fault
pub record IsFirstTypeFault (p : WholeProgram) (fault : TypeFault) : Type 0 where
  pub before : All (TypedFunction p.funcs) (take fault.func p.funcs)
  pub here : MatchOption (function_of p.funcs fault.func) ⊥ (λ f. IsTypeFaultIn p.funcs f fault)
