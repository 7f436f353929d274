-- Equations and declarations that are typed and clocked.
use Rattle.std.specs.Prelude.{◌≡◌, ℕ, ◌<◌, true, List, length}
use Rattle.lt_base.specs.declared.function.Decl.{Decl}
use Rattle.lt_base.specs.Expression.{Expression}
use Rattle.std.specs.List.{All}
use Rattle.lt_base.specs.Program.{Function, WholeProgram}
use Rattle.lt_base.specs.Typing.{TypedFunction}
use Rattle.lt_base.specs.Clocking.{ClockedFunction}
use Rattle.lt_base.specs.Meaning.{clock_of}
use Rattle.lt_check.specs.Innermost.{innermost, is_at}
use Rattle.lt_check.specs.ClockFaults.{GoodClock}
use Rattle.lt_check.specs.TypeFaults.{BoolClock, HasItsType}

-- the right side has its variable's type, and is at its variable's clock
abbrev pub FitsVariable : List Function → List Decl → ℕ × Expression → Type 0
FitsVariable fs ds q = HasItsType fs ds q × (is_at fs ds q.1 (innermost (clock_of ds q.0)) ≡ true)

-- every clock variable is a bool, and every declared clock is well formed
abbrev pub HasGoodClocks : Function → Type 0
HasGoodClocks f = ((x : ℕ) → x < length f.decls → BoolClock f.decls x) × ((x : ℕ) → x < length f.decls → GoodClock f.decls x)

-- the function is typed and clocked
abbrev pub IsTypedAndClocked : List Function → Function → Type 0
IsTypedAndClocked fs f = TypedFunction fs f × ClockedFunction fs f

-- every function of the program is typed and clocked
abbrev pub IsRightProgram : WholeProgram → Type 0
IsRightProgram p = All (IsTypedAndClocked p.funcs) p.funcs
