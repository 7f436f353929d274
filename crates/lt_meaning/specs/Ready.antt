-- Plans of a whole program, and how far its table has come.
use Rattle.std.specs.Prelude.{◌≡◌, ℕ, ◌<◌, List, length, MatchOption, slice_index_or}
use Rattle.std.specs.List.{All}
use Rattle.lt_base.specs.declared.value.Cell.{Cell}
use Rattle.lt_base.specs.declared.function.Decl.{Decl}
use Rattle.lt_base.specs.Program.{WholeProgram}
use Rattle.lt_base.specs.Meaning.{Environment, clock_of, cell}
use Rattle.lt_meaning.specs.declared.plan.Plan.{Plan}
use Rattle.lt_meaning.specs.Planned.{Planned}
use Rattle.lt_base.specs.Main.{main_of}

-- a plan for each function of this program, in which fewer calls nest than there are functions
pub record ArePlans (p : WholeProgram) (plans : List Plan) : Type 0 where
  pub planned : Planned plans
  pub is : planned.program ≡ p
  pub number : length plans ≡ length p.funcs
  pub low : (g : ℕ) → g < length p.funcs → planned.height g < length p.funcs

-- numbers of variables of main
abbrev pub AreOfMain : WholeProgram → List ℕ → Type 0
AreOfMain p xs = MatchOption (main_of p) ⊥ (λ f. All (λ x. x < length f.decls) xs)

-- what the variable at this place of a list has at an instant
abbrev pub cell_at_place : List Decl → Environment → List ℕ → ℕ → Cell
cell_at_place ds env xs i = cell env (clock_of ds (slice_index_or xs i 0)) (slice_index_or xs i 0)
