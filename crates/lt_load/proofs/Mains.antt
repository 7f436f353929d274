-- The function of a program that is run.
use Rattle.std.proofs.Common.{◌≡◌, ℕ, zero, suc, ◌<◌, List, [], ◌∷◌, length, get_or, arith}
use Rattle.std.specs.Prelude.{MatchOption}
use Rattle.lt_base.specs.Program.{Function, WholeProgram}
use Rattle.lt_base.specs.Inputs.{InputTable}
use Rattle.lt_base.specs.Meaning.{function_of}
use Rattle.lt_base.specs.Behaviour.{RowsFit}
use Rattle.lt_base.specs.Main.{main_of, InputsFit, InputsFitMain}
use Rattle.lt_load_fit.specs.Main.{main_in}

at_number : (P : Function → Type 0) (d : Function) (fs : List Function) (n : ℕ) → MatchOption (function_of fs n) ⊥ P → P (get_or fs n d)
at_number P d [] n holds = absurd holds
at_number P d (f ∷ fs) zero holds = holds
at_number P d (f ∷ fs) (suc n) holds = at_number P d fs n holds

has_number : (P : Function → Type 0) (d : Function) (fs : List Function) (n : ℕ) → n < length fs → P (get_or fs n d) → MatchOption (function_of fs n) ⊥ P
has_number P d [] n low holds = absurd (omega (arith, low))
has_number P d (f ∷ fs) zero low holds = holds
has_number P d (f ∷ fs) (suc n) low holds = has_number P d fs n (omega (arith, low)) holds

-- a fact of the function that is run
pub of_main : (P : Function → Type 0) (p : WholeProgram) → MatchOption (main_of p) ⊥ P → P (main_in p)
of_main P p holds = at_number P _ p.funcs p.main holds

pub has_main : (P : Function → Type 0) (p : WholeProgram) → p.main < length p.funcs → P (main_in p) → MatchOption (main_of p) ⊥ P
has_main P p low holds = has_number P _ p.funcs p.main low holds

-- rows of its inputs fit it
pub inputs_fit : (p : WholeProgram) (table : InputTable) → p.main < length p.funcs → table.width ≡ (main_in p).n_in → RowsFit (main_in p) table.rows → InputsFitMain p table
inputs_fit p table low width rows = has_main (λ f. InputsFit f table) p low (record { width = width; rows = rows })
