-- What the expansion of a program keeps, and what it adds.
use Rattle.std.specs.Prelude.{◌≡◌, ℕ, ◌+◌, ◌<◌, ◌≤◌, Some, List, [], ◌∷◌, ◌++◌, length, replicate}
use Rattle.std.specs.List.{All, sum_by, range_with_len}
use Rattle.lt_base.specs.declared.program.Sizes.{Sizes}
use Rattle.lt_base.specs.declared.value.Value.{Value}
use Rattle.lt_base.specs.declared.function.Decl.{Decl}
use Rattle.lt_base.specs.Expression.{Expression}
use Rattle.lt_base.specs.Program.{Function, WholeProgram, GoodProgram}
use Rattle.lt_base.specs.Meaning.{function_of, stream_of}
use Rattle.lt_base.specs.Typing.{TypedFunction}
use Rattle.lt_base.specs.Clocking.{ClockedFunction}
use Rattle.lt_base.specs.Dependence.{Causal}
use Rattle.lt_base.specs.Calls.{EachCall}
use Rattle.lt_base.specs.Checked.{CheckedProgram}
use Rattle.lt_base.specs.Limits.{greatest_weight, most_parts}
use Rattle.lt_base.specs.Sizes.{cost, nested, weight_with, parts_with, program_weight, program_parts, cut}
use Rattle.lt_expand.specs.Copies.{expansion}

-- the number of a function's variables, with those of the functions that it calls
abbrev pub variables_with : (ℕ → ℕ) → Function → ℕ
variables_with w f = length f.decls + sum_by (λ e. cost 0 w e.1) f.eqs

-- the same with that many nested calls
abbrev pub nested_variables : List Function → ℕ → ℕ → ℕ
nested_variables fs n g = nested variables_with fs n g

-- the variables of main in whose equations the new ones arose, equation by equation
abbrev pub copied_origins : List Function → List (ℕ × Expression) → List ℕ
copied_origins fs [] = []
copied_origins fs (q ∷ qs) = replicate (cost 0 (nested_variables fs (length fs)) q.1) q.0 ++ copied_origins fs qs

-- the function F with these origins stands for the function f of a program
pub record ExpansionOf (fs : List Function) (f : Function) (F : Function) (origin : List ℕ) : Type 0 where
  -- the name, the inputs and the outputs are f's
  pub name : F.name ≡ f.name
  pub inputs : F.n_in ≡ f.n_in
  pub outputs : F.outs ≡ f.outs
  -- the variables of f keep their numbers and declarations, and the new ones come after them
  pub more : List Decl
  pub declarations : F.decls ≡ f.decls ++ more
  -- no call is left
  pub callless : All (λ q. EachCall (λ _. ⊥) q.1) F.eqs
  -- every variable of f keeps its stream, whatever the input rows
  pub streams : (rows : List (List Value)) (x : ℕ) → x < length f.decls → stream_of [] F rows x ≡ stream_of fs f rows x
  -- the checks pass again
  pub typed : TypedFunction [] F
  pub clocked : ClockedFunction [] F
  pub causal : Causal F
  -- a variable of f is its own origin, and a new one has the variable of f in whose equation it arose
  pub origins : origin ≡ range_with_len 0 (length f.decls) ++ copied_origins fs f.eqs
  pub each : length origin ≡ length F.decls

-- the same for the main function of a program, whose weight and parts F has of its own
pub record ProgramExpansion (p : WholeProgram) (F : Function) (origin : List ℕ) : Type 0 where
  pub main : Function
  pub found : function_of p.funcs p.main ≡ Some main
  pub keeps : ExpansionOf p.funcs main F origin
  pub weight : weight_with (λ _. 0) F ≡ program_weight p
  pub parts : parts_with (λ _. 0) F ≡ program_parts p

-- the greatest weight and the greatest number of parts of a main function
abbrev pub WithinLimits : WholeProgram → Type 0
WithinLimits p = (program_weight p ≤ greatest_weight) × (program_parts p ≤ most_parts)

-- a program is too large, and these are its sizes
pub record IsTooMany (p : WholeProgram) (needed : Sizes) : Type 0 where
  pub weight : needed.weight ≡ cut (program_weight p)
  pub parts : needed.parts ≡ cut (program_parts p)
  pub past : WithinLimits p → ⊥

-- the origins of the variables of a main function's expansion
abbrev pub origins_of : List Function → Function → List ℕ
origins_of fs f = range_with_len 0 (length f.decls) ++ copied_origins fs f.eqs

-- every checked program has an expansion that keeps all this
abbrev pub ProgramsExpand : Type 0
ProgramsExpand =
    (p : WholeProgram) → GoodProgram p → CheckedProgram p → (f : Function) → function_of p.funcs p.main ≡ Some f → ProgramExpansion p (expansion p) (origins_of p.funcs f)
