-- The flat form of a program: the normal form of its expansion.
use Rattle.std.specs.Prelude.{◌≡◌, ℕ, ◌<◌, ◌≤◌, List, [], ◌++◌, length, All, slice_index}
use Rattle.std.specs.List.{sum_by}
use Rattle.lt_base.specs.declared.value.Value.{Value}
use Rattle.lt_base.specs.declared.function.Decl.{Decl}
use Rattle.lt_base.specs.Expression.{parts as expression_parts}
use Rattle.lt_base.specs.Program.{Function, WholeProgram}
use Rattle.lt_base.specs.Meaning.{function_of, stream_of}
use Rattle.lt_base.specs.Typing.{TypedFunction}
use Rattle.lt_base.specs.Clocking.{ClockedFunction}
use Rattle.lt_base.specs.Dependence.{Causal}
use Rattle.lt_base.specs.Limits.{greatest_weight}
use Rattle.lt_base.specs.Sizes.{weight_with}
use Rattle.lt_expand.specs.Copies.{expansion}
pub use Rattle.lt_expand.specs.Copies.{function_or_none}
use Rattle.lt_expand.specs.Expansion.{origins_of}
use Rattle.lt_norm.specs.Flat.{Originated, FlatFunction}
use Rattle.lt_norm.specs.Lift.{normal_form}
use Rattle.lt_norm.specs.NormalForm.{lifted_origins}

-- the function that is run
abbrev pub main_function : WholeProgram → Function
main_function p = function_or_none (function_of p.funcs p.main)

-- the origins of the variables of its expansion
abbrev pub expansion_origins : WholeProgram → List ℕ
expansion_origins p = origins_of p.funcs (main_function p)

-- copies of the called functions in place of calls, and then each delay alone on a right side; each variable with the variable of
-- `main` in whose equation it arose
unfoldable pub flat_of : WholeProgram → Originated
flat_of p = record {
  func = normal_form (expansion p);
  origin = expansion_origins p ++ lifted_origins (expansion_origins p) (expansion p).decls (expansion p).eqs;
}

-- what a flat form keeps of the program's main function
pub record KeepsMain (p : WholeProgram) (f : Originated) : Type 0 where
  -- the inputs and the outputs are main's
  pub inputs : f.func.n_in ≡ (main_function p).n_in
  pub outputs : f.func.outs ≡ (main_function p).outs
  -- the variables of main keep their numbers and declarations, and the new ones come after them
  pub more : List Decl
  pub declarations : f.func.decls ≡ (main_function p).decls ++ more
  -- every variable of main keeps its stream, whatever the input rows
  pub streams : (rows : List (List Value)) (x : ℕ) → x < length (main_function p).decls → stream_of [] f.func rows x ≡ stream_of p.funcs (main_function p) rows x
  -- the checks pass again
  pub typed : TypedFunction [] f.func
  pub clocked : ClockedFunction [] f.func
  pub causal : Causal f.func
  -- no call, no `->`, and each delay is alone
  pub flat : FlatFunction f.func
  -- a variable of main is its own origin, and each variable has one of main's
  pub each : length f.origin ≡ length f.func.decls
  pub own : (x : ℕ) → x < length (main_function p).decls → slice_index f.origin x ≡ x
  pub arose : All (λ x. x < length (main_function p).decls) f.origin
  -- there are no more variables than the greatest weight
  pub few : length f.func.decls ≤ greatest_weight
  -- with its delays, of which an equation has at most one, it has at most twice as many slots
  pub slots : weight_with (λ _. 0) f.func ≤ 8192
  -- it has at most eight times the greatest number of expression parts
  pub parts : sum_by (λ q. expression_parts q.1) f.func.eqs ≤ 2097152
  -- the declared clocks together have no more pairs than the greatest weight times itself
  pub pairs : sum_by (λ (d : Decl). length d.clock) f.func.decls ≤ 16777216
