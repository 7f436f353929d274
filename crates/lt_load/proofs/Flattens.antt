-- The inputs of a program's flat form, its streams, and how large its step code can get.
use Rattle.std.proofs.Common.{◌≡◌, ◌∙◌, ℕ, zero, suc, ◌<◌, ◌≤◌, List, [], ◌∷◌, ◌++◌, length, map, take, get_or, refl, sym, ap, subst, arith}
use Rattle.std.specs.Prelude.{Some}
use Rattle.std.specs.List.{All}
use Rattle.std.proofs.lemmas.List.{length-map, length-take-le, take-append-le}
use Rattle.std.proofs.lemmas.List.Elements.{All-head, All-tail}
use Rattle.lt_base.specs.declared.value.Ty.{Ty}
use Rattle.lt_base.specs.declared.value.Value.{Value}
use Rattle.lt_base.specs.declared.function.Decl.{Decl}
use Rattle.lt_base.specs.Program.{Function, WholeProgram, GoodFunction, GoodProgram}
use Rattle.lt_base.specs.Inputs.{InputTable}
use Rattle.lt_base.specs.Meaning.{function_of, stream_of}
use Rattle.lt_base.specs.Typing.{RowFits, AllFit, input_types}
use Rattle.lt_base.specs.Behaviour.{RowsFit}
use Rattle.lt_base.specs.Main.{InputsFit, InputsFitMain}
use Rattle.lt_norm.specs.Flat.{Originated}
use Rattle.lt_step.specs.Run.{HasRowValues}
use Rattle.lt_place.specs.Sizes.{HasCodeRoom}
use Rattle.lt_front.specs.Flattened.{main_function, function_or_none, KeepsMain}
use Rattle.lt_front.proofs.Numbered.{few_variables, few_equations, few_slots}
use Rattle.lt_load_fit.specs.Main.{main_in}
use Rattle.lt_load.proofs.Mains.{of_main}

-- the function that is run

function_at : (fs : List Function) (n : ℕ) (d : Function) → n < length fs → function_or_none (function_of fs n) ≡ get_or fs n d
function_at [] n d low = absurd (omega (arith, low))
function_at (f ∷ fs) zero d low = refl
function_at (f ∷ fs) (suc n) d low = function_at fs n d (omega (arith, low))

pub main_is : (p : WholeProgram) → p.main < length p.funcs → main_function p ≡ main_in p
main_is p low = function_at p.funcs p.main _ low

all_at : (P : Function → Type 0) (fs : List Function) (n : ℕ) (d : Function) → n < length fs → All P fs → P (get_or fs n d)
all_at P [] n d low all = absurd (omega (arith, low))
all_at P (f ∷ fs) zero d low all = All-head P f fs all
all_at P (f ∷ fs) (suc n) d low all = all_at P fs n d (omega (arith, low)) (All-tail P f fs all)

pub main_good : (p : WholeProgram) → GoodProgram p → GoodFunction (main_in p)
main_good p good = all_at GoodFunction p.funcs p.main _ good.main good.functions

-- the rows have a value for each input

row_length : (ts : List Ty) (row : List Value) → RowFits ts (map Some row) → length row ≡ length ts
row_length [] [] fits = refl
row_length [] (v ∷ row) fits = absurd fits
row_length (t ∷ ts) [] fits = absurd fits
row_length (t ∷ ts) (v ∷ row) fits = ap suc (row_length ts row fits.1)

rows_wide : (ts : List Ty) (rows : List (List Value)) → AllFit ts (map (map Some) rows) → HasRowValues (length ts) rows
rows_wide ts [] fits = tt
rows_wide ts (row ∷ rows) fits = (row_length ts row fits.0, rows_wide ts rows fits.1)

inputs_number : (f : Function) → GoodFunction f → length (input_types f) ≡ f.n_in
inputs_number f good = length-map (take f.n_in f.decls) (λ (d : Decl). d.ty) ∙ length-take-le f.n_in f.decls good.inputs

module _ (p : WholeProgram) (good : GoodProgram p) (flat : Originated) (keeps : KeepsMain p flat) where
  inputs_same : flat.func.n_in ≡ (main_in p).n_in
  inputs_same = keeps.inputs ∙ ap (λ (f : Function). f.n_in) (main_is p good.main)

  types_same : input_types flat.func ≡ input_types (main_in p)
  types_same =
      let within : (main_in p).n_in ≤ length (main_in p).decls = (main_good p good).inputs in
      let decls : flat.func.decls ≡ (main_in p).decls ++ keeps.more = keeps.declarations ∙ ap (λ (f : Function). f.decls ++ keeps.more) (main_is p good.main) in
      ap (map (λ (d : Decl). d.ty))
      (ap (λ n. take n flat.func.decls) inputs_same ∙ ap (take (main_in p).n_in) decls ∙ take-append-le (main_in p).n_in (main_in p).decls keeps.more within)

  module _ (table : InputTable) (fit : InputsFitMain p table) where
    fits_main : InputsFit (main_in p) table
    fits_main = of_main (λ f. InputsFit f table) p fit

    pub width_is : table.width ≡ flat.func.n_in
    width_is = fits_main.width ∙ sym inputs_same

    pub wide_rows : HasRowValues flat.func.n_in table.rows
    wide_rows = subst (λ n. HasRowValues n table.rows) (inputs_number (main_in p) (main_good p good) ∙ sym inputs_same) (rows_wide (input_types (main_in p)) table.rows fits_main.rows)

    -- the rows fit it
    pub rows_fit : RowsFit flat.func table.rows
    rows_fit = subst (λ ts. AllFit ts (map (map Some) table.rows)) (sym types_same) fits_main.rows

  -- a variable of main has the same stream in it
  pub flat_stream : (rows : List (List Value)) (x : ℕ) → x < length (main_in p).decls → stream_of [] flat.func rows x ≡ stream_of p.funcs (main_in p) rows x
  flat_stream rows x low =
      let is = main_is p good.main in
      keeps.streams rows x (subst (λ (f : Function). x < length f.decls) (sym is) low) ∙ ap (λ (f : Function). stream_of p.funcs f rows x) is

  -- it has main's outputs
  pub outputs_same : flat.func.outs ≡ (main_in p).outs
  outputs_same = keeps.outputs ∙ ap (λ (f : Function). f.outs) (main_is p good.main)

-- step code has room for it
pub code_room : (p : WholeProgram) (flat : Originated) → KeepsMain p flat → HasCodeRoom flat.func
code_room p flat keeps =
    let few = keeps.few in
    let parts = keeps.parts in
    let pairs = keeps.pairs in
    record { variables = few_variables p flat keeps; equations = few_equations p flat keeps; slots = few_slots p flat keeps; size = omega (arith, few, parts, pairs) }
