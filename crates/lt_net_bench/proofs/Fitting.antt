-- Rows that fit the inputs of `main` fit every part.
use Rattle.std.proofs.Common.{◌≡◌, ℕ, zero, suc, ◌<◌, ◌≤◌, List, [], ◌∷◌, length, map, take, Some, false, sym, ap, ◌∙◌, arith}
use Rattle.std.specs.Prelude.{slice_index_or}
use Rattle.std.specs.List.{slice_get}
use Rattle.lt_base.specs.declared.value.Ty.{Ty}
use Rattle.lt_base.specs.declared.value.Value.{Value}
use Rattle.lt_base.specs.declared.value.Value.TheVariants.{Bool as Truth}
use Rattle.lt_base.specs.declared.function.Decl.{Decl}
use Rattle.lt_base.specs.Value.{ty_of}
use Rattle.lt_base.specs.Program.{Function, GoodFunction}
use Rattle.lt_base.specs.Typing.{ty_at, input_types, RowFits, AllFit}
use Rattle.lt_base.specs.Behaviour.{RowsFit}
use Rattle.lt_base.proofs.Lookups.{is_input}
use Rattle.lt_norm.specs.Flat.{Originated}
use Rattle.lt_place.specs.declared.layout.Feed.TheVariants.{Input}
use Rattle.lt_place.specs.declared.layout.Layout.{Layout}
use Rattle.lt_place.specs.Layout.{IsPlaced, part_of}
use Rattle.lt_net_node.specs.Payloads.{row_at}
use Rattle.lt_net_bench.specs.Given.{FitsPart}
use Rattle.lt_net_bench.specs.Whole.{RowsCoverInputs}
use Rattle.lt_net_bench.proofs.LaidOut.{part, at_feed}

-- a row that fits has a value, of its type, for each input
input_fits : (ds : List Decl) (n : ℕ) (row : List Value) → RowFits (map (λ d. d.ty) (take n ds)) (map Some row) → n ≤ length ds → (i : ℕ) → i < n → (i < length row) × (ty_at ds i ≡ Some (ty_of (slice_index_or row i (Truth false))))
input_fits ds zero row h l i b = absurd (omega (arith, b))
input_fits [] (suc n) row h l i b = absurd (omega (arith, l))
input_fits (d ∷ ds) (suc n) [] h l i b = elim h [ ]
input_fits (d ∷ ds) (suc n) (v ∷ row) h l zero b = (omega arith, ap Some (sym h.0))
input_fits (d ∷ ds) (suc n) (v ∷ row) h l (suc i) b =
    let w = input_fits ds n row h.1 (omega (arith, l)) i (omega (arith, b)) in
    (let k = w.0 in omega (arith, k), w.1)

-- each of the rows fits
row_fits : (ts : List Ty) (rows : List (List Value)) → AllFit ts (map (map Some) rows) → (k : ℕ) → k < length rows → RowFits ts (map Some (row_at rows k))
row_fits ts [] h k b = absurd (omega (arith, b))
row_fits ts (row ∷ rows) h zero b = h.0
row_fits ts (row ∷ rows) h (suc k) b = row_fits ts rows h.1 k (omega (arith, b))

-- rows that fit have a value for each input
pub has_inputs : (f : Function) → GoodFunction f → (rows : List (List Value)) → RowsFit f rows → RowsCoverInputs f rows
has_inputs f good rows fit k i b declared none =
    (input_fits f.decls f.n_in (row_at rows k) (row_fits (input_types f) rows fit k b) good.inputs i (is_input f good i declared none)).0

module _ (f : Originated) (l : Layout) (placed : IsPlaced f l) where
  -- an input of `main` that a part is fed with, and its type there
  fed_input : (n x i : ℕ) → n < length l.nodes → slice_get (part_of l n).feeds x ≡ Some (Input i) → (i < f.func.n_in) × (ty_at (part_of l n).flat.func.decls x ≡ ty_at f.func.decls i)
  fed_input n x i b is =
      let at = at_feed f l placed n x (Input i) b is in
      (is_input f.func placed.good i at.1.2 at.1.1, (part f l placed n b).types x at.0 ∙ ap (ty_at f.func.decls) at.1.0)

  pub row_fits_part : (row : List Value) → RowFits (input_types f.func) (map Some row) → (n : ℕ) → n < length l.nodes → FitsPart l n row
  row_fits_part row fit n b = record {
    there = λ x i is. (input_fits f.func.decls f.func.n_in row fit placed.good.inputs i (fed_input n x i b is).0).0;
    typed = λ x i is. let w = fed_input n x i b is in w.1 ∙ (input_fits f.func.decls f.func.n_in row fit placed.good.inputs i w.0).1;
  }

  pub rows_fit_parts : (rows : List (List Value)) → RowsFit f.func rows → (n k : ℕ) → n < length l.nodes → k < length rows → FitsPart l n (row_at rows k)
  rows_fit_parts rows fit n k b c = row_fits_part (row_at rows k) (row_fits (input_types f.func) rows fit k c) n b
