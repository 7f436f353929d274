-- What is drawn solid is what the run printed, and all streams end together.
use Rattle.std.proofs.Common.{◌≡◌, ◌∙◌, ◌<◌, ℕ, zero, suc, List, [], ◌∷◌, map, length, take, Some, IsTrue, refl, sym, ap, subst, arith}
use Rattle.std.specs.Prelude.{slice_get, slice_index_or}
use Rattle.std.proofs.lemmas.List.{get_or-map}
use Rattle.lt_base.specs.declared.value.Cell.{Cell}
use Rattle.lt_base.specs.declared.value.Value.{Value}
use Rattle.lt_base.specs.Program.{WholeProgram}
use Rattle.lt_base.specs.Meaning.{stream_of}
use Rattle.lt_base.proofs.Streams.{stream_length}
use Rattle.lt_arch.specs.declared.shape.Shape.{Shape}
use Rattle.lt_io.specs.FabricState.{FabricState}
use Rattle.lt_place.specs.declared.layout.Layout.{Layout}
use Rattle.lt_plot.specs.declared.plot.Row.{Row}
use Rattle.lt_load_fit.specs.Main.{main_in}
use Rattle.lt_evaluate.specs.Main.{output_streams}
use Rattle.lt_run.specs.Printed.{AreShown}
use Rattle.lt_run.specs.Run.{OutputsShow, run_along_verdict}
use Rattle.lt_run.proofs.Reading.{has_read}
use Rattle.lt_plotting.specs.Picture.{output_row, output_rows}
use Rattle.lt_plotting.specs.Laws.{SolidIsPromised, StreamsEndTogether}
use Rattle.lt_plotting.proofs.Places.{placed_at}

front_again : {A : Type 0} (n : ℕ) (xs : List A) → take (length (take n xs)) xs ≡ take n xs
front_again zero xs = refl
front_again (suc n) [] = refl
front_again (suc n) (x ∷ xs) = ap (λ rest. x ∷ rest) (front_again n xs)

-- the column of an output is a beginning of its stream
module _ (p : WholeProgram) (l : Layout) (s : Shape) (inputs : List (List Value)) (fabric : FabricState) (executed : ℕ → ℕ) (got : ℕ → List (List Value)) (least : ℕ → ℕ) (names : List (List ℕ)) (cells : List (List Cell))
    (shown : AreShown p l s inputs fabric executed got least names cells) (faithful : IsTrue fabric.faithful) where
  beginning : (y : ℕ) → y < length (main_in p).outs → take (length (slice_index_or cells y [])) (slice_index_or (output_streams p inputs) y []) ≡ slice_index_or cells y []
  beginning y low =
      let stream = slice_index_or (output_streams p inputs) y [] in
      let inside : y < length l.outs = subst (λ (outs : List ℕ). y < length outs) (sym shown.outputs_are) low in
      let home = shown.home y inside in
      let front : slice_index_or cells y [] ≡ take (executed home.0) stream = shown.whole faithful y home.0 home.2 inside home.1 home.3 in
      ap (λ column. take (length column) stream) front ∙ front_again (executed home.0) stream ∙ sym front

  columns_are : (y : ℕ) → y < length (main_in p).outs → slice_index_or (map (λ column. length column) cells) y 0 ≡ length (slice_index_or cells y [])
  columns_are y low =
      let outs : length l.outs ≡ length (main_in p).outs = ap (λ (os : List ℕ). length os) shown.outputs_are in
      let here : y < length cells = omega (arith, low, outs, shown.columns) in
      get_or-map (λ column. length column) cells y [] 0 here

  solid : (y : ℕ) (row : Row) → slice_get (output_rows (main_in p) (output_streams p inputs) (map (λ column. length column) cells)) y ≡ Some row → take row.printed row.cells ≡ slice_index_or cells y []
  unfolding output_row
  solid y row is =
      let main = main_in p in
      let made : ℕ → Row = λ place. output_row main place (slice_index_or (output_streams p inputs) place []) (slice_index_or (map (λ column. length column) cells) place 0) in
      let at = placed_at made (length main.outs) y row is in
      ap (λ (r : Row). take r.printed r.cells) at.1 ∙ ap (λ n. take n (slice_index_or (output_streams p inputs) y [])) (columns_are y at.0) ∙ beginning y at.0

-- each stream has a cell for each row of inputs
pub together_law : StreamsEndTogether
unfolding output_row
together_law p inputs lengths y row is =
    let main = main_in p in
    let made : ℕ → Row = λ place. output_row main place (slice_index_or (output_streams p inputs) place []) (slice_index_or lengths place 0) in
    let at = placed_at made (length main.outs) y row is in
    ap (λ (r : Row). length r.cells) at.1 ∙ ap length (get_or-map (stream_of p.funcs main inputs) main.outs y 0 [] at.0) ∙ stream_length p.funcs main (slice_index_or main.outs y 0) inputs

-- and the first cells are what was printed
pub solid_law : SolidIsPromised
unfolding run_along_verdict
solid_law plan schedule outputs right y row is =
    let fabric = right.0 in
    let placed = right.2 in
    let p = plan.checked.program in
    let inputs = plan.inputs.rows in
    let read = has_read plan.setup.pace (OutputsShow p placed.0 placed.1 plan.setup.timing plan.setup.pace inputs fabric) placed.1 plan.setup.timing (length inputs) schedule outputs placed.3 in
    solid p placed.0 placed.1 inputs fabric _ _ _ outputs.names outputs.cells read.at_end.told.shown right.1 y row is
