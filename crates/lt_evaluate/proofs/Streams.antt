-- What is printed of the outputs' streams, and that they are those of the flat form.
use Rattle.std.proofs.Common.{◌≡◌, ◌∙◌, ◌<◌, List, [], Result, Ok, Err, length, map, get_or, sym, ap, arith}
use Rattle.std.specs.Prelude.{IfOk}
use Rattle.std.proofs.lemmas.List.{ext_get_or, get_or-map, length-map}
use Rattle.lt_base.specs.declared.value.Value.{Value}
use Rattle.lt_base.specs.declared.value.Cell.{Cell}
use Rattle.lt_base.specs.Program.{Function, GoodProgram, WholeProgram}
use Rattle.lt_base.specs.Meaning.{stream_of}
use Rattle.lt_norm.specs.Flat.{Originated}
use Rattle.lt_front.specs.Flattened.{KeepsMain}
use Rattle.lt_base.specs.Main.{streams_at, HasOutputStreams}
use Rattle.lt_load_fit.specs.Main.{main_in}
use Rattle.lt_load.proofs.Flattens.{flat_stream, main_good, outputs_same}
use Rattle.lt_load.proofs.Mains.{has_main, of_main}
use Rattle.lt_evaluate.specs.declared.outputs.Outputs.{Outputs}
use Rattle.lt_evaluate.specs.Columns.{HasColumns}
use Rattle.lt_evaluate.specs.Main.{written_name, output_streams}
use Rattle.lt_evaluate.specs.Meaning.{PrintsOutputs}

pub streams_are : (p : WholeProgram) (rows : List (List Value)) (streams : List (List Cell)) → HasOutputStreams p rows streams → streams ≡ output_streams p rows
streams_are p rows streams has = of_main (λ f. streams ≡ streams_at p.funcs f rows f.outs) p has

module _ (p : WholeProgram) (rows : List (List Value)) (main : Function) (is : main ≡ main_in p) where
  -- a column for each output
  pub whole_width : (streams : List (List Cell)) → HasOutputStreams p rows streams → length streams ≡ length main.outs
  whole_width streams has = ap length (streams_are p rows streams has) ∙ length-map (main_in p).outs (stream_of p.funcs (main_in p) rows) ∙ sym (ap (λ (f : Function). length f.outs) is)

  -- the names of the outputs, and these cells
  prints_these : (wanted cells : List (List Cell)) → cells ≡ wanted → (outputs : Outputs) → outputs.names ≡ map (written_name main) main.outs → outputs.cells ≡ cells → PrintsOutputs p wanted outputs
  prints_these wanted cells are outputs names shown = record { names = names ∙ ap (λ (f : Function). map (written_name f) f.outs) is; cells_are = shown ∙ are }

  -- wherever there are outputs
  pub prints_if : {E : Type 0} (wanted cells : List (List Cell)) → cells ≡ wanted → (r : Result Outputs E) → IfOk r (λ outputs. outputs.names ≡ map (written_name main) main.outs) → IfOk r (λ outputs. outputs.cells ≡ cells)
      → IfOk r (PrintsOutputs p wanted)
  prints_if wanted cells are (Ok outputs) names shown = prints_these wanted cells are outputs names shown
  prints_if wanted cells are (Err e) names shown = tt

-- the columns of a flat form's outputs are the streams of the program's

module _ (p : WholeProgram) (good : GoodProgram p) (flat : Originated) (keeps : KeepsMain p flat) (rows : List (List Value)) where
  same_columns : map (stream_of [] flat.func rows) flat.func.outs ≡ output_streams p rows
  same_columns =
      let main = main_in p in
      let here = stream_of [] flat.func rows in
      let there = stream_of p.funcs main rows in
      ap (map here) (outputs_same p good flat keeps)
      ∙ ext_get_or [] (map here main.outs) (map there main.outs) (length-map main.outs here ∙ sym (length-map main.outs there)) (λ i low.
      let number = length-map main.outs here in
      let inside : i < length main.outs = omega (arith, low, number) in
      get_or-map here main.outs i 0 [] inside ∙ flat_stream p good flat keeps rows (get_or main.outs i 0) ((main_good p good).outs i 0 inside) ∙ sym (get_or-map there main.outs i 0 [] inside))

  pub main_streams : (columns : List (List Cell)) → HasColumns flat.func rows columns → HasOutputStreams p rows columns
  main_streams columns are = has_main (λ f. columns ≡ streams_at p.funcs f rows f.outs) p good.main (are ∙ same_columns)
