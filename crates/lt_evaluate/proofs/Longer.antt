-- Streams of outputs with one more cell each, and rows that are taken one by one.
use Rattle.std.proofs.Common.{◌≡◌, ◌∙◌, ◌<◌, ◌+◌, ℕ, List, [], ◌∷◌, ◌++◌, length, map, take, get_or, replicate, Some, refl, sym, ap, arith}
use Rattle.std.specs.Prelude.{slice_get}
use Rattle.std.proofs.lemmas.List.{get_or-map, ext_get_or, length-map, take_more}
use Rattle.std.proofs.lemmas.Option.{slice_get-get_or, slice_get_within, get_or_from_slice_get}
use Rattle.lt_base.specs.declared.value.Value.{Value}
use Rattle.lt_base.specs.declared.value.Cell.{Cell}
use Rattle.lt_base.specs.declared.value.Cell.TheVariants.{Absent}
use Rattle.lt_base.specs.Program.{Function}
use Rattle.lt_base.specs.Meaning.{stream_of}
use Rattle.lt_machine.specs.Follows.{Follows}
use Rattle.lt_evaluate.specs.Columns.{HasColumns}

empty_streams : (f : Function) (outs : List ℕ) → replicate (length outs) [] ≡ map (stream_of [] f []) outs
empty_streams f [] = refl
empty_streams f (y ∷ outs) = ap (λ (rest : List (List Cell)). [] ∷ rest) (empty_streams f outs)

-- before the first row all streams are empty
pub no_cells : (f : Function) (n : ℕ) → n ≡ length f.outs → (columns : List (List Cell)) → columns ≡ replicate n [] → HasColumns f [] columns
no_cells f n number columns are = are ∙ ap (λ k. replicate k []) number ∙ empty_streams f f.outs

-- each stream goes on with its cell
pub pushed_streams : (f : Function) (rows : List (List Value)) (row : List Value) (cells : List Cell) (old new : List (List Cell)) →
    Follows f rows row cells → length cells ≡ length f.outs → HasColumns f rows old → length new ≡ length old →
    ((i : ℕ) → i < length cells → get_or new i [] ≡ get_or old i [] ++ get_or cells i Absent ∷ []) → HasColumns f (rows ++ row ∷ []) new
pushed_streams f rows row cells old new follows wide before same pushed =
    let stream = stream_of [] f rows in
    let longer = stream_of [] f (rows ++ row ∷ []) in
    let number : length old ≡ length f.outs = ap length before ∙ length-map f.outs stream in
    let total : length (map longer f.outs) ≡ length f.outs = length-map f.outs longer in
    ext_get_or [] new (map longer f.outs) (same ∙ number ∙ sym total) (λ i l.
    let below : i < length f.outs = omega (arith, l, same, number) in
    let here : i < length cells = omega (arith, below, wide) in
    let y = get_or f.outs i 0 in
    let c = get_or cells i Absent in
    let was : get_or old i [] ≡ stream y = ap (λ cs. get_or cs i []) before ∙ get_or-map stream f.outs i 0 [] below in
    let next : longer y ≡ stream y ++ c ∷ [] = follows i y c (slice_get-get_or f.outs i 0 below) (slice_get-get_or cells i Absent here) in
    pushed i here ∙ ap (λ s. s ++ c ∷ []) was ∙ sym next ∙ sym (get_or-map longer f.outs i 0 [] below))

-- the rows up to this one, and this one
pub next_rows : (rows : List (List Value)) (k : ℕ) (row : List Value) → slice_get rows k ≡ Some row → take (k + 1) rows ≡ take k rows ++ row ∷ []
next_rows rows k row is = take_more rows k [] (slice_get_within rows k row is) ∙ ap (λ r. take k rows ++ r ∷ []) (get_or_from_slice_get rows k row [] is)
