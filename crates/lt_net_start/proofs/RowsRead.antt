-- A row of inputs that is read value by value.
use Rattle.std.proofs.Common.{◌≡◌, ◌<◌, ◌≤◌, ℕ, zero, suc, pos, List, [], ◌∷◌, length, get_or, Some, sym, ap, ◌∙◌, arith}
use Rattle.std.specs.Prelude.{slice_get}
use Rattle.std.proofs.lemmas.List.{ext_get_or}
use Rattle.std.proofs.lemmas.Option.{slice_get-get_or}
use Rattle.lt_base.specs.declared.value.Value.{Value}
use Rattle.lt_base.specs.declared.value.Value.TheVariants.{Int}
use Rattle.lt_step.specs.Run.{HasRowValues}

row_width : (n : ℕ) (rows : List (List Value)) (k : ℕ) (row : List Value) → HasRowValues n rows → slice_get rows k ≡ Some row → length row ≡ n
row_width n [] k row wide is = absurd (cc is)
row_width n (r ∷ rows) zero row wide is = let same : r ≡ row = cc is in ap length (sym same) ∙ wide.0
row_width n (r ∷ rows) (suc k) row wide is = row_width n rows k row wide.1 is

-- it is the row, once all values are
pub row_all : (n : ℕ) (rows : List (List Value)) (k done : ℕ) (row : List Value) → HasRowValues n rows → k < length rows → length row ≡ n → n ≤ done →
    ((i : ℕ) (d : Value) → i < done → get_or row i d ≡ get_or (get_or rows k []) i d) → slice_get rows k ≡ Some row
row_all n rows k done row wide low size all same =
    let here = slice_get-get_or rows k [] low in
    let width = row_width n rows k (get_or rows k []) wide here in
    here ∙ ap (λ (r : List Value). Some r) (sym (ext_get_or (Int (pos 0)) row (get_or rows k []) (size ∙ sym width) (λ i lt. same i (Int (pos 0)) (omega (arith, lt, size, all)))))
