-- Columns of cells, one more cell at a time.
use Rattle.std.proofs.Common.{◌≡◌, ◌≢◌, ℕ, zero, suc, ◌+◌, ◌<◌, ◌≤◌, ◌⊎◌, inl, inr, List, [], ◌∷◌, ◌++◌, length, map, take, set, get_or, Option, Some, refl, sym, ap, ◌∙◌, arith, get_or-set_other, get_or-set_same}
use Rattle.std.specs.Prelude.{slice_get}
use Rattle.std.proofs.lemmas.List.{length-set}
use Rattle.std.proofs.lemmas.Option.{get_or_from_slice_get}
use Rattle.lt_base.specs.declared.value.Value.{Value}
use Rattle.lt_base.specs.declared.value.Cell.{Cell}
use Rattle.lt_meaning.proofs.Running.{nat_same}
use Rattle.lt_meaning.proofs.Instant.{set_same, set_other, at_index}

-- the first i columns have these cells more
pub record Put (more : ℕ → List Cell) (old new : List (List Cell)) (i : ℕ) : Type 0 where
  pub size : length new ≡ length old
  pub put : (x : ℕ) → x < i → get_or new x [] ≡ get_or old x [] ++ more x
  pub rest : (x : ℕ) → i ≤ x → get_or new x [] ≡ get_or old x []

-- one more column has
pub put_next : (more : ℕ → List Cell) (old new : List (List Cell)) (i : ℕ) (column column' : List Cell) → Put more old new i → i < length new → column ≡ get_or new i column → column' ≡ column ++ more i → Put more old (set new i column') (i + 1)
put_next more old new i column column' s room at is =
    let here : get_or new i [] ≡ column = get_or_from_slice_get new i column [] (at_index new i column room at) in
    record {
      size = length-set new i column' ∙ s.size;
      put = λ x l.
          let go : (x ≡ i) ⊎ (x ≢ i) → get_or (set new i column') x [] ≡ get_or old x [] ++ more x =
          elim [
            | inl e ↦
                ap (λ x. get_or (set new i column') x []) e ∙ get_or-set_same new i column' [] room ∙ is ∙ ap (λ c. c ++ more i) (sym here ∙ s.rest i (omega arith))
                ∙ ap (λ x. get_or old x [] ++ more x) (sym e)
            | inr n ↦ get_or-set_other new i x column' [] n ∙ s.put x (omega (arith, n))
          ] in
          go (nat_same x i);
      rest = λ x l. get_or-set_other new i x column' [] (λ e. absurd (omega (arith, e, l))) ∙ s.rest x (omega arith);
    }

pub empty_next : (columns : List (List Cell)) (column : List Cell) → ((x : ℕ) → get_or columns x [] ≡ []) → column ≡ [] → (x : ℕ) → get_or (columns ++ column ∷ []) x [] ≡ []
empty_next [] column h e zero = e
empty_next [] column h e (suc x) = refl
empty_next (c ∷ columns) column h e zero = h 0
empty_next (c ∷ columns) column h e (suc x) = empty_next columns column (λ y. h (suc y)) e x

-- one more number in a list
pub numbers_next : (g : ℕ → ℕ) (xs : List ℕ) (v : ℕ) → ((y : ℕ) → y < length xs → get_or xs y 0 ≡ g y) → v ≡ g (length xs) → (y : ℕ) → y < length xs + 1 → get_or (xs ++ v ∷ []) y 0 ≡ g y
numbers_next g [] v h is zero l = is
numbers_next g [] v h is (suc y) l = absurd (omega (arith, l))
numbers_next g (x ∷ xs) v h is zero l = h 0 (omega arith)
numbers_next g (x ∷ xs) v h is (suc y) l = numbers_next (λ k. g (suc k)) xs v (λ k m. h (suc k) (omega (arith, m))) is y (omega (arith, l))

-- columns that have by place what a function gives
pub columns_by_place : (h : ℕ → List Cell) (xs : List ℕ) (columns : List (List Cell)) → length columns ≡ length xs → ((i : ℕ) → i < length xs → get_or columns i [] ≡ h (get_or xs i 0)) → columns ≡ map h xs
columns_by_place h [] [] n e = refl
columns_by_place h [] (c ∷ columns) n e = absurd (omega (arith, n))
columns_by_place h (x ∷ xs) [] n e = absurd (omega (arith, n))
columns_by_place h (x ∷ xs) (c ∷ columns) n e =
    let first : c ≡ h x = e 0 (omega arith) in
    let rest = columns_by_place h xs columns (omega (arith, n)) (λ i l. e (suc i) (omega (arith, l))) in
    λ i. first i ∷ rest i

-- ---- a row that is put into the first cells

pub row_next : (cells : List (Option Value)) (i : ℕ) (v : Option Value) (row : ℕ → Option Value) → ((x : ℕ) → x < i → slice_get cells x ≡ Some (row x)) → i < length cells → row i ≡ v → (x : ℕ) → x < i + 1 → slice_get (set cells i v) x ≡ Some (row x)
row_next cells i v row h room e x l =
    let go : (x ≡ i) ⊎ (x ≢ i) → slice_get (set cells i v) x ≡ Some (row x) =
    elim [
      | inl p ↦ ap (slice_get (set cells i v)) p ∙ set_same cells i v room ∙ ap Some (sym e ∙ ap row (sym p))
      | inr n ↦ set_other cells i x v n ∙ h x (omega (arith, n))
    ] in
    go (nat_same x i)

pub row_filled : (cells : List (Option Value)) (row : List Value) → ((x : ℕ) → x < length row → slice_get cells x ≡ Some (slice_get row x)) → take (length row) cells ≡ map Some row
row_filled cells [] h = refl
row_filled [] (v ∷ row) h = let e = h 0 (omega arith) in absurd (cc)
row_filled (c ∷ cells) (v ∷ row) h =
    let e : c ≡ Some v = let p = h 0 (omega arith) in cc in
    let r = row_filled cells row (λ x l. h (suc x) (omega arith)) in
    λ i. e i ∷ r i
