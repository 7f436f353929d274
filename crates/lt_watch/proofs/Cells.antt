-- What a monitor tells of the cells of outputs.
use Rattle.std.proofs.Common.{◌≡◌, ◌⊎◌, ℕ, zero, suc, ◌+◌, ◌<◌, ◌≤◌, min, Bool, true, false, List, [], ◌∷◌, ◌++◌, map, length, get_or, take, inl, inr, refl, sym, ap, ap₂, ◌∙◌, subst, arith, length-append, nat_le, leb-true, leb-false, ltb-true, ltb-false}
use Rattle.std.specs.Prelude.{◌↔◌, nat_lt}
use Rattle.std.proofs.lemmas.List.{take_more, length-take-le}
use Rattle.std.proofs.Math.ListN.{get_or-append}
use Rattle.std.proofs.Math.Seq.{get_or-append_seam}
use Rattle.lt_base.specs.declared.value.Cell.{Cell}
use Rattle.lt_base.specs.declared.value.Cell.TheVariants.{Absent}
use Rattle.lt_past.specs.Formula.{Formula, SignalsBelow}
use Rattle.lt_past.specs.Satisfaction.{Signals, Sat, signals_of}
use Rattle.lt_past.proofs.Agreeing.{uses_below, sat_alike}
use Rattle.lt_watch.specs.Judged.{is_true, column, signals_at, values_at, IsShortest}

-- the truth values of the outputs at the instants below n
abbrev pub rows_below : List ℕ → List (List Cell) → ℕ → List (List Bool)
rows_below outs cells zero = []
rows_below outs cells (suc n) = rows_below outs cells n ++ values_at outs cells n ∷ []

pub rows_more : (outs : List ℕ) (cells : List (List Cell)) (n : ℕ) → rows_below outs cells n ++ values_at outs cells n ∷ [] ≡ rows_below outs cells (n + 1)
rows_more outs cells n = let e : suc n ≡ n + 1 = omega arith in ap (rows_below outs cells) e

pub rows_length : (outs : List ℕ) (cells : List (List Cell)) (n : ℕ) → length (rows_below outs cells n) ≡ n
rows_length outs cells zero = refl
rows_length outs cells (suc n) = let h = rows_length outs cells n in let a = length-append (rows_below outs cells n) (values_at outs cells n ∷ []) in omega (arith, h, a)

rows_at : (outs : List ℕ) (cells : List (List Cell)) (n i : ℕ) → i < n → get_or (rows_below outs cells n) i [] ≡ values_at outs cells i
rows_at outs cells zero i h = absurd (omega (arith, h))
rows_at outs cells (suc n) i h =
    let rows = rows_below outs cells n in
    let l = rows_length outs cells n in
    elim (split i n (omega (arith, h))) [
      | inl lt ↦ get_or-append rows (values_at outs cells n ∷ []) [] i (omega (arith, lt, l)) ∙ rows_at outs cells n i lt
      | inr e ↦ ap (λ m. get_or (rows ++ values_at outs cells n ∷ []) m []) (e ∙ sym l) ∙ get_or-append_seam rows (values_at outs cells n) [] [] ∙ ap (values_at outs cells) (sym e)
    ]
  where
    split : (i n : ℕ) → i ≤ n → (i < n) ⊎ (i ≡ n)
    split i zero h = inr (omega (arith, h))
    split zero (suc n) h = inl (omega arith)
    split (suc i) (suc n) h = elim (split i n (omega (arith, h))) [ inl lt ↦ inl (omega (arith, lt)) | inr e ↦ inr (omega (arith, e)) ]

value_is : (outs : List ℕ) (cells : List (List Cell)) (i k : ℕ) → k < length outs → get_or (values_at outs cells i) k false ≡ signals_at outs cells k i
value_is [] cells i k h = absurd (omega (arith, h))
value_is (y ∷ ys) cells i zero h = refl
value_is (y ∷ ys) cells i (suc k) h = value_is ys cells i k (omega (arith, h))

-- a formula over the rows holds where it holds over the cells
pub over_rows : (outs : List ℕ) (cells : List (List Cell)) (f : Formula) → SignalsBelow (length outs) f → (n i : ℕ) → i < n → Sat (signals_of (rows_below outs cells n)) f i ↔ Sat (signals_at outs cells) f i
over_rows outs cells f low n i h =
    sat_alike (λ k. k < length outs) n (signals_of (rows_below outs cells n)) (signals_at outs cells)
    (λ k j lt before. ap (λ row. get_or row k false) (rows_at outs cells n j before) ∙ value_is outs cells j k lt) f (uses_below (length outs) f low) i h

-- the rows and one more
pub over_next : (outs : List ℕ) (cells : List (List Cell)) (f : Formula) → SignalsBelow (length outs) f → (n : ℕ) (now : List Bool) → now ≡ values_at outs cells n → Sat (signals_of (rows_below outs cells n ++ now ∷ [])) f (length (rows_below outs cells n)) ↔ Sat (signals_at outs cells) f n
over_next outs cells f low n now is =
    let lt : n < n + 1 = omega arith in
    let e : rows_below outs cells (n + 1) ≡ rows_below outs cells n ++ now ∷ [] = sym (rows_more outs cells n) ∙ ap (λ z. rows_below outs cells n ++ z ∷ []) (sym is) in
    subst (λ rows. Sat (signals_of rows) f (length (rows_below outs cells n)) ↔ Sat (signals_at outs cells) f n) e
    (subst (λ m. Sat (signals_of (rows_below outs cells (n + 1))) f m ↔ Sat (signals_at outs cells) f n) (sym (rows_length outs cells n)) (over_rows outs cells f low (n + 1) n lt))

-- one more column

module _ (columns : List (List Cell)) (list : List Cell) (n : ℕ) (least : IsShortest columns n) (some : 1 ≤ length columns) where
  abbrev all : List (List Cell)
  all = columns ++ list ∷ []

  sized : length all ≡ length columns + 1
  sized = length-append columns (list ∷ [])

  by_place : (k : ℕ) → k < length all → min n (length list) ≤ length (get_or all k [])
  by_place k h =
      elim (nat_lt k (length columns)) as (λ t. nat_lt k (length columns) ≡ t → min n (length list) ≤ length (get_or all k [])) [
        | true ↦ λ is.
            let low : k < length columns = ltb-true k (length columns) is in
            let e = ap length (get_or-append columns (list ∷ []) [] k low) in
            let b = least.below k low in
            omega (arith, e, b)
        | false ↦ λ is.
            let high : length columns ≤ k = ltb-false k (length columns) is in
            let same : k ≡ length columns = omega (arith, h, sized, high) in
            let e : get_or all k [] ≡ list = ap (λ m. get_or all m []) same ∙ get_or-append_seam columns list [] [] in
            omega (arith, ap length e)
      ] refl

  smallest : (k : ℕ) × (k < length all) × (length (get_or all k []) ≡ min n (length list))
  smallest =
      elim least.reached [
        | inl none ↦ absurd (omega (arith, some, ap length none.0))
        | inr one ↦
            elim (nat_le n (length list)) as (λ t. nat_le n (length list) ≡ t → (k : ℕ) × (k < length all) × (length (get_or all k []) ≡ min n (length list))) [
              | true ↦ λ is.
                  let le : n ≤ length list = leb-true n (length list) is in
                  let e = ap length (get_or-append columns (list ∷ []) [] one.0 one.1) in
                  let k = one.2 in
                  (one.0, omega (arith, one.1, sized), omega (arith, e, k, le))
              | false ↦ λ is.
                  let gt : length list < n = leb-false n (length list) is in
                  let e = ap length (get_or-append_seam columns list [] []) in
                  (length columns, omega (arith, sized), omega (arith, e, gt))
            ] refl
      ]

  pub least_more : IsShortest all (min n (length list))
  least_more = record { below = by_place; reached = inr smallest }

-- one list alone, or none
pub least_start : (columns : List (List Cell)) → IsShortest (take 1 columns) (length (column columns 0))
least_start [] = record { below = λ k h. omega arith; reached = inl (refl, refl) }
least_start (first ∷ rest) = record { below = by; reached = inr (0, omega arith, refl) }
  where
    by : (k : ℕ) → k < length (first ∷ []) → length first ≤ length (get_or (first ∷ []) k [])
    by zero h = omega arith
    by (suc k) h = absurd (omega (arith, h))

-- a list behind others
pub least_next : (columns : List (List Cell)) (k n m : ℕ) → 1 ≤ k → k < length columns → m ≡ min n (length (column columns k)) → IsShortest (take k columns) n → IsShortest (take (k + 1) columns) m
least_next columns k n m some h is least =
    let size : length (take k columns) ≡ k = length-take-le k columns (omega arith) in
    let one = least_more (take k columns) (column columns k) n least (omega (arith, size, some)) in
    subst (λ z. IsShortest z m) (sym (take_more columns k [] h)) (subst (IsShortest (take k columns ++ column columns k ∷ [])) (sym is) one)

mapped_take : (cells : List (List Cell)) (outs : List ℕ) (k : ℕ) → take k (map (column cells) outs) ≡ map (column cells) (take k outs)
mapped_take cells outs zero = refl
mapped_take cells [] (suc k) = refl
mapped_take cells (y ∷ ys) (suc k) = ap (λ z. column cells y ∷ z) (mapped_take cells ys k)

pub mapped_at : (cells : List (List Cell)) (outs : List ℕ) (k : ℕ) → k < length outs → column (map (column cells) outs) k ≡ column cells (get_or outs k 0)
mapped_at cells [] k h = absurd (omega (arith, h))
mapped_at cells (y ∷ ys) zero h = refl
mapped_at cells (y ∷ ys) (suc k) h = mapped_at cells ys k (omega (arith, h))

pub mapped_length : (cells : List (List Cell)) (outs : List ℕ) → length (map (column cells) outs) ≡ length outs
mapped_length cells [] = refl
mapped_length cells (y ∷ ys) = ap suc (mapped_length cells ys)

-- the same of the outputs at some places
pub least_start_at : (cells : List (List Cell)) (outs : List ℕ) → 0 < length outs → IsShortest (map (column cells) (take 1 outs)) (length (column cells (get_or outs 0 0)))
least_start_at cells outs h =
    subst (λ z. IsShortest z (length (column cells (get_or outs 0 0)))) (mapped_take cells outs 1)
    (subst (λ z. IsShortest (take 1 (map (column cells) outs)) (length z)) (mapped_at cells outs 0 h) (least_start (map (column cells) outs)))

pub least_next_at : (cells : List (List Cell)) (outs : List ℕ) (k n m : ℕ) → 1 ≤ k → k < length outs → m ≡ min n (length (column cells (get_or outs k 0))) → IsShortest (map (column cells) (take k outs)) n → IsShortest (map (column cells) (take (k + 1) outs)) m
least_next_at cells outs k n m some h is least =
    let e = ap length (mapped_at cells outs k h) in
    subst (λ z. IsShortest z m) (mapped_take cells outs (k + 1))
    (least_next (map (column cells) outs) k n m some (omega (arith, h, mapped_length cells outs)) (is ∙ ap (min n) (sym e)) (subst (λ z. IsShortest z n) (sym (mapped_take cells outs k)) least))

-- a row of the values
pub same_values : (outs : List ℕ) (cells : List (List Cell)) (i : ℕ) (row : List Bool) → length row ≡ length outs → ((j : ℕ) → j < length outs → get_or row j false ≡ get_or (values_at outs cells i) j false) → row ≡ values_at outs cells i
same_values [] cells i [] l h = refl
same_values [] cells i (b ∷ bs) l h = absurd (omega (arith, l))
same_values (y ∷ ys) cells i [] l h = absurd (omega (arith, l))
same_values (y ∷ ys) cells i (b ∷ bs) l h = ap₂ (λ c cs. c ∷ cs) (h 0 (omega arith)) (same_values ys cells i bs (omega (arith, l)) (λ j low. h (suc j) (omega (arith, low))))
