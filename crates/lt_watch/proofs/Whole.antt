-- What is told of an observer, and which outputs count.
use Rattle.std.proofs.Common.{◌≡◌, ◌∙◌, ◌⊎◌, ℕ, zero, suc, ◌<◌, ◌≤◌, Bool, true, false, List, [], ◌∷◌, ◌++◌, length, map, get_or, cond, inl, inr, refl, sym, ap, subst, arith}
use Rattle.std.specs.Prelude.{◌↔◌, filter, IsTrue, slice_index_or}
use Rattle.std.proofs.lemmas.List.Elements.{filter-append}
use Rattle.lt_base.specs.declared.value.Value.{Value}
use Rattle.lt_base.specs.declared.value.Cell.{Cell}
use Rattle.lt_base.specs.Program.{Function, WholeProgram}
use Rattle.lt_io.specs.FabricState.{FabricState}
use Rattle.lt_past.specs.Satisfaction.{Sat}
use Rattle.lt_past.specs.Observer.{Observing}
use Rattle.lt_past.specs.Naming.{numbers_below, named_outs, is_named}
use Rattle.lt_past.specs.Faults.{IsObserverOf}
use Rattle.lt_past.specs.Grammar.{names}
use Rattle.lt_evaluate.specs.Main.{output_streams}
use Rattle.lt_watch.specs.declared.watched.Watched.{Watched}
use Rattle.lt_watch.specs.declared.watched.Watched.TheVariants.{Holds, Fails}
use Rattle.lt_watch.specs.Judged.{column, counted_columns, signals_at, IsShortest, WatchTells, IsWatched}
use Rattle.lt_watch.specs.Whole.{JudgesObserver, Counts}
use Rattle.lt_watch.proofs.Cells.{mapped_at, mapped_length}

-- what is told, with the number of instants

module _ (o : Observing) (cells : List (List Cell)) where
  -- the instants that count
  pub instants : (told : Watched) → WatchTells o cells told → (n : ℕ) × IsShortest (counted_columns o.outs cells) n × JudgesObserver o cells n told
  instants (Holds n) tells = (n, tells.0, (refl, tells.1))
  instants (Fails i) tells = (tells.0, tells.1, (tells.2, tells.3, tells.4))

  -- the same of lists in which the observer is satisfied at the same instants
  pub judges_alike : (lists : List (List Cell)) (n : ℕ) → ((i : ℕ) → i < n → Sat (signals_at o.outs cells) o.formula i ↔ Sat (signals_at o.outs lists) o.formula i) → (told : Watched) → JudgesObserver o cells n told → JudgesObserver o lists n told
  judges_alike lists n alike (Holds m) told = (told.0, λ j low. (alike j low).0 (told.1 j low))
  judges_alike lists n alike (Fails i) told = (told.0, λ sat. told.1 ((alike i told.0).1 sat), λ j low. (alike j (omega (arith, low, told.0))).0 (told.2 j low))

-- what is told of a run is so of the whole program
pub of_whole : (p : WholeProgram) (rows : List (List Value)) (fabric : FabricState) (o : Observing) (cells : List (List Cell)) (told : Watched) (n : ℕ) → IsWatched p rows fabric o cells told → IsShortest (counted_columns o.outs cells) n → JudgesObserver o cells n told
    → IsTrue fabric.faithful → JudgesObserver o (output_streams p rows) n told
of_whole p rows fabric o cells told n watched least judged faithful = judges_alike o cells (output_streams p rows) n (λ i low. watched.whole faithful n i least low) told judged

-- the outputs that count

-- each of them has as many cells
pub counts_below : (outs : List ℕ) (cells : List (List Cell)) (n : ℕ) → IsShortest (counted_columns outs cells) n → (y : ℕ) → Counts outs (length cells) y → n ≤ length (column cells y)
counts_below [] cells n least y h = least.below y h
counts_below (z ∷ zs) cells n least y h =
    let has : n ≤ length (column (map (column cells) (z ∷ zs)) h.0) = least.below h.0 (omega (arith, h.1, mapped_length cells (z ∷ zs))) in
    subst (λ w. n ≤ length (column cells w)) h.2 (subst (λ c. n ≤ length c) (mapped_at cells (z ∷ zs) h.0 h.1) has)

-- and one of them has no more
pub counts_reached : (outs : List ℕ) (cells : List (List Cell)) (n : ℕ) → IsShortest (counted_columns outs cells) n → ((cells ≡ []) × (n ≡ 0)) ⊎ ((y : ℕ) × Counts outs (length cells) y × (length (column cells y) ≡ n))
counts_reached [] cells n least = elim least.reached [ inl none ↦ inl none | inr one ↦ inr (one.0, one.1, one.2) ]
counts_reached (z ∷ zs) cells n least =
    elim least.reached [
      | inl none ↦ absurd (omega (arith, ap length none.0, mapped_length cells (z ∷ zs)))
      | inr one ↦
          let low : one.0 < length (z ∷ zs) = omega (arith, one.1, mapped_length cells (z ∷ zs)) in
          inr (get_or (z ∷ zs) one.0 0, (one.0, low, refl), sym (ap length (mapped_at cells (z ∷ zs) one.0 low)) ∙ one.2)
    ]

-- the numbers of a list are below n

abbrev AreBelow : ℕ → List ℕ → Type 0
AreBelow n [] = Unit {0}
AreBelow n (x ∷ xs) = (x < n) × AreBelow n xs

below_snoc : (n y : ℕ) (xs : List ℕ) → AreBelow n xs → y < n → AreBelow n (xs ++ y ∷ [])
below_snoc n y [] h low = (low, tt)
below_snoc n y (x ∷ xs) h low = (h.0, below_snoc n y xs h.1 low)

below_more : (n m : ℕ) (xs : List ℕ) → n ≤ m → AreBelow n xs → AreBelow m xs
below_more n m [] le h = tt
below_more n m (x ∷ xs) le h = (omega (arith, h.0, le), below_more n m xs le h.1)

below_at : (n : ℕ) (xs : List ℕ) → AreBelow n xs → (k : ℕ) → k < length xs → get_or xs k 0 < n
below_at n [] h k low = absurd (omega (arith, low))
below_at n (x ∷ xs) h zero low = h.0
below_at n (x ∷ xs) h (suc k) low = below_at n xs h.1 k (omega (arith, low))

nil_end : (xs : List ℕ) → xs ++ [] ≡ xs
nil_end [] = refl
nil_end (x ∷ xs) = ap (λ z. x ∷ z) (nil_end xs)

chosen_below : (p : ℕ → Bool) (n : ℕ) → AreBelow n (filter p (numbers_below n))
chosen_below p zero = tt
chosen_below p (suc n) =
    let h : AreBelow (suc n) (filter p (numbers_below n)) = below_more n (suc n) (filter p (numbers_below n)) (omega arith) (chosen_below p n) in
    subst (AreBelow (suc n)) (sym (filter-append p (numbers_below n) (n ∷ []))) (by (p n) h)
  where
    by : (b : Bool) → AreBelow (suc n) (filter p (numbers_below n)) → AreBelow (suc n) (filter p (numbers_below n) ++ cond b (n ∷ []) [])
    by true h = below_snoc (suc n) n (filter p (numbers_below n)) h (omega arith)
    by false h = subst (AreBelow (suc n)) (sym (nil_end (filter p (numbers_below n)))) h

-- an observer's outputs are ones of the function
pub outputs_low : (limit : ℕ) (main : Function) (bytes : List ℕ) (o : Observing) → IsObserverOf limit main bytes o → (k : ℕ) → k < length o.outs → slice_index_or o.outs k 0 < length main.outs
outputs_low limit main bytes o is k low =
    let all : AreBelow (length main.outs) (named_outs main (names is.form)) = chosen_below (is_named main (names is.form)) (length main.outs) in
    below_at (length main.outs) o.outs (subst (AreBelow (length main.outs)) (sym is.outs_are) all) k low

-- so one that counts is an output
pub counts_low : (outs : List ℕ) (outputs : ℕ) → ((k : ℕ) → k < length outs → slice_index_or outs k 0 < outputs) → (y : ℕ) → Counts outs outputs y → y < outputs
counts_low [] outputs low y h = h
counts_low (z ∷ zs) outputs low y h = subst (λ w. w < outputs) h.2 (low h.0 h.1)
