-- What machines have run after a node's next instant.
use Rattle.std.proofs.Common.{◌≡◌, ◌≢◌, ◌⊎◌, inl, inr, ℕ, suc, ◌+◌, ◌<◌, List, [], ◌∷◌, ◌++◌, length, set, Some, sym, ap, ◌∙◌, subst, length-append, add-one}
use Rattle.std.specs.Prelude.{slice_index_or}
use Rattle.std.specs.List.{slice_get}
use Rattle.std.proofs.Math.ListN.{get_or-append}
use Rattle.std.proofs.Math.Seq.{get_or-append_seam}
use Rattle.std.proofs.lemmas.Bool.Decides.{eqb_tells}
use Rattle.std.proofs.lemmas.List.{get_or-set_same, get_or-set_other}
use Rattle.std.proofs.lemmas.Option.{slice_get_within}
use Rattle.lt_base.specs.declared.value.Value.{Value}
use Rattle.lt_base.specs.declared.value.Cell.{Cell}
use Rattle.lt_base.specs.Program.{Function}
use Rattle.lt_base.specs.Meaning.{stream_of}
use Rattle.lt_arch.specs.declared.shape.Shape.{Shape}
use Rattle.lt_arch.specs.Readers.{node_count}
use Rattle.lt_machine.specs.Follows.{Follows}
use Rattle.lt_place.specs.declared.layout.Layout.{Layout}
use Rattle.lt_place.specs.Layout.{PartGives, part_of}
use Rattle.lt_net_bench.specs.Changes.{GrowsByRow}
use Rattle.lt_net_node.specs.Local.{fed_row, firsts, local_stream}
use Rattle.lt_net_node.specs.Payloads.{payloads_between, row_at}
use Rattle.lt_net_bench.specs.Standing.{HasRun}
use Rattle.lt_net_bench.specs.Track.{TrackState, track_at}
use Rattle.lt_net_bench.proofs.Entries.{got_entry}
use Rattle.lt_net_bench.proofs.Firsts.{firsts-same}
use Rattle.lt_machine.specs.declared.machine.Machine.{Ghosts as Machines}

module _ {M : Type 0} (mch : Machines M) (l : Layout) (s : Shape) (ms : List M) (counts : List ℕ) (tracks : List TrackState) (inputs inputs' got : ℕ → List (List Value))
    (ran : HasRun mch l s ms counts tracks inputs got) (n : ℕ) (row : List Value) (takes : GrowsByRow inputs inputs' n row) where
  pub longer : length (inputs' n) ≡ suc (length (inputs n))
  longer = ap length takes.there ∙ length-append (inputs n) (row ∷ []) ∙ add-one (length (inputs n))

  pub earlier_row : (k : ℕ) → k < length (inputs n) → row_at (inputs' n) k ≡ row_at (inputs n) k
  earlier_row k h = ap (λ rs. row_at rs k) takes.there ∙ get_or-append (inputs n) (row ∷ []) [] k h

  pub last_row : row_at (inputs' n) (length (inputs n)) ≡ row
  last_row = ap (λ rs. row_at rs (length (inputs n))) takes.there ∙ get_or-append_seam (inputs n) row [] []

  -- the rows of the acting node's part are one more
  pub rows_more : firsts (λ k. fed_row l (payloads_between s got) n (row_at (inputs' n) k) k) (length (inputs' n)) ≡ firsts (λ k. fed_row l (payloads_between s got) n (row_at (inputs n) k) k) (length (inputs n)) ++ fed_row l (payloads_between s got) n row (length (inputs n)) ∷ []
  rows_more =
      ap (firsts (λ k. fed_row l (payloads_between s got) n (row_at (inputs' n) k) k)) longer
      ∙ (λ i. front i ++ fed_row l (payloads_between s got) n (last_row i) (length (inputs n)) ∷ [])
    where
      front : firsts (λ k. fed_row l (payloads_between s got) n (row_at (inputs' n) k) k) (length (inputs n)) ≡ firsts (λ k. fed_row l (payloads_between s got) n (row_at (inputs n) k) k) (length (inputs n))
      front = firsts-same _ _ (length (inputs n)) (λ k h. ap (λ r. fed_row l (payloads_between s got) n r k) (earlier_row k h))

  pub rows_other : (i : ℕ) → i ≢ n → firsts (λ k. fed_row l (payloads_between s got) i (row_at (inputs i) k) k) (length (inputs i)) ≡ firsts (λ k. fed_row l (payloads_between s got) i (row_at (inputs' i) k) k) (length (inputs' i))
  rows_other i ne = let e = takes.elsewhere i ne in λ j. firsts (λ k. fed_row l (payloads_between s got) i (row_at (sym e j) k) k) (length (sym e j))

  -- the machine's step on the fed row
  module _ (m0 m1 : M) (at_machine : slice_get ms n ≡ Some m0) (ins : List Value) (ins_is : ins ≡ fed_row l (payloads_between s got) n row (length (inputs n))) (outs : List Cell)
      (steps : (f : Function) (rows : List (List Value)) → mch.stands m0 f rows → mch.stands m1 f (rows ++ ins ∷ []))
      (follows : (f : Function) (rows : List (List Value)) → mch.stands m0 f rows → Follows f rows ins outs) where
    -- the machine stands for them
    new_machine : mch.stands m1 (part_of l n).flat.func (firsts (λ k. fed_row l (payloads_between s got) n (row_at (inputs' n) k) k) (length (inputs' n)))
    new_machine =
        subst (λ rs. mch.stands m1 (part_of l n).flat.func rs) (ap (λ r. firsts (λ k. fed_row l (payloads_between s got) n (row_at (inputs n) k) k) (length (inputs n)) ++ r ∷ []) ins_is ∙ sym rows_more)
        (steps (part_of l n).flat.func _ (ran.machines n m0 at_machine))

    -- and so do the cells of each of its outputs
    new_cells : n < length l.nodes → (y x : ℕ) (c : Cell) → y < length l.outs → (gives : PartGives (part_of l n) (slice_index_or l.outs y 0) x) → slice_get outs gives.place ≡ Some c →
        (track_at tracks y).cells ++ c ∷ [] ≡ local_stream l (payloads_between s got) n (row_at (inputs' n)) (length (inputs' n)) x
    new_cells nb y x c yb gives at_out =
        let f = (part_of l n).flat.func in
        let before = firsts (λ k. fed_row l (payloads_between s got) n (row_at (inputs n) k) k) (length (inputs n)) in
        ap (λ cs. cs ++ c ∷ []) (ran.cells y n x yb nb gives)
        ∙ sym ((follows f before (ran.machines n m0 at_machine)) gives.place x c gives.own at_out)
        ∙ ap (λ rs. stream_of [] f rs x) (ap (λ r. before ++ r ∷ []) ins_is ∙ sym rows_more)

    module _ (made1 : mch.made m1 ≡ mch.made m0 + 1) (nb : n < node_count s) (nl : n < length l.nodes) (es : List ℕ) (counts_are : es ≡ set counts n (slice_index_or counts n 0 + 1)) (counted : n < length counts)
        -- its cells appended
        (tracks' : List TrackState) (appends : (y i x : ℕ) → y < length l.outs → i < length l.nodes → (gives : PartGives (part_of l i) (slice_index_or l.outs y 0) x) →
        ((i ≡ n) × (c : Cell) × (slice_get outs gives.place ≡ Some c) × ((track_at tracks' y).cells ≡ (track_at tracks y).cells ++ c ∷ [])) ⊎ (i ≢ n) × ((track_at tracks' y).cells ≡ (track_at tracks y).cells)) where
      here : (y i x : ℕ) → y < length l.outs → (gives : PartGives (part_of l i) (slice_index_or l.outs y 0) x) → i ≡ n → (c : Cell) → slice_get outs gives.place ≡ Some c →
          (track_at tracks y).cells ++ c ∷ [] ≡ local_stream l (payloads_between s got) i (row_at (inputs' i)) (length (inputs' i)) x
      here y i x yb gives is c at_out =
          let moved : PartGives (part_of l n) (slice_index_or l.outs y 0) x = record { place = gives.place; out = ap (λ j. slice_get (part_of l j).outs gives.place) (sym is) ∙ gives.out; own = ap (λ j. slice_get (part_of l j).flat.func.outs gives.place) (sym is) ∙ gives.own } in
          new_cells nl y x c yb moved at_out
          ∙ ap (λ j. local_stream l (payloads_between s got) j (row_at (inputs' j)) (length (inputs' j)) x) (sym is)

      pub run_next : HasRun mch l s (set ms n m1) es tracks' inputs' got
      run_next = record {
        executed = λ i h. ap (λ xs. slice_index_or xs i 0) counts_are ∙ elim (eqb_tells i n) [
          | inl e ↦ subst (λ i. slice_index_or (set counts n (slice_index_or counts n 0 + 1)) i 0 ≡ length (inputs' i)) (sym e.1)
              (get_or-set_same counts n _ 0 counted ∙ ap (λ x. x + 1) (ran.executed n nb) ∙ add-one _ ∙ sym longer)
          | inr e ↦ get_or-set_other counts n i _ 0 e.1 ∙ ran.executed i h ∙ ap length (sym (takes.elsewhere i e.1))
        ];
        machines = λ i m h. elim (got_entry ms n i m1 m (slice_get_within ms n m0 at_machine) h) [
          | inl e ↦ subst (λ z. mch.stands z (part_of l i).flat.func (firsts (λ k. fed_row l (payloads_between s got) i (row_at (inputs' i) k) k) (length (inputs' i)))) (sym e.1)
              (subst (λ i. mch.stands m1 (part_of l i).flat.func (firsts (λ k. fed_row l (payloads_between s got) i (row_at (inputs' i) k) k) (length (inputs' i)))) (sym e.0) new_machine)
          | inr e ↦ subst (λ rs. mch.stands m (part_of l i).flat.func rs) (rows_other i e.0) (ran.machines i m e.1)
        ];
        steps_made = λ i m h. elim (got_entry ms n i m1 m (slice_get_within ms n m0 at_machine) h) [
          | inl e ↦ ap mch.made e.1 ∙ made1 ∙ ap (λ x. x + 1) (ran.steps_made n m0 at_machine) ∙ add-one _ ∙ sym longer ∙ ap (λ j. length (inputs' j)) (sym e.0)
          | inr e ↦ ran.steps_made i m e.1 ∙ ap length (sym (takes.elsewhere i e.0))
        ];
        cells = λ y i x yb ib gives. elim (appends y i x yb ib gives) [
          | inl e ↦ e.3 ∙ here y i x yb gives (e.0) (e.1) (e.2)
          | inr e ↦ e.1 ∙ ran.cells y i x yb ib gives ∙ ap (λ rs. stream_of [] (part_of l i).flat.func rs x) (rows_other i e.0)
        ];
      }
