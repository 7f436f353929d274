-- One event more over links that lose messages.
use Rattle.std.proofs.Common.{◌≡◌, ◌≢◌, inl, inr, ℕ, suc, ◌<◌, ◌≤◌, List, [], ◌∷◌, ◌++◌, length, take, Option, Some, None, IsTrue, refl, sym, ap, ◌∙◌, subst, arith, length-append, add-one}
use Rattle.std.specs.Prelude.{slice_index_or}
use Rattle.std.specs.List.{slice_get}
use Rattle.std.proofs.Math.Seq.{take-suc}
use Rattle.std.proofs.lemmas.Bool.Decides.{eqb_tells}
use Rattle.std.proofs.lemmas.Option.{slice_get-get_or}
use Rattle.lt_base.specs.declared.value.Value.{Value}
use Rattle.lt_arch.specs.declared.event.Deed.{Deed}
use Rattle.lt_arch.specs.declared.event.Deed.TheVariants.{Nothing, Execute, Send}
use Rattle.lt_arch.specs.declared.event.Event.TheVariants.{Act, Del, End}
use Rattle.lt_arch.specs.State.{State, executed_of}
use Rattle.lt_arch.specs.Readers.{node_count, chan_count}
use Rattle.lt_arch.specs.Deeds.{deed_at, more, all_in, any_in, all_ack}
use Rattle.lt_io.specs.FabricState.{FabricState, KeepsFabric}
use Rattle.lt_lossy.specs.declared.event.LossyEvent.{LossyEvent}
use Rattle.lt_lossy.specs.declared.event.LossyEvent.TheVariants.{Plain, Lose}
use Rattle.lt_lossy.specs.Events.{IsLossyPlacedIn}
use Rattle.lt_lossy.specs.State.{plain_of}
use Rattle.lt_lossy.specs.Schedule.{lossy_reached}
use Rattle.lt_net_bench.proofs.Bits.{leb-le}
use Rattle.lt_net_bench.specs.Own.{PayloadsAreOwn, AreFronts}
use Rattle.lt_net_node.specs.Payloads.{row_at}
use Rattle.lt_net.proofs.ReplayStep.{deed_more}
use Rattle.lt_net_lossy.specs.Net.{LossyBenchState, LossyLists, lossy_state_of}
use Rattle.lt_net_lossy.specs.Event.{RowsGo, LossyGoesOn, lossy_deed_by}
use Rattle.lt_net_lossy.specs.Given.{IsLossyRowFor}
use Rattle.lt_net_lossy.specs.Taken.{HasLossyKinds, IsTakenLossy}
use Rattle.lt_net_lossy.proofs.NextLossy.{next_lossy}
use Rattle.lt_net_lossy.specs.LossyPlays.{lossy_row_for, IsFedLossy, KeepsLossy, SentSoFar, TellsLossy}
use Rattle.lt_net_lossy.proofs.SentOn.{sent_on}
use Rattle.lt_net_lossy.proofs.ToldOn.{tells_on}
use Rattle.lt_net_lossy.proofs.TellsNext.{tells_next}
use Rattle.lt_machine.specs.declared.machine.Machine.{Ghosts as Machines}
use Rattle.lt_arch.specs.declared.controller.Controller.{Ghosts as Controls}

-- a list that is a front, and one row more
abbrev Front : List (List Value) → List (List Value) → Type 0
Front inputs xs = (xs ≡ take (length xs) inputs) × (length xs ≤ length inputs)

one_row : (inputs xs ys : List (List Value)) (r : List Value) → Front inputs xs → ys ≡ xs ++ r ∷ [] → r ≡ row_at inputs (length xs) → length xs < length inputs → Front inputs ys
one_row inputs xs ys r f is at lt =
    let len : length ys ≡ suc (length xs) = ap length is ∙ length-append xs (r ∷ []) ∙ add-one (length xs) in
    (is ∙ (λ i. f.0 i ++ at i ∷ []) ∙ sym (take-suc inputs (length xs) [] lt) ∙ ap (λ k. take k inputs) (sym len), omega (arith, len, lt))

-- the row is the next one of the node
abbrev IsNextRow : List (List Value) → List (List Value) → List Value → Type 0
IsNextRow inputs xs r = (r ≡ row_at inputs (length xs)) × (length xs < length inputs)

rows_fronts : (inputs : List (List Value)) (n : ℕ) (d : Deed) (row : Option (List Value)) (old new : ℕ → List (List Value)) → RowsGo n d row old new → (d ≡ Execute → (r : List Value) → row ≡ Some r → IsNextRow inputs (old n) r) → (i : ℕ) → Front inputs (old i) → Front inputs (new i)
rows_fronts inputs n Nothing row old new go h i f = subst (Front inputs) (sym (go i)) f
rows_fronts inputs n Send row old new go h i f = subst (Front inputs) (sym (go i)) f
rows_fronts inputs n Execute None old new go h i f = absurd go
rows_fronts inputs n Execute (Some r) old new go h i f = elim (eqb_tells i n) [
  | inl e ↦
      let next = h refl r refl in
      subst (λ i. Front inputs (new i)) (sym e.1) (one_row inputs (old n) (new n) r (subst (λ i. Front inputs (old i)) e.1 f) go.there next.0 next.1)
  | inr e ↦ subst (Front inputs) (sym (go.elsewhere i e.1)) f
]

module _ {C M : Type 0} (net : LossyBenchState C M) (ls : LossyLists) (row : Option (List Value)) (payload : List Value) where
  next_fronts : (inputs : List (List Value)) (next : LossyLists) (e : LossyEvent) → LossyGoesOn net ls next e row payload → ((n at : ℕ) → e ≡ Plain (Act n at) → lossy_deed_by net ls e ≡ Execute → (r : List Value) → row ≡ Some r → IsNextRow inputs (ls.inputs n) r) →
      (i : ℕ) → Front inputs (ls.inputs i) → Front inputs (next.inputs i)
  next_fronts inputs next (Plain (Act n at)) goes right i f = rows_fronts inputs n (lossy_deed_by net ls (Plain (Act n at))) row ls.inputs next.inputs goes.inputs (right n at refl) i f
  next_fronts inputs next (Plain (Del ch at)) goes right i f = subst (Front inputs) (sym (goes.inputs i)) f
  next_fronts inputs next (Plain (End at)) goes right i f = subst (Front inputs) (sym (goes.inputs i)) f
  next_fronts inputs next (Lose ch at) goes right i f = subst (Front inputs) (sym (goes.inputs i)) f

module _ {C M : Type 0} (ctl : Controls C) (mch : Machines M) (inputs : List (List Value)) (read : List LossyEvent) (net next_net : LossyBenchState C M) (old new : FabricState)
    (fed : IsFedLossy net inputs) (ls : LossyLists) (kept : KeepsLossy ctl mch inputs read net old ls) (e : LossyEvent) (there : IsLossyPlacedIn net.shape e) (row : Option (List Value)) (row_is : row ≡ lossy_row_for net inputs e) where
  abbrev st : State
  st = plain_of (lossy_state_of net ls)

  -- a node that executes has a row left, which is its next one
  left_over : (n at : ℕ) → e ≡ Plain (Act n at) → lossy_deed_by net ls e ≡ Execute → length (ls.inputs n) < net.rows
  left_over n at is executes =
      let b : n < node_count net.shape = subst (IsLossyPlacedIn net.shape) is there in
      let d : deed_at net.shape net.rows (plain_of (lossy_state_of net ls)) n ≡ Execute = subst (λ x. lossy_deed_by net ls x ≡ Execute) is executes in
      let some : executed_of st n < net.rows = leb-le _ _ (deed_more (st.node n).phase (all_in net.shape st n) (any_in net.shape st n) (all_ack net.shape st n) (more net.rows st n) d) in
      let rows = kept.stood.standing.bench.rows n b in
      omega (arith, some, rows)

  row_there : (n at : ℕ) → e ≡ Plain (Act n at) → length (ls.inputs n) < net.rows → row ≡ Some (row_at inputs (length (ls.inputs n)))
  row_there n at is lt =
      let b : n < node_count net.shape = subst (IsLossyPlacedIn net.shape) is there in
      row_is ∙ ap (lossy_row_for net inputs) is ∙ ap (slice_get inputs) (kept.stood.standing.bench.ran.executed n b) ∙ slice_get-get_or inputs (length (ls.inputs n)) [] (omega (arith, lt, fed.rows))

  has_row : (n at : ℕ) → e ≡ Plain (Act n at) → lossy_deed_by net ls e ≡ Execute → row ≢ None
  has_row n at is executes none = absurd (let q = sym (row_there n at is (left_over n at is executes)) ∙ none in cc)

  right_row : (n at : ℕ) → e ≡ Plain (Act n at) → lossy_deed_by net ls e ≡ Execute → (r : List Value) → row ≡ Some r → IsNextRow inputs (ls.inputs n) r
  right_row n at is executes r given =
      let lt = left_over n at is executes in
      let same : Path (Option (List Value)) (Some r) (Some (row_at inputs (length (ls.inputs n)))) = sym given ∙ row_there n at is lt in
      let is_next : r ≡ row_at inputs (length (ls.inputs n)) = cc same in
      (is_next, omega (arith, lt, fed.rows))

  pub one_more : IsTakenLossy ctl mch net next_net e row old new → HasLossyKinds next_net new → KeepsFabric old new → (next : LossyLists) × KeepsLossy ctl mch inputs (read ++ e ∷ []) next_net new next
  one_more taken kinds keeps =
      let go = next_lossy net ls row taken.payload e (λ n at is executes. has_row n at is (subst (λ x. lossy_deed_by net ls x ≡ Execute) (sym is) executes)) in (
        go.0,
        record {
          stood = taken.goes ls go.0 kept.stood go.1;
          events = (go.1).events ∙ ap (λ es. es ++ e ∷ []) kept.events;
          fronts = subst (λ s. AreFronts s (go.0).inputs inputs) (sym taken.static.shape) (record {
            fronts = λ i b. (next_fronts net ls row taken.payload inputs go.0 e go.1 right_row i (kept.fronts.fronts i b, kept.fronts.within i b)).0;
            within = λ i b. (next_fronts net ls row taken.payload inputs go.0 e go.1 right_row i (kept.fronts.fronts i b, kept.fronts.within i b)).1;
          });
          kinds = kinds;
          own = λ faithful.
              let before : IsTrue old.faithful = subst IsTrue keeps.faithful faithful in
              subst (λ l. PayloadsAreOwn l next_net.shape (go.0).inputs (go.0).got) (sym taken.static.layout)
              (subst (λ s. PayloadsAreOwn net.layout s (go.0).inputs (go.0).got) (sym taken.static.shape) (taken.own before ls go.0 kept.stood go.1 (kept.own before)));
          tells = λ told.
              let before : IsTrue old.told = subst IsTrue keeps.told told in
              let same = taken.static in
              let stood = (taken.goes ls go.0 kept.stood go.1).standing.bench in
              let messages : (c : ℕ) → c < chan_count net.shape → length ((go.0).got c) ≡ ((lossy_state_of net go.0).link c).newest =
              λ c lt. stood.messages c (subst (λ s. c < chan_count s) (sym same.shape) lt) ∙ (λ i. ((lossy_reached (same.shape i) (same.timing i) (same.rows i) (go.0).events).link c).newest) in
              let carried = taken.carried ls go.0 kept.stood go.1 in
              let tells = kept.tells before in
              subst (λ s. TellsLossy s next_net.timing next_net.rows go.0 new) (sym same.shape)
              (subst (λ t. TellsLossy net.shape t next_net.rows go.0 new) (sym same.timing)
              (subst (λ k. TellsLossy net.shape net.timing k go.0 new) (sym same.rows)
              (tells_next ctl mch net next_net ls go.0 old new fed.fixed kept.stood before tells
              (tells_on ctl mch net next_net ls go.0 old new fed.fixed kept.stood before tells.each e row taken.payload there go.1 carried) messages e row taken.payload there go.1 carried)));
          sent = λ told.
              let same = taken.static in
              subst (λ l. SentSoFar l next_net.shape next_net.timing next_net.rows go.0 new) (sym same.layout)
              (subst (λ s. SentSoFar net.layout s next_net.timing next_net.rows go.0 new) (sym same.shape)
              (subst (λ t. SentSoFar net.layout net.shape t next_net.rows go.0 new) (sym same.timing)
              (subst (λ k. SentSoFar net.layout net.shape net.timing k go.0 new) (sym same.rows)
              (sent_on ctl mch net next_net ls go.0 old new fed.fixed same (taken.goes ls go.0 kept.stood go.1).standing (taken.stays ls go.0 kept.stood go.1)
              (subst IsTrue keeps.told told) (kept.sent (subst IsTrue keeps.told told)) e row taken.payload there go.1 (taken.carried ls go.0 kept.stood go.1)))));
        },
      )

-- each activation has its row
pub row_fits : {C M : Type 0} (net : LossyBenchState C M) (inputs : List (List Value)) → IsFedLossy net inputs → (e : LossyEvent) → IsLossyPlacedIn net.shape e → (row : Option (List Value)) → row ≡ lossy_row_for net inputs e → IsLossyRowFor net e row
row_fits net inputs fed (Plain (Act n at)) there row is = λ more.
    let lt : slice_index_or net.executed n 0 < length inputs = omega (arith, more, fed.rows) in
    (row_at inputs (slice_index_or net.executed n 0), is ∙ slice_get-get_or inputs (slice_index_or net.executed n 0) [] lt, fed.fit n (slice_index_or net.executed n 0) there lt)
row_fits net inputs fed (Plain (Del c at)) there row is = tt
row_fits net inputs fed (Plain (End at)) there row is = tt
row_fits net inputs fed (Lose c at) there row is = tt
