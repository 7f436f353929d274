-- Lists with one event more.
use Rattle.std.proofs.Common.{◌≡◌, ◌≢◌, ℕ, ◌-◌, ◌<◌, Bool, true, false, List, [], ◌∷◌, ◌++◌, length, set, Option, Some, None, refl, sym, ap, ◌∙◌, subst, arith}
use Rattle.std.specs.Prelude.{slice_index_or}
use Rattle.lt_base.specs.declared.value.Value.{Value}
use Rattle.lt_arch.specs.declared.event.Deed.{Deed}
use Rattle.lt_arch.specs.declared.event.Deed.TheVariants.{Nothing, Execute, Send}
use Rattle.lt_arch.specs.declared.event.Event.TheVariants.{Act, Del, End}
use Rattle.lt_arch.specs.Deeds.{deed_at, more, all_in, any_in, all_ack}
use Rattle.lt_arch.specs.Readers.{node_count, chan_count}
use Rattle.lt_arch.specs.State.{executed_of}
use Rattle.lt_arch.specs.Step.{updated}
use Rattle.lt_arch.proofs.Changes.{updated-here, updated-other}
use Rattle.lt_io.specs.FabricState.{FabricState}
use Rattle.lt_lossy.specs.declared.event.LossyEvent.{LossyEvent}
use Rattle.lt_lossy.specs.declared.event.LossyEvent.TheVariants.{Plain, Lose}
use Rattle.lt_lossy.specs.Events.{IsLossyPlacedIn}
use Rattle.lt_lossy.specs.State.{plain_of}
use Rattle.lt_net_node.specs.Payloads.{types_for}
use Rattle.lt_net_bench.proofs.Bits.{leb-le}
use Rattle.lt_net.proofs.ReplayStep.{deed_more}
use Rattle.lt_net_lossy.specs.Net.{LossyBenchState, LossyLists, lossy_state_of}
use Rattle.lt_net_lossy.specs.Stands.{StandsLossy}
use Rattle.lt_net_lossy.specs.Event.{RowsGo, GetsBy, LossyGoesOn, brings_new, is_unread}
use Rattle.lt_net_lossy.specs.Given.{HasLossyRow, IsLossyRowFor}
use Rattle.lt_net_lossy.specs.Taken.{LossyHeld, HasLossyKinds, SameLossyStatic, IsTakenLossy}
use Rattle.lt_machine.specs.declared.machine.Machine.{Ghosts as Machines}
use Rattle.lt_arch.specs.declared.controller.Controller.{Ghosts as Controls}

grow_rows : (n : ℕ) (d : Deed) (row : Option (List Value)) (old : ℕ → List (List Value)) → (d ≡ Execute → row ≢ None) → (new : ℕ → List (List Value)) × RowsGo n d row old new
grow_rows n Nothing row old h = (old, λ i. refl)
grow_rows n Send row old h = (old, λ i. refl)
grow_rows n Execute None old h = absurd (h refl refl)
grow_rows n Execute (Some r) old h = let v = old n ++ r ∷ [] in (updated old n v, record { there = updated-here old n v n refl; elsewhere = updated-other old n v })

get_by : (b unread : Bool) (old : ℕ → List (List Value)) (ch : ℕ) (payload : List Value) → (new : ℕ → List (List Value)) × GetsBy b unread old new ch payload
get_by true unread old ch payload = let v = old ch ++ payload ∷ [] in (updated old ch v, record { there = updated-here old ch v ch refl; elsewhere = updated-other old ch v })
get_by false true old ch payload = let v = set (old ch) (length (old ch) - 1) payload in (updated old ch v, record { there = updated-here old ch v ch refl; elsewhere = updated-other old ch v })
get_by false false old ch payload = (old, λ c. refl)

module _ {C M : Type 0} (net : LossyBenchState C M) (ls : LossyLists) (row : Option (List Value)) (payload : List Value) where
  -- there are lists with the event's entries
  pub next_lossy : (e : LossyEvent) → ((n at : ℕ) → e ≡ Plain (Act n at) → deed_at net.shape net.rows (plain_of (lossy_state_of net ls)) n ≡ Execute → row ≢ None) → (next : LossyLists) × LossyGoesOn net ls next e row payload
  next_lossy (Plain (Act n at)) h =
      let g = grow_rows n (deed_at net.shape net.rows (plain_of (lossy_state_of net ls)) n) row ls.inputs (h n at refl) in
      (record { events = ls.events ++ Plain (Act n at) ∷ []; inputs = g.0; got = ls.got }, record { events = refl; inputs = g.1; got = λ c. refl })
  next_lossy (Plain (Del ch at)) h =
      let g = get_by (brings_new (lossy_state_of net ls) ch) (is_unread net.shape (lossy_state_of net ls) ch) ls.got ch payload in
      (record { events = ls.events ++ Plain (Del ch at) ∷ []; inputs = ls.inputs; got = g.0 }, record { events = refl; inputs = λ i. refl; got = g.1 })
  next_lossy (Plain (End at)) h = (record { events = ls.events ++ Plain (End at) ∷ []; inputs = ls.inputs; got = ls.got }, record { events = refl; inputs = λ i. refl; got = λ c. refl })
  next_lossy (Lose ch at) h = (record { events = ls.events ++ Lose ch at ∷ []; inputs = ls.inputs; got = ls.got }, record { events = refl; inputs = λ i. refl; got = λ c. refl })

module _ {C M : Type 0} (ctl : Controls C) (mch : Machines M) where
  -- a node that executes has an input row left
  pub rows_left : (net : LossyBenchState C M) (ls : LossyLists) → StandsLossy ctl mch net ls → (n : ℕ) → n < node_count net.shape → deed_at net.shape net.rows (plain_of (lossy_state_of net ls)) n ≡ Execute → slice_index_or net.executed n 0 < net.rows
  rows_left net ls s n nb executes =
      let st = plain_of (lossy_state_of net ls) in
      let left_over : executed_of (plain_of (lossy_state_of net ls)) n < net.rows = leb-le _ _ (deed_more (st.node n).phase (all_in net.shape st n) (any_in net.shape st n) (all_ack net.shape st n) (more net.rows st n) executes) in
      let count = s.bench.ran.executed n nb ∙ s.bench.rows n nb in
      omega (arith, left_over, count)

  some_none : (r : List Value) → Some r ≡ None → ⊥
  some_none r h = absurd (cc)

  pub row_there : (net : LossyBenchState C M) (ls : LossyLists) → StandsLossy ctl mch net ls → (row : Option (List Value)) (n : ℕ) → n < node_count net.shape → HasLossyRow net n row → deed_at net.shape net.rows (plain_of (lossy_state_of net ls)) n ≡ Execute → row ≢ None
  row_there net ls s row n nb given executes none = let g = given (rows_left net ls s n nb executes) in some_none g.0 (sym g.1 ∙ none)

  row_for : (net : LossyBenchState C M) (ls : LossyLists) → StandsLossy ctl mch net ls → (row : Option (List Value)) (e : LossyEvent) → IsLossyPlacedIn net.shape e → IsLossyRowFor net e row →
      (n at : ℕ) → e ≡ Plain (Act n at) → deed_at net.shape net.rows (plain_of (lossy_state_of net ls)) n ≡ Execute → row ≢ None
  row_for net ls s row e placed given n at is executes = row_there net ls s row n (subst (λ x. IsLossyPlacedIn net.shape x) is placed) (subst (λ x. IsLossyRowFor net x row) is given) executes

  -- after an event that was taken the net stands for some lists too
  pub held_next : (old new : LossyBenchState C M) (e : LossyEvent) (row : Option (List Value)) (fabric fabric' : FabricState) → IsLossyPlacedIn old.shape e → IsLossyRowFor old e row → LossyHeld ctl mch old fabric → IsTakenLossy ctl mch old new e row fabric fabric' →
      LossyHeld ctl mch new fabric'
  held_next old new e row fabric fabric' placed given held taken =
      let go = next_lossy old held.0 row taken.payload e (row_for old held.0 held.1.standing row e placed given) in
      (go.0, taken.goes held.0 go.0 held.1 go.1)

-- and the fabric has its kinds
pub kinds_next : {C M : Type 0} (old new : LossyBenchState C M) (fabric fabric' : FabricState) → HasLossyKinds old fabric → SameLossyStatic old new → fabric'.kinds ≡ fabric.kinds → HasLossyKinds new fabric'
kinds_next old new fabric fabric' kinds static same = record {
  count = ap length same ∙ kinds.count ∙ ap chan_count (sym static.shape);
  each = λ c lt. ap (λ ks. slice_index_or ks c []) same ∙ kinds.each c (subst (λ z. c < chan_count z) static.shape lt) ∙ (λ i. types_for (sym static.layout i) (sym static.shape i) c);
}
