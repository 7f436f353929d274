-- What was sent on each channel goes on with the lists.
use Rattle.std.proofs.Common.{◌≡◌, inl, inr, ℕ, suc, ◌<◌, ◌≤◌, Bool, true, false, List, [], ◌∷◌, ◌++◌, length, Option, Some, None, IsTrue, refl, sym, ap, ◌∙◌, subst, arith, length-append}
use Rattle.std.specs.Prelude.{◌==◌, nat_lt, slice_index_or, if◌then◌else◌}
use Rattle.std.proofs.lemmas.Bool.{ltb-true}
use Rattle.std.proofs.lemmas.Bool.Decides.{eqb_tells, Decides-eqb}
use Rattle.std.proofs.lemmas.List.{append_assoc, append-nil}
use Rattle.lt_base.specs.declared.value.Value.{Value}
use Rattle.lt_arch.specs.declared.event.Deed.{Deed}
use Rattle.lt_arch.specs.declared.event.Deed.TheVariants.{Nothing, Send, Execute}
use Rattle.lt_arch.specs.declared.event.Event.TheVariants.{Act, Del, End}
use Rattle.lt_arch.specs.declared.shape.Shape.{Shape}
use Rattle.lt_arch.specs.declared.timing.Timing.{Timing}
use Rattle.lt_arch.specs.State.{NodeState}
use Rattle.lt_arch.specs.Readers.{node_count, chan_count, from_of, to_of, carries_data}
use Rattle.lt_io.specs.declared.message.Message.{Message}
use Rattle.lt_io.specs.FabricState.{FabricState}
use Rattle.lt_link.specs.Bits.{bit_of}
use Rattle.lt_place.specs.declared.layout.Layout.{Layout}
use Rattle.lt_lossy.specs.declared.event.LossyEvent.{LossyEvent}
use Rattle.lt_lossy.specs.declared.event.LossyEvent.TheVariants.{Plain, Lose}
use Rattle.lt_lossy.specs.Events.{IsLossyPlacedIn}
use Rattle.lt_lossy.specs.State.{Message as Numbered, LossyState, lossy_start, number_on, sent_count}
use Rattle.lt_lossy.specs.Step.{lossy_after, sends_number}
use Rattle.lt_lossy.specs.Schedule.{lossy_after_all, lossy_reached}
use Rattle.lt_lossy.proofs.Changes.{node-act_here}
use Rattle.lt_net_bench.specs.Standing.{HasOwnValues}
use Rattle.lt_net_bench.proofs.Entries.{and_parts}
use Rattle.lt_net_lossy.specs.Net.{LossyBenchState, LossyLists, lossy_state_of}
use Rattle.lt_net_lossy.specs.Stands.{StandsLossy}
use Rattle.lt_net_lossy.specs.Event.{RowsGo, LossyGoesOn, lossy_deed_by}
use Rattle.lt_net_lossy.specs.Kept.{IsFixedLossy}
use Rattle.lt_net_lossy.specs.Laws.{woken_in}
use Rattle.lt_net_lossy.specs.Holds.{OwnOf, AreSent, SendsLossy, lossy_message, with_one}
use Rattle.lt_net_lossy.specs.Taken.{SameLossyStatic, CarriedLossy, OwnStays}
use Rattle.lt_net_lossy.specs.Told.{message_by, messages_from, messages_of}
use Rattle.lt_net_lossy.specs.LossyPlays.{IsOwnSoFar, SentSoFar}
use Rattle.lt_net_lossy.proofs.Reached.{after_all-more}
use Rattle.lt_net_lossy.proofs.Transit.{own_of, sent-more, sent_mapped}
use Rattle.lt_machine.specs.declared.machine.Machine.{Ghosts as Machines}
use Rattle.lt_arch.specs.declared.controller.Controller.{Ghosts as Controls}

-- the messages of one event more
messages-more : (s : Shape) (t : Timing) (rows c : ℕ) (st : LossyState) (es : List LossyEvent) (e : LossyEvent) →
    messages_from s t rows c st (es ++ e ∷ []) ≡ messages_from s t rows c st es ++ message_by s t rows c (lossy_after_all s t rows st es) e
messages-more s t rows c st [] e = append-nil (message_by s t rows c st e)
messages-more s t rows c st (x ∷ es) e =
    ap (λ r. message_by s t rows c st x ++ r) (messages-more s t rows c (lossy_after s t rows st x) es e)
    ∙ sym (append_assoc (message_by s t rows c st x) (messages_from s t rows c (lossy_after s t rows st x) es) (message_by s t rows c (lossy_after_all s t rows (lossy_after s t rows st x) es) e))

-- one more, if it was sent
sent_one : (b : Bool) (own : ℕ → List Value → Type 0) (ns : List Numbered) (ms : List Message) (n : Numbered) (m : Message) → m.bit ≡ bit_of n.number → (b ≡ true → OwnOf own n.number m.payload) → AreSent own ns ms →
    AreSent own (ns ++ (if b then n ∷ [] else [])) (with_one b ms m)
sent_one true own ns ms n m bit is h = sent-more own ns ms n m bit (is refl) h
sent_one false own ns ms n m bit is h = subst (λ x. AreSent own x ms) (sym (append-nil ns)) h

-- no node's rows get fewer
rows_grow : (n : ℕ) (d : Deed) (row : Option (List Value)) (old new : ℕ → List (List Value)) → RowsGo n d row old new → (i : ℕ) → length (old i) ≤ length (new i)
rows_grow n Nothing row old new go i = let same = ap length (go i) in omega (arith, same)
rows_grow n Send row old new go i = let same = ap length (go i) in omega (arith, same)
rows_grow n Execute None old new go i = absurd go
rows_grow n Execute (Some r) old new go i = elim (eqb_tells i n) [
  | inl e ↦ let more = ap length (subst (λ j. new j ≡ old j ++ r ∷ []) (sym e.1) go.there) ∙ length-append (old i) (r ∷ []) in omega (arith, more)
  | inr e ↦ let same = ap length (go.elsewhere i e.1) in omega (arith, same)
]

module _ {C M : Type 0} (ctl : Controls C) (mch : Machines M) (net next_net : LossyBenchState C M) (ls next : LossyLists) (old new : FabricState)
    (fixed : IsFixedLossy net.layout net.shape net.timing) (static : SameLossyStatic net next_net) (stood : StandsLossy ctl mch next_net next) (stays : OwnStays net.layout net.shape ls next)
    (told : IsTrue old.told) (so_far : SentSoFar net.layout net.shape net.timing net.rows ls old) where
  abbrev Own : ℕ → ℕ → List Value → Type 0
  Own c = IsOwnSoFar net.layout net.shape next c

  abbrev sent_by : ℕ → List LossyEvent → List Numbered
  sent_by c es = messages_of net.shape net.timing net.rows c es

  module _ (grows : (i : ℕ) → length (ls.inputs i) ≤ length (next.inputs i)) where
    still : (c : ℕ) → c < chan_count net.shape → AreSent (Own c) (sent_by c ls.events) (old.sent c)
    still c lt = sent_mapped (IsOwnSoFar net.layout net.shape ls c) (Own c)
        (λ k p own carries. let low = (own carries).0 in let more = grows (from_of net.shape c) in (omega (arith, low, more), stays c k p lt low (own carries).1))
        (sent_by c ls.events) (old.sent c) (so_far.each c lt)

    listed : (e : LossyEvent) → next.events ≡ ls.events ++ e ∷ [] → (c : ℕ) → sent_by c next.events ≡ sent_by c ls.events ++ message_by net.shape net.timing net.rows c (lossy_state_of net ls) e
    listed e events c = ap (sent_by c) events ∙ messages-more net.shape net.timing net.rows c lossy_start ls.events e

    -- where nothing was sent
    quiet : (e : LossyEvent) → next.events ≡ ls.events ++ e ∷ [] → ((c : ℕ) → message_by net.shape net.timing net.rows c (lossy_state_of net ls) e ≡ []) → ((c : ℕ) → new.sent c ≡ old.sent c) → SentSoFar net.layout net.shape net.timing net.rows next new
    quiet e events none same = record {
      each = λ c lt. subst (λ ms. AreSent (Own c) (sent_by c next.events) ms) (sym (same c))
          (subst (λ ns. AreSent (Own c) ns (old.sent c)) (sym (listed e events c ∙ ap (λ r. sent_by c ls.events ++ r) (none c) ∙ append-nil (sent_by c ls.events))) (still c lt));
    }

    -- node n was activated
    module _ (n at : ℕ) (events : next.events ≡ ls.events ++ Plain (Act n at) ∷ []) (sends : SendsLossy net.shape n (woken_in net ls n at) next_net.posted old new) where
      abbrev v : NodeState
      v = woken_in net ls n at

      -- what the next net keeps, by this one's layout, shape, timing and rows
      abbrev Posts : Layout → Shape → Timing → ℕ → Type 0
      Posts l s t rows = (c k : ℕ) → c < chan_count s → carries_data s c ≡ true → sent_count ((lossy_reached s t rows next.events).node (from_of s c)) ≡ suc k →
          HasOwnValues l s next.inputs next.got (from_of s c) (to_of s c) k (slice_index_or next_net.posted c [])

      posts : Posts net.layout net.shape net.timing net.rows
      posts = subst (λ l. Posts l net.shape net.timing net.rows) static.layout (subst (λ s. Posts next_net.layout s net.timing net.rows) static.shape
          (subst (λ t. Posts next_net.layout next_net.shape t net.rows) static.timing (subst (λ r. Posts next_net.layout next_net.shape next_net.timing r) static.rows stood.posted)))

      abbrev Counts : Shape → Timing → ℕ → Type 0
      Counts s t rows = (i : ℕ) → i < node_count s → length (next.inputs i) ≡ ((lossy_reached s t rows next.events).node i).executed

      counts : Counts net.shape net.timing net.rows
      counts = subst (λ s. Counts s net.timing net.rows) static.shape
          (subst (λ t. Counts next_net.shape t net.rows) static.timing (subst (λ r. Counts next_net.shape next_net.timing r) static.rows stood.bench.rows))

      reached : lossy_reached net.shape net.timing net.rows next.events ≡ lossy_after net.shape net.timing net.rows (lossy_state_of net ls) (Plain (Act n at))
      reached = ap (lossy_reached net.shape net.timing net.rows) events ∙ after_all-more net.shape net.timing net.rows lossy_start ls.events (Plain (Act n at))

      own_sent : (c : ℕ) → c < chan_count net.shape → sends_number net.shape n v c ≡ true → OwnOf (Own c) (number_on net.shape v c) (slice_index_or next_net.posted c [])
      own_sent c lt on =
          let parts = and_parts (from_of net.shape c == n) (nat_lt 0 (number_on net.shape v c)) on in
          own_of (Own c) (number_on net.shape v c) (slice_index_or next_net.posted c []) (ltb-true 0 (number_on net.shape v c) parts.1) (λ k is carries.
          let from : from_of net.shape c ≡ n = (Decides-eqb (from_of net.shape c) n).0 parts.0 in
          let here : (lossy_reached net.shape net.timing net.rows next.events).node (from_of net.shape c) ≡ v =
          ap (λ i. (lossy_reached net.shape net.timing net.rows next.events).node i) from ∙ ap (λ (z : LossyState). z.node n) reached ∙ node-act_here net.shape net.timing net.rows (lossy_state_of net ls) n at n refl in
          let count : sent_count v ≡ suc k = ap (λ b. if b then sent_count v else v.executed) (sym carries) ∙ is in
          let there : from_of net.shape c < node_count net.shape = let e = fixed.channels.ends c lt in omega (arith, e, fixed.channels.nodes) in
          let executed : length (next.inputs (from_of net.shape c)) ≡ v.executed = counts (from_of net.shape c) there ∙ ap (λ (w : NodeState). w.executed) here in
          (omega (arith, count, executed), posts c k lt carries (ap sent_count here ∙ count)))

      acted : SentSoFar net.layout net.shape net.timing net.rows next new
      acted = record {
        each = λ c lt. subst (λ ms. AreSent (Own c) (sent_by c next.events) ms) (sym (sends.sent told c lt))
            (subst (λ ns. AreSent (Own c) ns (with_one (sends_number net.shape n v c) (old.sent c) (lossy_message net.shape v next_net.posted c))) (sym (listed (Plain (Act n at)) events c))
            (sent_one (sends_number net.shape n v c) (Own c) (sent_by c ls.events) (old.sent c) (record { number = number_on net.shape v c; sent_at = at }) (lossy_message net.shape v next_net.posted c) refl (own_sent c lt) (still c lt)));
      }

  pub sent_on : (e : LossyEvent) (row : Option (List Value)) (payload : List Value) → IsLossyPlacedIn net.shape e → LossyGoesOn net ls next e row payload → CarriedLossy net next_net ls e old new payload → SentSoFar net.layout net.shape net.timing net.rows next new
  sent_on (Plain (Act n at)) row payload there goes sends = acted (rows_grow n (lossy_deed_by net ls (Plain (Act n at))) row ls.inputs next.inputs goes.inputs) n at goes.events sends
  sent_on (Plain (Del ch at)) row payload there goes took =
      quiet (λ i. let same = ap length (goes.inputs i) in omega (arith, same)) (Plain (Del ch at)) goes.events (λ c. refl) (took.2.sent told)
  sent_on (Plain (End at)) row payload there goes same =
      quiet (λ i. let still = ap length (goes.inputs i) in omega (arith, still)) (Plain (End at)) goes.events (λ c. refl) (same.sent told)
  sent_on (Lose ch at) row payload there goes took =
      quiet (λ i. let same = ap length (goes.inputs i) in omega (arith, same)) (Lose ch at) goes.events (λ c. refl) (took.1.sent told)
