-- What is in transit after one event more.
use Rattle.std.proofs.Common.{◌≡◌, ◌≢◌, inl, inr, ℕ, zero, suc, ◌+◌, ◌<◌, ◌≤◌, Bool, true, false, List, [], ◌∷◌, ◌++◌, length, refl, sym, ap, ◌∙◌, subst, arith}
use Rattle.std.specs.Prelude.{slice_index_or, ◌==◌, nat_lt, if◌then◌else◌}
use Rattle.std.proofs.lemmas.Bool.{cases_lt, lt-ltb, le-ltb, ltb-true, ltb-false}
use Rattle.std.proofs.lemmas.Bool.Decides.{eqb_tells}
use Rattle.lt_base.specs.declared.value.Value.{Value}
use Rattle.lt_arch.specs.declared.event.Event.TheVariants.{Act, Del, End}
use Rattle.lt_arch.specs.State.{NodeState}
use Rattle.lt_arch.specs.Readers.{node_count, chan_count, from_of, to_of, carries_data}
use Rattle.lt_arch.specs.Step.{woken}
use Rattle.lt_io.specs.declared.message.Message.{Message}
use Rattle.lt_io.specs.FabricState.{FabricState, Delivers}
use Rattle.lt_link.specs.Bits.{bit_of, differ}
use Rattle.lt_lossy.specs.declared.event.LossyEvent.TheVariants.{Plain, Lose}
use Rattle.lt_lossy.specs.State.{Message as Numbered, LinkState, LossyState, plain_of, sent_count, number_on}
use Rattle.lt_lossy.specs.Step.{lossy_after, link_with_message, sends_number, link_delivered, link_lost}
use Rattle.lt_lossy.specs.Laws.{Ascends}
use Rattle.lt_lossy.proofs.Changes.{link-del, link-lose, link-end, node-act_here}
use Rattle.lt_lossy.proofs.Numbers.{ascends-ends}
use Rattle.lt_net_bench.specs.Standing.{HasOwnValues}
use Rattle.lt_net_bench.proofs.Bits.{differ_same, differ_not}
use Rattle.lt_net_bench.proofs.Entries.{and_parts}
use Rattle.lt_net_lossy.specs.Net.{LossyBenchState, LossyLists, lossy_state_of}
use Rattle.lt_net_lossy.specs.Stands.{StandsLossy}
use Rattle.lt_net_lossy.specs.Holds.{OwnOf, AreSent, OwnOn, HoldsLossy, SendsLossy, lossy_message, with_one}
use Rattle.lt_net_lossy.specs.Event.{PassesLossy, is_newer, brings_new}
use Rattle.lt_net_lossy.specs.Kept.{IsFixedLossy}
use Rattle.lt_net_lossy.proofs.Reached.{balanced, one_now, state_is}
use Rattle.lt_machine.specs.declared.machine.Machine.{Ghosts as Machines}
use Rattle.lt_arch.specs.declared.controller.Controller.{Ghosts as Controls}

pub own_of : (own : ℕ → List Value → Type 0) (number : ℕ) (p : List Value) → 0 < number → ((k : ℕ) → number ≡ suc k → own k p) → OwnOf own number p
own_of own zero p some h = absurd (omega (arith, some))
own_of own (suc k) p some h = h k refl

own_more : (own own' : ℕ → List Value → Type 0) (number high : ℕ) (p : List Value) → number ≤ high → ((k : ℕ) (p : List Value) → k < high → own k p → own' k p) → OwnOf own number p → OwnOf own' number p
own_more own own' zero high p le f h = h
own_more own own' (suc k) high p le f h = f k p (omega (arith, le)) h

-- messages that are their senders' own by one reading are so by another
own_mapped : (own own' : ℕ → List Value → Type 0) → ((k : ℕ) (p : List Value) → own k p → own' k p) → (number : ℕ) (p : List Value) → OwnOf own number p → OwnOf own' number p
own_mapped own own' f zero p h = h
own_mapped own own' f (suc k) p h = f k p h

pub sent_mapped : (own own' : ℕ → List Value → Type 0) → ((k : ℕ) (p : List Value) → own k p → own' k p) → (ns : List Numbered) (ms : List Message) → AreSent own ns ms → AreSent own' ns ms
sent_mapped own own' f [] [] h = tt
sent_mapped own own' f [] (m ∷ ms) h = absurd h
sent_mapped own own' f (n ∷ ns) [] h = absurd h
sent_mapped own own' f (n ∷ ns) (m ∷ ms) h = (h.0, own_mapped own own' f n.number m.payload h.1, sent_mapped own own' f ns ms h.2)

-- the values stay those of the instants
sent-still : (own own' : ℕ → List Value → Type 0) (ns : List Numbered) (ms : List Message) (low high : ℕ) → Ascends low ns high → ((k : ℕ) (p : List Value) → k < high → own k p → own' k p) → AreSent own ns ms → AreSent own' ns ms
sent-still own own' [] [] low high up f h = tt
sent-still own own' [] (m ∷ ms) low high up f h = absurd h
sent-still own own' (n ∷ ns) [] low high up f h = absurd h
sent-still own own' (n ∷ ns) (m ∷ ms) low high up f h = (h.0, own_more own own' n.number high m.payload (ascends-ends n.number ns high up.1) f h.1, sent-still own own' ns ms n.number high up.1 f h.2)

-- one was sent
pub sent-more : (own : ℕ → List Value → Type 0) (ns : List Numbered) (ms : List Message) (n : Numbered) (m : Message) → m.bit ≡ bit_of n.number → OwnOf own n.number m.payload → AreSent own ns ms → AreSent own (ns ++ n ∷ []) (ms ++ m ∷ [])
sent-more own [] [] n m bit is h = (bit, is, tt)
sent-more own [] (x ∷ ms) n m bit is h = absurd h
sent-more own (x ∷ ns) [] n m bit is h = absurd h
sent-more own (x ∷ ns) (y ∷ ms) n m bit is h = (h.0, h.1, sent-more own ns ms n m bit is h.2)

sent-if : (own : ℕ → List Value → Type 0) (b : Bool) (number at : ℕ) (link : LinkState) (ms : List Message) (m : Message) → m.bit ≡ bit_of number → (b ≡ true → OwnOf own number m.payload) → AreSent own link.transit ms →
    AreSent own (link_with_message b number at link).transit (with_one b ms m)
sent-if own true number at link ms m bit is h = sent-more own link.transit ms (record { number = number; sent_at = at }) m bit (is refl) h
sent-if own false number at link ms m bit is h = h

-- the oldest was taken
sent-delivered : (own : ℕ → List Value → Type 0) (link : LinkState) (ns : List Numbered) (o : Message) (ms : List Message) → AreSent own ns (o ∷ ms) → AreSent own (link_delivered link ns).transit ms
sent-delivered own link [] o ms h = absurd h
sent-delivered own link (n ∷ ns) o ms h = h.2

sent-lost : (own : ℕ → List Value → Type 0) (link : LinkState) (ns : List Numbered) (o : Message) (ms : List Message) → AreSent own ns (o ∷ ms) → AreSent own (link_lost link ns).transit ms
sent-lost own link [] o ms h = absurd h
sent-lost own link (n ∷ ns) o ms h = h.2

-- the bit of the oldest tells whether it is new
tells_new : (own : ℕ → List Value → Type 0) (newest high : ℕ) (ns : List Numbered) (o : Message) (ms : List Message) → Ascends newest ns high → high ≤ newest + 1 → AreSent own ns (o ∷ ms) → is_newer newest ns ≡ differ o.bit (bit_of newest)
tells_new own newest high [] o ms up le h = absurd h
tells_new own newest high (n ∷ ns) o ms up le h =
    let top = ascends-ends n.number ns high up.1 in
    let low = up.0 in
    elim (cases_lt newest n.number) [
      | inl lt ↦
          let is : n.number ≡ suc newest = omega (arith, lt, top, le) in
          lt-ltb newest n.number lt ∙ sym (differ_not (bit_of newest)) ∙ ap (λ b. differ b (bit_of newest)) (sym (h.0 ∙ ap bit_of is))
      | inr le ↦
          let is : n.number ≡ newest = omega (arith, le, low) in
          le-ltb newest n.number le ∙ sym (differ_same (bit_of newest)) ∙ ap (λ b. differ b (bit_of newest)) (sym (h.0 ∙ ap bit_of is))
    ]

-- a new one has the values of the instant after the last one
new_own : (own : ℕ → List Value → Type 0) (newest high : ℕ) (ns : List Numbered) (o : Message) (ms : List Message) → Ascends newest ns high → high ≤ newest + 1 → is_newer newest ns ≡ true → AreSent own ns (o ∷ ms) → own newest o.payload
new_own own newest high [] o ms up le new h = absurd h
new_own own newest high (n ∷ ns) o ms up le new h =
    let top = ascends-ends n.number ns high up.1 in
    let lt = ltb-true newest n.number new in
    let is : n.number ≡ suc newest = omega (arith, lt, top, le) in
    subst (λ k. OwnOf own k o.payload) is h.1

-- a copy has those of the last one
old_own : (own : ℕ → List Value → Type 0) (newest high : ℕ) (ns : List Numbered) (o : Message) (ms : List Message) → Ascends newest ns high → is_newer newest ns ≡ false → AreSent own ns (o ∷ ms) → OwnOf own newest o.payload
old_own own newest high [] o ms up old h = absurd h
old_own own newest high (n ∷ ns) o ms up old h =
    let low = up.0 in
    let le = ltb-false newest n.number old in
    let is : n.number ≡ newest = omega (arith, le, low) in
    subst (λ k. OwnOf own k o.payload) is h.1

numbered : (own : ℕ → List Value → Type 0) (number : ℕ) (p : List Value) → OwnOf own number p → (k : ℕ) × (number ≡ suc k) × own k p
numbered own zero p h = absurd h
numbered own (suc k) p h = (k, refl, h)

new_counted : (newest high : ℕ) (ns : List Numbered) → is_newer newest ns ≡ true → Ascends newest ns high → newest < high
new_counted newest high [] new up = absurd (cc)
new_counted newest high (n ∷ ns) new up = let top = ascends-ends n.number ns high up.1 in let lt = ltb-true newest n.number new in omega (arith, lt, top)

module _ {C M : Type 0} (ctl : Controls C) (mch : Machines M) (net : LossyBenchState C M) (ls next : LossyLists) (s : StandsLossy ctl mch net ls) (fixed : IsFixedLossy net.layout net.shape net.timing) where
  ascends : (c : ℕ) → c < chan_count net.shape → Ascends ((lossy_state_of net ls).link c).newest ((lossy_state_of net ls).link c).transit (number_on net.shape ((lossy_state_of net ls).node (from_of net.shape c)) c)
  ascends c lt = (balanced ctl mch net ls s).ordered.ascends c lt

  -- what a data channel has was executed
  number_most : (c k : ℕ) → c < chan_count net.shape → carries_data net.shape c ≡ true → k < number_on net.shape ((lossy_state_of net ls).node (from_of net.shape c)) c → k < length (ls.inputs (from_of net.shape c))
  number_most c k lt carries h =
      let v : NodeState = (lossy_state_of net ls).node (from_of net.shape c) in
      let h' : k < sent_count v = subst (λ b. k < (if b then sent_count v else v.executed)) carries h in
      let there : from_of net.shape c < node_count net.shape = let e = fixed.channels.ends c lt in omega (arith, e, fixed.channels.nodes) in
      let rows = s.bench.rows (from_of net.shape c) there in
      omega (arith, h', rows)

  module _ (fabric : FabricState) (holds : HoldsLossy net ls fabric) where
    -- where own values stay own values
    module _ (own_still : (c k : ℕ) (p : List Value) → c < chan_count net.shape → k < length (ls.inputs (from_of net.shape c)) → HasOwnValues net.layout net.shape ls.inputs ls.got (from_of net.shape c) (to_of net.shape c) k p →
        HasOwnValues net.layout net.shape next.inputs next.got (from_of net.shape c) (to_of net.shape c) k p) where
      still : (c : ℕ) → c < chan_count net.shape → AreSent (OwnOn net next c) ((lossy_state_of net ls).link c).transit (fabric.transit c)
      still c lt = sent-still (OwnOn net ls c) (OwnOn net next c) ((lossy_state_of net ls).link c).transit (fabric.transit c) _ _ (ascends c lt)
          (λ k p h own carries. own_still c k p lt (number_most c k lt carries h) (own carries)) (holds.transit c lt)

      -- node n sent again
      module _ (n at : ℕ) (passes : PassesLossy net ls (Plain (Act n at))) (events : next.events ≡ ls.events ++ Plain (Act n at) ∷ []) (posted : List (List Value))
          (own_posted : (c k : ℕ) → c < chan_count net.shape → carries_data net.shape c ≡ true → sent_count ((lossy_state_of net next).node (from_of net.shape c)) ≡ suc k →
          HasOwnValues net.layout net.shape next.inputs next.got (from_of net.shape c) (to_of net.shape c) k (slice_index_or posted c []))
          (new : FabricState) (sends : SendsLossy net.shape n (woken net.shape net.timing net.rows (plain_of (lossy_state_of net ls)) n at) posted fabric new) where
        next_is : lossy_state_of net next ≡ lossy_after net.shape net.timing net.rows (lossy_state_of net ls) (Plain (Act n at))
        next_is = state_is ctl mch net ls s (Plain (Act n at)) passes next events

        abbrev v : NodeState
        v = woken net.shape net.timing net.rows (plain_of (lossy_state_of net ls)) n at

        link_is : (c : ℕ) → (lossy_after net.shape net.timing net.rows (lossy_state_of net ls) (Plain (Act n at))).link c ≡ link_with_message (sends_number net.shape n v c) (number_on net.shape v c) at ((lossy_state_of net ls).link c)
        unfolding lossy_after
        link_is c = refl

        own_sent : (c : ℕ) → c < chan_count net.shape → sends_number net.shape n v c ≡ true → OwnOf (OwnOn net next c) (number_on net.shape v c) (slice_index_or posted c [])
        own_sent c lt on = own_of (OwnOn net next c) (number_on net.shape v c) (slice_index_or posted c []) (ltb-true 0 (number_on net.shape v c) (and_parts (from_of net.shape c == n) (nat_lt 0 (number_on net.shape v c)) on).1) (λ k is carries.
            let from : from_of net.shape c ≡ n = (Rattle.std.proofs.lemmas.Bool.Decides.Decides-eqb (from_of net.shape c) n).0 (and_parts (from_of net.shape c == n) (nat_lt 0 (number_on net.shape v c)) on).0 in
            let here : (lossy_state_of net next).node (from_of net.shape c) ≡ v = ap (λ i. (lossy_state_of net next).node i) from ∙ ap (λ (z : LossyState). z.node n) next_is ∙ node-act_here net.shape net.timing net.rows (lossy_state_of net ls) n at n refl in
            own_posted c k lt carries (ap sent_count here ∙ ap (λ b. if b then sent_count v else v.executed) (sym carries) ∙ is))

        pub acted_holds : HoldsLossy net next new
        acted_holds = record {
          transit = λ c lt. subst (λ ms. AreSent (OwnOn net next c) ((lossy_state_of net next).link c).transit ms) (sym (sends.transit c lt))
              (subst (λ (z : LinkState). AreSent (OwnOn net next c) z.transit (with_one (sends_number net.shape n v c) (fabric.transit c) (lossy_message net.shape v posted c))) (sym (ap (λ (z : LossyState). z.link c) next_is ∙ link_is c))
              (sent-if (OwnOn net next c) (sends_number net.shape n v c) (number_on net.shape v c) at ((lossy_state_of net ls).link c) (fabric.transit c) (lossy_message net.shape v posted c) refl (own_sent c lt) (still c lt)));
        }

      -- a message was taken
      module _ (ch at : ℕ) (m : Message) (new : FabricState) (delivers : Delivers fabric new ch m) where
        taken_at : (c : ℕ) → c ≡ ch → c < chan_count net.shape → AreSent (OwnOn net next c) ((lossy_state_of net ls).link c).transit (delivers.oldest ∷ new.transit c)
        taken_at c is lt = subst (λ c. AreSent (OwnOn net next c) ((lossy_state_of net ls).link c).transit (delivers.oldest ∷ new.transit c)) (sym is)
            (subst (λ ms. AreSent (OwnOn net next ch) ((lossy_state_of net ls).link ch).transit ms) delivers.taken (still ch (subst (λ i. i < chan_count net.shape) is lt)))

        other_at : (c : ℕ) → c ≢ ch → c < chan_count net.shape → AreSent (OwnOn net next c) ((lossy_state_of net ls).link c).transit (new.transit c)
        other_at c ne lt = subst (λ ms. AreSent (OwnOn net next c) ((lossy_state_of net ls).link c).transit ms) (sym (delivers.elsewhere c ne)) (still c lt)

        pub delivered_holds : PassesLossy net ls (Plain (Del ch at)) → next.events ≡ ls.events ++ Plain (Del ch at) ∷ [] → HoldsLossy net next new
        delivered_holds passes events = record {
          transit = λ c lt. subst (λ (z : LossyState). AreSent (OwnOn net next c) (z.link c).transit (new.transit c)) (sym (state_is ctl mch net ls s (Plain (Del ch at)) passes next events))
              (link-del net.shape net.timing net.rows (lossy_state_of net ls) ch at (λ l. AreSent (OwnOn net next c) l.transit (new.transit c)) c
              (λ is. sent-delivered (OwnOn net next c) ((lossy_state_of net ls).link ch) ((lossy_state_of net ls).link ch).transit delivers.oldest (new.transit c)
              (subst (λ i. AreSent (OwnOn net next c) ((lossy_state_of net ls).link i).transit (delivers.oldest ∷ new.transit c)) is (taken_at c is lt))) (λ ne. other_at c ne lt));
        }

        pub lost_holds : PassesLossy net ls (Lose ch at) → next.events ≡ ls.events ++ Lose ch at ∷ [] → HoldsLossy net next new
        lost_holds passes events = record {
          transit = λ c lt. subst (λ (z : LossyState). AreSent (OwnOn net next c) (z.link c).transit (new.transit c)) (sym (state_is ctl mch net ls s (Lose ch at) passes next events))
              (link-lose net.shape net.timing net.rows (lossy_state_of net ls) ch at (λ l. AreSent (OwnOn net next c) l.transit (new.transit c)) c
              (λ is. sent-lost (OwnOn net next c) ((lossy_state_of net ls).link ch) ((lossy_state_of net ls).link ch).transit delivers.oldest (new.transit c)
              (subst (λ i. AreSent (OwnOn net next c) ((lossy_state_of net ls).link i).transit (delivers.oldest ∷ new.transit c)) is (taken_at c is lt))) (λ ne. other_at c ne lt));
        }

      pub ended_holds : (at : ℕ) → PassesLossy net ls (Plain (End at)) → next.events ≡ ls.events ++ Plain (End at) ∷ [] → HoldsLossy net next fabric
      ended_holds at passes events = record {
        transit = λ c lt. subst (λ (z : LossyState). AreSent (OwnOn net next c) (z.link c).transit (fabric.transit c)) (sym (state_is ctl mch net ls s (Plain (End at)) passes next events))
            (subst (λ (l : LinkState). AreSent (OwnOn net next c) l.transit (fabric.transit c)) (sym (link-end net.shape net.timing net.rows (lossy_state_of net ls) at c)) (still c lt));
      }

    -- What the oldest message of a channel tells.
    module _ (ch : ℕ) (here : ch < chan_count net.shape) (o : Message) (later : List Message) (taken : fabric.transit ch ≡ o ∷ later) where
      there : AreSent (OwnOn net ls ch) ((lossy_state_of net ls).link ch).transit (o ∷ later)
      there = subst (λ ms. AreSent (OwnOn net ls ch) ((lossy_state_of net ls).link ch).transit ms) taken (holds.transit ch here)

      pub bit_tells : brings_new (lossy_state_of net ls) ch ≡ differ o.bit (bit_of (length (ls.got ch)))
      bit_tells = tells_new (OwnOn net ls ch) _ _ ((lossy_state_of net ls).link ch).transit o later (ascends ch here) ((one_now ctl mch net ls s fixed).next ch here) there ∙ ap (λ k. differ o.bit (bit_of k)) (sym (s.bench.messages ch here))

      pub brings_own : brings_new (lossy_state_of net ls) ch ≡ true → carries_data net.shape ch ≡ true → HasOwnValues net.layout net.shape ls.inputs ls.got (from_of net.shape ch) (to_of net.shape ch) (length (ls.got ch)) o.payload
      brings_own new carries =
          subst (λ k. HasOwnValues net.layout net.shape ls.inputs ls.got (from_of net.shape ch) (to_of net.shape ch) k o.payload) (sym (s.bench.messages ch here))
          (new_own (OwnOn net ls ch) _ _ ((lossy_state_of net ls).link ch).transit o later (ascends ch here) ((one_now ctl mch net ls s fixed).next ch here) new there carries)

      -- a copy is one of the newest message, of which there is one
      pub copies_own : brings_new (lossy_state_of net ls) ch ≡ false → (k : ℕ) × (length (ls.got ch) ≡ suc k) × OwnOn net ls ch k o.payload
      copies_own old =
          let n = numbered (OwnOn net ls ch) ((lossy_state_of net ls).link ch).newest o.payload (old_own (OwnOn net ls ch) _ _ ((lossy_state_of net ls).link ch).transit o later (ascends ch here) old there) in
          (n.0, s.bench.messages ch here ∙ n.1, n.2)

      -- and its sender has executed that instant
      pub newest_most : brings_new (lossy_state_of net ls) ch ≡ true → carries_data net.shape ch ≡ true → length (ls.got ch) < length (ls.inputs (from_of net.shape ch))
      newest_most new carries =
          let newest = ((lossy_state_of net ls).link ch).newest in
          let counted = new_counted newest _ ((lossy_state_of net ls).link ch).transit new (ascends ch here) in
          subst (λ k. k < length (ls.inputs (from_of net.shape ch))) (sym (s.bench.messages ch here)) (number_most ch newest here carries counted)
