-- What a fabric tells goes on with the lists.
use Rattle.std.proofs.Common.{◌≡◌, ◌⊎◌, inl, inr, ℕ, suc, ◌-◌, ◌+◌, ◌<◌, true, false, List, [], ◌∷◌, ◌++◌, length, map, IsTrue, sym, ap, ◌∙◌, subst, arith, length-append}
use Rattle.std.specs.Prelude.{slice_index_or, ◌==◌, ◌&&◌}
use Rattle.std.proofs.Math.ListN.{get_or-append}
use Rattle.std.proofs.Math.Seq.{get_or-append_seam}
use Rattle.std.proofs.lemmas.Bool.{cases_lt}
use Rattle.std.proofs.lemmas.Bool.Decides.{eqb_tells}
use Rattle.lt_base.specs.declared.value.Value.{Value}
use Rattle.lt_arch.specs.declared.event.Event.{Event}
use Rattle.lt_arch.specs.declared.event.Event.TheVariants.{Act, Del}
use Rattle.lt_arch.specs.State.{State, NodeState, start, unsent, sent_of}
use Rattle.lt_arch.specs.Readers.{node_count, chan_count, to_of, from_of, carries_data}
use Rattle.lt_arch.specs.Deeds.{deed_at}
use Rattle.lt_arch.specs.Step.{after, is_send}
use Rattle.lt_arch.specs.Schedule.{after_all}
use Rattle.lt_arch.proofs.Changes.{one_if}
use Rattle.lt_io.specs.declared.message.Message.{Message}
use Rattle.lt_link.specs.Bits.{bit_of}
use Rattle.lt_io.specs.FabricState.{FabricState, Delivers}
use Rattle.lt_net.specs.Net.{TimedBenchState, Lists, reached_state}
use Rattle.lt_net.specs.Stands.{NetStands}
use Rattle.lt_net_bench.specs.Changes.{Gets}
use Rattle.lt_net.specs.Owns.{OwnPayload}
use Rattle.lt_net.specs.Event.{FabricHolds, SendsOwn, sends_by}
use Rattle.lt_net.specs.Replay.{FabricTells}
use Rattle.lt_net_bench.proofs.Firsts.{map-append-one}
use Rattle.lt_net.proofs.Counts.{counted, sent-act, data-act}
use Rattle.lt_net.proofs.EndStands.{after_all-more}
use Rattle.lt_net.proofs.DeliveryStands.{del-node}
use Rattle.lt_net_bench.proofs.Entries.{either_way}
use Rattle.lt_net.proofs.SentMessages.{sent_number}
use Rattle.lt_machine.specs.declared.machine.Machine.{Ghosts as Machines}
use Rattle.lt_arch.specs.declared.controller.Controller.{Ghosts as Controls}

abbrev no_message : Message
no_message = record { payload = []; bit = false }

module _ {C M : Type 0} (ctl : Controls C) (mch : Machines M) (net : TimedBenchState C M) (ls next : Lists) (e : Event)
    (s : NetStands ctl mch net ls) (old new : FabricState) (holds : FabricHolds net old) (tells : FabricTells net ls old) (events : next.events ≡ ls.events ++ e ∷ []) where
  state_is : reached_state net next ≡ after net.shape net.timing net.rows (reached_state net ls) e
  state_is = ap (after_all net.shape net.timing net.rows (start net.timing.protocol)) events ∙ after_all-more net.shape net.timing net.rows (start net.timing.protocol) ls.events e

  -- a number below the sent count is one of an executed instant
  sent_below : (c k : ℕ) → c < chan_count net.shape → from_of net.shape c < node_count net.shape → carries_data net.shape c ≡ true → k < length (old.sent c) → k < length (ls.inputs (from_of net.shape c))
  sent_below c k h b carries lt =
      let count = tells.sent_count c h carries in
      let i = s.bench.rows (from_of net.shape c) b in
      low (((reached_state net ls).node (from_of net.shape c)).executed) (unsent ((reached_state net ls).node (from_of net.shape c)).phase) count i lt
    where
      low : (x u : ℕ) → length (old.sent c) ≡ x - u → length (ls.inputs (from_of net.shape c)) ≡ x → k < length (old.sent c) → k < length (ls.inputs (from_of net.shape c))
      low x u a b h = omega (arith, a, b, h)

  -- a delivery
  module _ (ch at : ℕ) (is : e ≡ Del ch at) (payload : List Value) (gets : Gets ls.got next.got ch payload) (message : Message) (payload_is : message.payload ≡ payload) (delivers : Delivers old new ch message) (told : IsTrue old.told)
      (ends : (c : ℕ) → c < chan_count net.shape → from_of net.shape c < node_count net.shape)
      (own_same : (c k : ℕ) (p : List Value) → c < chan_count net.shape → k < length (ls.inputs (from_of net.shape c)) → OwnPayload net.layout net.shape ls (from_of net.shape c) (to_of net.shape c) k p → OwnPayload net.layout net.shape next (from_of net.shape c) (to_of net.shape c) k p) where
    sent_same : (c : ℕ) → new.sent c ≡ old.sent c
    sent_same = delivers.sent told

    node_same : (i : ℕ) → (reached_state net next).node i ≡ (reached_state net ls).node i
    node_same i = ap (λ (z : State). z.node i) (state_is ∙ ap (after net.shape net.timing net.rows (reached_state net ls)) is) ∙ del-node net.shape net.timing net.rows (reached_state net ls) ch at i

    here : map (λ (m : Message). m.payload) (new.delivered ch) ≡ next.got ch → length (new.sent ch) ≡ length (next.got ch) + length (new.transit ch) → (c : ℕ) → c < chan_count net.shape → (map (λ (m : Message). m.payload) (new.delivered c) ≡ next.got c) × (length (new.sent c) ≡ length (next.got c) + length (new.transit c))
    here a b c h = elim (eqb_tells c ch) [
      | inl q ↦ subst (λ c. (map (λ (m : Message). m.payload) (new.delivered c) ≡ next.got c) × (length (new.sent c) ≡ length (next.got c) + length (new.transit c))) (sym q.1) (a, b)
      | inr q ↦ (
        ap (map (λ (m : Message). m.payload)) ((delivers.delivered told).elsewhere c q.1) ∙ tells.delivered c h ∙ sym (gets.elsewhere c q.1),
        ap length (sent_same c) ∙ tells.total c h ∙ (λ i. length (sym (gets.elsewhere c q.1) i) + length (sym (delivers.elsewhere c q.1) i)),
      )
    ]

    pub tells_delivery : ch < chan_count net.shape → FabricTells net next new
    tells_delivery cb =
        let there : map (λ (m : Message). m.payload) (new.delivered ch) ≡ next.got ch =
        ap (map (λ (m : Message). m.payload)) (delivers.delivered told).there ∙ map-append-one (λ (m : Message). m.payload) (old.delivered ch) message ∙ (λ i. tells.delivered ch cb i ++ payload_is i ∷ []) ∙ sym gets.there in
        let count : length (new.sent ch) ≡ length (next.got ch) + length (new.transit ch) =
        let a = ap length (sent_same ch) in let b = tells.total ch cb in let d = ap length delivers.taken in let g = ap length gets.there ∙ length-append (ls.got ch) (payload ∷ []) in omega (arith, a, b, d, g) in
        record {
          delivered = λ c h. (here there count c h).0;
          total = λ c h. (here there count c h).1;
          sent_count = λ c h carries. ap length (sent_same c) ∙ tells.sent_count c h carries ∙ sym (ap (λ (v : NodeState). v.executed - unsent v.phase) (node_same (from_of net.shape c)));
          sent_bits = λ c k h kb. ap (λ (ms : List Message). (slice_index_or {A = Message} ms k (record { payload = []; bit = false })).bit) (sent_same c) ∙ tells.sent_bits c k h (subst (λ ms. k < length ms) (sent_same c) kb);
          sent_own = λ c k h carries kb.
              let kb' = subst (λ ms. k < length ms) (sent_same c) kb in
              subst (λ ms. OwnPayload net.layout net.shape next (from_of net.shape c) (to_of net.shape c) k (slice_index_or {A = Message} ms k (record { payload = []; bit = false })).payload) (sym (sent_same c))
              (own_same c k _ h (sent_below c k h (ends c h) carries kb') (tells.sent_own c k h carries kb'));
        }

  -- an activation
  module _ (n at : ℕ) (is : e ≡ Act n at) (b : n < node_count net.shape) (sends : SendsOwn net ls next (Act n at) old new) (got : (c : ℕ) → next.got c ≡ ls.got c) (told : IsTrue old.told)
      (ends : (c : ℕ) → c < chan_count net.shape → from_of net.shape c < node_count net.shape)
      (empty : (c : ℕ) → c < chan_count net.shape → sends_by net ls (Act n at) c ≡ true → old.transit c ≡ [])
      (own_same : (c k : ℕ) (p : List Value) → k < length (ls.inputs (from_of net.shape c)) → OwnPayload net.layout net.shape ls (from_of net.shape c) (to_of net.shape c) k p → OwnPayload net.layout net.shape next (from_of net.shape c) (to_of net.shape c) k p) where
    sent_is : (i : ℕ) → sent_of (reached_state net next) i ≡ sent_of (reached_state net ls) i + one_if ((i == n) && is_send (deed_at net.shape net.rows (reached_state net ls) n))
    sent_is i = ap (λ (z : State). sent_of z i) (state_is ∙ ap (after net.shape net.timing net.rows (reached_state net ls)) is) ∙ sent-act net.shape net.timing net.rows (reached_state net ls) (counted net.shape net.timing net.rows ls.events s.clean) n at i

    -- the list sent is the old one, or has one message more
    sent_now : (c : ℕ) → c < chan_count net.shape → (sends_by net ls (Act n at) c ≡ true) × (new.sent c ≡ old.sent c ++ sends.message c ∷ []) × (length (new.transit c) ≡ length (old.transit c) + 1) ⊎
        ((sends_by net ls (Act n at) c ≡ false) × (new.sent c ≡ old.sent c) × (new.transit c ≡ old.transit c))
    sent_now c h = elim (either_way (sends_by net ls (Act n at) c)) [
      | inl on ↦ inl (on, sends.told told c h on, ap length (sends.sent c h on) ∙ length-append (old.transit c) (sends.message c ∷ []))
      | inr off ↦ inr (off, sends.told_others told c h off, sends.others c h off)
    ]

    last_number : (c : ℕ) → c < chan_count net.shape → sends_by net ls (Act n at) c ≡ true → length (old.sent c) ≡ length (ls.got c)
    last_number c h on = let t = tells.total c h in let z = ap length (empty c h on) in omega (arith, t, z)

    entry : (P : Message → Type 0) (c k : ℕ) → c < chan_count net.shape → k < length (new.sent c) → (k < length (old.sent c) → P (slice_index_or {A = Message} (old.sent c) k (record { payload = []; bit = false }))) → (sends_by net ls (Act n at) c ≡ true → k ≡ length (ls.got c) → P (sends.message c)) →
        P (slice_index_or {A = Message} (new.sent c) k (record { payload = []; bit = false }))
    entry P c k h kb before last = elim (sent_now c h) [
      | inl on ↦
          let grew : length (new.sent c) ≡ length (old.sent c) + 1 = ap length (on.1) ∙ length-append (old.sent c) (sends.message c ∷ []) in
          subst (λ ms. P (slice_index_or {A = Message} ms k (record { payload = []; bit = false }))) (sym (on.1)) (elim (cases_lt k (length (old.sent c))) [
            | inl low ↦ subst P (sym (get_or-append (old.sent c) (sends.message c ∷ []) (record { payload = []; bit = false }) k low)) (before low)
            | inr high ↦
                let k_is : k ≡ length (old.sent c) = omega (arith, high, kb, grew) in
                subst (λ j. P (slice_index_or {A = Message} (old.sent c ++ sends.message c ∷ []) j (record { payload = []; bit = false }))) (sym k_is)
                (subst P (sym (get_or-append_seam (old.sent c) (sends.message c) [] (record { payload = []; bit = false }))) (last (on.0) (k_is ∙ last_number c h (on.0))))
          ])
      | inr off ↦ subst (λ ms. P (slice_index_or {A = Message} ms k (record { payload = []; bit = false }))) (sym (off.1)) (before (subst (λ ms. k < length ms) (off.1) kb))
    ]

    pub tells_act : FabricTells net next new
    tells_act = record {
      delivered = λ c h. ap (map (λ (m : Message). m.payload)) (sends.delivered told c h) ∙ tells.delivered c h ∙ sym (got c);
      total = λ c h. elim (sent_now c h) [
        | inl on ↦ let grew = ap length (on.1) ∙ length-append (old.sent c) (sends.message c ∷ []) in let t = tells.total c h in let g = ap length (got c) in let tr = on.2 in omega (arith, grew, t, g, tr)
        | inr off ↦ let same = ap length (off.1) in let t = tells.total c h in let g = ap length (got c) in let tr = ap length (off.2) in omega (arith, same, t, g, tr)
      ];
      sent_count = λ c h carries. elim (sent_now c h) [
        | inl on ↦
            ap length (on.1) ∙ length-append (old.sent c) (sends.message c ∷ []) ∙ ap (λ x. x + 1) (tells.sent_count c h carries)
            ∙ sym (sent_is (from_of net.shape c) ∙ ap (λ x. sent_of (reached_state net ls) (from_of net.shape c) + one_if x) (sym (data-act net.shape net.timing net.rows (reached_state net ls) n c carries) ∙ on.0))
        | inr off ↦
            ap length (off.1) ∙ tells.sent_count c h carries ∙ nothing_more (sent_of (reached_state net ls) (from_of net.shape c))
            ∙ sym (sent_is (from_of net.shape c) ∙ ap (λ x. sent_of (reached_state net ls) (from_of net.shape c) + one_if x) (sym (data-act net.shape net.timing net.rows (reached_state net ls) n c carries) ∙ off.0))
      ];
      sent_bits = λ c k h kb. entry (λ m. m.bit ≡ bit_of (suc k)) c k h kb (tells.sent_bits c k h) (λ on k_is. sends.bits c h ∙ ap (λ j. bit_of (suc j)) (sym k_is));
      sent_own = λ c k h carries kb. entry (λ m. OwnPayload net.layout net.shape next (from_of net.shape c) (to_of net.shape c) k m.payload) c k h kb
          (λ low. own_same c k _ (sent_below c k h (ends c h) carries low) (tells.sent_own c k h carries low))
          (λ on k_is.
          let number = (sent_number ctl mch net ls s old holds n at c b h carries on).1 in
          let z = ap length (empty c h on) in
          sends.own c h on carries k (omega (arith, number, z, k_is)));
    }
      where
        nothing_more : (x : ℕ) → x ≡ x + 0
        nothing_more x = omega arith
