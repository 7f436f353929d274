-- What a fabric tells goes on with the lists.
use Rattle.std.proofs.Common.{◌≡◌, ◌⊎◌, inl, inr, ℕ, suc, ◌-◌, ◌+◌, ◌<◌, ◌≤◌, Bool, true, false, List, [], ◌∷◌, ◌++◌, length, Option, Some, None, refl, sym, ap, ◌∙◌, subst, arith, cond}
use Rattle.std.specs.Prelude.{◌==◌}
use Rattle.std.proofs.lemmas.Bool.Decides.{Decides-eqb}
use Rattle.lt_arch.specs.declared.event.Deed.{Deed}
use Rattle.lt_arch.specs.declared.event.Deed.TheVariants.{Nothing, Execute, Send}
use Rattle.lt_arch.specs.declared.event.Event.TheVariants.{Act}
use Rattle.lt_arch.specs.State.{Phase, Wait, Ready, First, Sending, Executing, unsent, executed_of, sent_of}
use Rattle.lt_arch.specs.Readers.{node_count, chan_count, to_of, from_of, carries_data}
use Rattle.lt_arch.specs.Deeds.{deed_at, phase_at}
use Rattle.lt_arch.specs.Step.{is_send, is_execute}
use Rattle.lt_arch.specs.Times.{in_transit}
use Rattle.lt_arch.proofs.Changes.{one_if}
use Rattle.lt_io.specs.declared.message.Message.{Message}
use Rattle.lt_io.specs.FabricState.{FabricState}
use Rattle.lt_net.specs.Net.{TimedBenchState, Lists, reached_state}
use Rattle.lt_net.specs.Stands.{NetStands}
use Rattle.lt_net.specs.Owns.{OwnPayload}
use Rattle.lt_net.specs.Event.{FabricHolds, HeldBy, SendsOwn, sends_by}
use Rattle.lt_net.proofs.Counts.{counted, wakes-n, data-act}
use Rattle.lt_net_bench.proofs.Entries.{and_parts, either_way}
use Rattle.lt_machine.specs.declared.machine.Machine.{Ghosts as Machines}
use Rattle.lt_arch.specs.declared.controller.Controller.{Ghosts as Controls}

held_length : (v : Option ℕ) (last : Bool) (ms : List Message) → HeldBy v last ms → length ms ≡ length (in_transit v)
held_length None last ms h = ap length h
held_length (Some at) last [] h = absurd h
held_length (Some at) last (m ∷ ms) h = ap (λ xs. suc (length xs)) h.1

low_unsent : (p : Phase) → unsent p ≤ 1
low_unsent Wait = omega arith
low_unsent Ready = omega arith
low_unsent First = omega arith
low_unsent (Sending k) = omega arith
low_unsent (Executing k) = omega arith

not_both : (d : Deed) → is_send d ≡ true → is_execute d ≡ false
not_both Send h = refl
not_both Nothing h = absurd (cc)
not_both Execute h = absurd (cc)

module _ {C M : Type 0} (ctl : Controls C) (mch : Machines M) (net : TimedBenchState C M) (ls : Lists)
    (s : NetStands ctl mch net ls) (fabric : FabricState) (holds : FabricHolds net fabric) where
  -- the law: over any fabric and under any protocol, what was delivered and what is in transit is what was sent
  pub delivered_and_in_transit : (c : ℕ) → c < chan_count net.shape → carries_data net.shape c ≡ true → length (ls.got c) + length (fabric.transit c) ≡ sent_of (reached_state net ls) (from_of net.shape c)
  delivered_and_in_transit c h carries =
      let law = (counted net.shape net.timing net.rows ls.events s.clean).sent c carries in
      let held = held_length _ _ _ (holds.transit c h) in
      let times = ap length (s.times.transit c h) in
      let got = s.bench.messages c h in
      omega (arith, law, held, times, got)

  -- a node that sends has executed one instant more than it has sent
  pub sends_last : (n : ℕ) → n < node_count net.shape → is_send (deed_at net.shape net.rows (reached_state net ls) n) ≡ true → length (ls.inputs n) ≡ suc (sent_of (reached_state net ls) n)
  sends_last n b sending =
      let inv = counted net.shape net.timing net.rows ls.events s.clean in
      let w = wakes-n net.shape net.timing net.rows (reached_state net ls) inv n 0 in
      let e = executed_of (reached_state net ls) n in
      let same : cond (is_execute (deed_at net.shape net.rows (reached_state net ls) n)) (e + 1) e ≡ e = ap (λ x. cond x (e + 1) e) (not_both _ sending) in
      let sends = w.sends ∙ ap (λ x. sent_of (reached_state net ls) n + one_if x) sending in
      go e (unsent ((reached_state net ls).node n).phase) (unsent (phase_at net.shape net.timing net.rows (reached_state net ls) n)) (length (ls.inputs n)) (low_unsent ((reached_state net ls).node n).phase) (s.bench.rows n b) (ap (λ x. x - unsent (phase_at net.shape net.timing net.rows (reached_state net ls) n)) (sym same) ∙ sends)
    where
      go : (e u v l : ℕ) → u ≤ 1 → l ≡ e → e - v ≡ (e - u) + 1 → l ≡ suc (e - u)
      go e u v l a h k = omega (arith, a, h, k)

  -- each message sent has the number that its sender's instant has
  pub sent_number : (n at c : ℕ) → n < node_count net.shape → c < chan_count net.shape → carries_data net.shape c ≡ true → sends_by net ls (Act n at) c ≡ true →
      (from_of net.shape c ≡ n) × (length (ls.inputs (from_of net.shape c)) ≡ suc (length (ls.got c) + length (fabric.transit c)))
  sent_number n at c b h carries on =
      let parts = and_parts (from_of net.shape c == n) (is_send (deed_at net.shape net.rows (reached_state net ls) n)) (sym (data-act net.shape net.timing net.rows (reached_state net ls) n c carries) ∙ on) in
      let from : from_of net.shape c ≡ n = (Decides-eqb (from_of net.shape c) n).0 parts.0 in
      (from, subst (λ i. length (ls.inputs i) ≡ suc (sent_of (reached_state net ls) i)) (sym from) (sends_last n b parts.1) ∙ ap suc (sym (delivered_and_in_transit c h carries)))

  -- what OwnsTransit needs of an activation
  pub own_sent : (n at : ℕ) (next : Lists) (new : FabricState) → n < node_count net.shape → ((i : ℕ) → length (ls.inputs i) ≤ length (next.inputs i)) → SendsOwn net ls next (Act n at) fabric new → (c : ℕ) → c < chan_count net.shape → carries_data net.shape c ≡ true →
      (new.transit c ≡ fabric.transit c) ⊎ (m : Message) × (new.transit c ≡ fabric.transit c ++ m ∷ []) × (length (ls.got c) + length (fabric.transit c) < length (next.inputs (from_of net.shape c))) ×
      OwnPayload net.layout net.shape next (from_of net.shape c) (to_of net.shape c) (length (ls.got c) + length (fabric.transit c)) m.payload
  own_sent n at next new b grows sends c h carries = elim (either_way (sends_by net ls (Act n at) c)) [
    | inl on ↦
        let number = sent_number n at c b h carries on in
        let g = grows (from_of net.shape c) in
        inr (sends.message c, sends.sent c h on, omega (arith, number.1, g), sends.own c h on carries (length (ls.got c) + length (fabric.transit c)) number.1)
    | inr off ↦ inl (sends.others c h off)
  ]
