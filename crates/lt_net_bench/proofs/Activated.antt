-- Nodes and channels after an activation.
use Rattle.std.proofs.Common.{◌≡◌, ◌⊎◌, inl, inr, ℕ, suc, ◌+◌, ◌<◌, ◌≤◌, Bool, true, false, not, List, length, set, Some, refl, sym, ap, ◌∙◌, subst, arith, cond}
use Rattle.std.specs.Prelude.{◌==◌, ◌&&◌, ◌||◌}
use Rattle.std.specs.List.{slice_get}
use Rattle.std.proofs.lemmas.Bool.Decides.{Decides-eqb}
use Rattle.std.proofs.lemmas.Option.{slice_get_within}
use Rattle.lt_base.specs.declared.value.Value.{Value}
use Rattle.lt_arch.specs.declared.event.Deed.{Deed}
use Rattle.lt_arch.specs.declared.event.Deed.TheVariants.{Nothing, Execute, Send}
use Rattle.lt_arch.specs.State.{State, Phase, executed_of, sent_of}
use Rattle.lt_arch.specs.Readers.{chan_count, to_of, carries_data}
use Rattle.lt_arch.specs.Step.{is_execute, is_send}
use Rattle.lt_link.specs.Bits.{bit_of}
use Rattle.lt_link.specs.Inbox.{InboxState}
use Rattle.lt_net_node.specs.Acts.{takes_on, marked, MarkedOn}
use Rattle.lt_net_bench.specs.Changes.{IsAhead, ActsOn}
use Rattle.lt_net_node.specs.Payloads.{message_of}
use Rattle.lt_net_bench.specs.Bench.{BenchState}
use Rattle.lt_net_bench.specs.Standing.{StandsAt}
use Rattle.lt_net_bench.proofs.Entries.{got_entry, same_number, either_way, and_parts}
use Rattle.lt_machine.specs.declared.machine.Machine.{Ghosts as Machines}
use Rattle.lt_arch.specs.declared.controller.Controller.{Ghosts as Controls}

takes_data : (d : Deed) (b : Bool) → ((is_execute d && (b && true)) || (is_send d && (b && not true))) ≡ (b && is_execute d)
takes_data Nothing true = refl
takes_data Nothing false = refl
takes_data Execute true = refl
takes_data Execute false = refl
takes_data Send true = refl
takes_data Send false = refl

takes_ack : (d : Deed) (b : Bool) → ((is_execute d && (b && false)) || (is_send d && (b && not false))) ≡ (b && is_send d)
takes_ack Nothing true = refl
takes_ack Nothing false = refl
takes_ack Execute true = refl
takes_ack Execute false = refl
takes_ack Send true = refl
takes_ack Send false = refl

not_not : (b : Bool) → not (not b) ≡ b
not_not true = refl
not_not false = refl

pub marked_payload : (on : Bool) (d : InboxState) → (marked on d).payload ≡ d.payload
marked_payload true d = refl
marked_payload false d = refl

pub marked_bit : (on : Bool) (d : InboxState) → (marked on d).bit ≡ d.bit
marked_bit true d = refl
marked_bit false d = refl

-- the bit last read, where it is that of a count that grows exactly where it is read
read_by : (on : Bool) (d : InboxState) (before now : Bool) → ((on ≡ true) × (now ≡ d.bit)) ⊎ ((on ≡ false) × (now ≡ before)) → d.read ≡ before → (marked on d).read ≡ now
read_by on d before now h is = elim h [ inl a ↦ ap (λ x. (marked x d).read) a.0 ∙ sym a.1 | inr a ↦ ap (λ x. (marked x d).read) a.0 ∙ is ∙ sym a.1 ]

and_false : (b : Bool) → (b && false) ≡ false
and_false true = refl
and_false false = refl

pub plus_none : (k : ℕ) → k + cond false 1 0 ≡ k
plus_none k = omega arith

le_both : (a b : ℕ) → a ≤ b → b ≤ a → a ≡ b
le_both a b h k = omega (arith, h, k)

module _ {C M : Type 0} (ctl : Controls C) (mch : Machines M) (p : BenchState C M) (n : ℕ) (deed : Deed) (woken : Phase) (st st' : State)
    (inputs got : ℕ → List (List Value)) (s : StandsAt ctl mch p st inputs got) (acts : ActsOn n deed woken st st') where
  pub phases_are : (cs : List C) (control : C) → cs ≡ set p.controllers n control → n < length p.controllers → ctl.phase control ≡ woken → (i : ℕ) (c : C) → slice_get cs i ≡ Some c → ctl.phase c ≡ (st'.node i).phase
  phases_are cs control is within woke i c h = elim (got_entry p.controllers n i control c within (ap (λ xs. slice_get xs i) (sym is) ∙ h)) [
    | inl e ↦ ap ctl.phase e.1 ∙ woke ∙ sym acts.here ∙ ap (λ j. (st'.node j).phase) (sym e.0)
    | inr e ↦ s.phases i c e.1 ∙ sym (acts.elsewhere i e.0)
  ]

  pub messages_are : (c : ℕ) → c < chan_count p.shape → length (got c) ≡ (st'.chan c).delivered
  messages_are c h = s.messages c h ∙ sym (acts.delivered c)

  module _ (before : IsAhead p.shape st) (then : IsAhead p.shape st') where
    -- by the state after it, a node that executes has every message that its instant uses
    pub fresh_to_execute : is_execute deed ≡ true → (c : ℕ) → c < chan_count p.shape → carries_data p.shape c ≡ true → to_of p.shape c ≡ n → length (got c) ≡ executed_of st n
    fresh_to_execute on c h data_too to =
        let low : executed_of st' n ≤ (st'.chan c).delivered + 1 = subst (λ i. executed_of st' i ≤ (st'.chan c).delivered + 1) to (then.data_low c h data_too) in
        let high : (st.chan c).delivered ≤ executed_of st n = subst (λ i. (st.chan c).delivered ≤ executed_of st i) to (before.data_high c h data_too) in
        let grew : executed_of st' n ≡ executed_of st n + 1 = acts.executed n ∙ ap (λ x. executed_of st n + cond x 1 0) (ap (λ x. x && is_execute deed) (same_number n) ∙ on) in
        let same = acts.delivered c in
        let count = s.messages c h in
        omega (arith, low, high, grew, same, count)

    -- the inboxes, of which some became read
    module _ (ibs : List InboxState) (marks : MarkedOn (takes_on p.shape n deed) p.inboxes ibs) (inboxes : length p.inboxes ≡ chan_count p.shape) where
      pub bits_are : (c : ℕ) (d : InboxState) → slice_get ibs c ≡ Some d → d.bit ≡ bit_of (length (got c))
      bits_are c d h = let e = marks.each c d h in ap (λ (z : InboxState). z.bit) e.2 ∙ marked_bit _ (e.0) ∙ s.bits c (e.0) (e.1)

      pub payloads_are : (c : ℕ) (d : InboxState) → slice_get ibs c ≡ Some d → carries_data p.shape c ≡ true → d.payload ≡ message_of p.layout p.shape got c (length (got c))
      payloads_are c d h data_too = let e = marks.each c d h in ap (λ (z : InboxState). z.payload) e.2 ∙ marked_payload _ (e.0) ∙ s.payloads c (e.0) (e.1) data_too

      pub data_reads_are : (c : ℕ) (d : InboxState) → slice_get ibs c ≡ Some d → carries_data p.shape c ≡ true → d.read ≡ bit_of (suc (st'.node (to_of p.shape c)).executed)
      data_reads_are c d h data_too =
          let e = marks.each c d h in
          let to = to_of p.shape c in
          let cb : c < chan_count p.shape = let w = slice_get_within ibs c d h in omega (arith, w, marks.same_length, inboxes) in
          let on_is : takes_on p.shape n deed c ≡ ((to == n) && is_execute deed) = rw data_too (takes_data deed (to == n)) in
          ap (λ (z : InboxState). z.read) e.2
          ∙ read_by (takes_on p.shape n deed c) (e.0) (bit_of (suc (executed_of st to))) (bit_of (suc (st'.node to).executed)) (elim (either_way ((to == n) && is_execute deed)) [
            | inl hit ↦
                let parts = and_parts (to == n) (is_execute deed) hit in
                let here : to ≡ n = (Decides-eqb to n).0 parts.0 in
                let now = acts.executed to ∙ ap (λ x. executed_of st to + cond x 1 0) hit in
                let new : (st'.node to).executed ≡ suc (executed_of st to) = omega (arith, now) in
                let came : length (got c) ≡ executed_of st to = fresh_to_execute parts.1 c cb data_too here ∙ ap (λ i. executed_of st i) (sym here) in
                inl (on_is ∙ hit, ap (λ x. bit_of (suc x)) new ∙ not_not (bit_of (executed_of st to)) ∙ ap bit_of (sym came) ∙ sym (s.bits c (e.0) (e.1)))
            | inr miss ↦
                let now = acts.executed to ∙ ap (λ x. executed_of st to + cond x 1 0) miss in
                let same : (st'.node to).executed ≡ executed_of st to = omega (arith, now) in
                inr (on_is ∙ miss, ap (λ x. bit_of (suc x)) same)
          ]) (s.data_reads c (e.0) (e.1) data_too)

      pub ack_reads_are : (c : ℕ) (d : InboxState) → slice_get ibs c ≡ Some d → carries_data p.shape c ≡ false → d.read ≡ bit_of (sent_of st' (to_of p.shape c))
      ack_reads_are c d h ack =
          let e = marks.each c d h in
          let to = to_of p.shape c in
          let cb : c < chan_count p.shape = let w = slice_get_within ibs c d h in omega (arith, w, marks.same_length, inboxes) in
          let on_is : takes_on p.shape n deed c ≡ ((to == n) && is_send deed) = rw ack (takes_ack deed (to == n)) in
          ap (λ (z : InboxState). z.read) e.2
          ∙ read_by (takes_on p.shape n deed c) (e.0) (bit_of (sent_of st to)) (bit_of (sent_of st' to)) (elim (either_way ((to == n) && is_send deed)) [
            | inl hit ↦
                let now = acts.sent to ∙ ap (λ x. sent_of st to + cond x 1 0) hit in
                let low = then.ack_low c cb ack in
                let high = before.ack_high c cb ack in
                let there : sent_of st' to ≡ length (got c) =
                le_both _ _ (subst (λ x. sent_of st' to ≤ x) (acts.delivered c ∙ sym (s.messages c cb)) low) (subst (λ x. length (got c) ≤ x) (sym now) (subst (λ x. x ≤ sent_of st to + 1) (sym (s.messages c cb)) high)) in
                inl (on_is ∙ hit, ap bit_of there ∙ sym (s.bits c (e.0) (e.1)))
            | inr miss ↦
                let now = acts.sent to ∙ ap (λ x. sent_of st to + cond x 1 0) miss in
                inr (on_is ∙ miss, ap bit_of (now ∙ plus_none (sent_of st to)))
          ]) (s.ack_reads c (e.0) (e.1) ack)

      -- after a deed other than Execute they stand for the same lists
      module _ (idle : is_execute deed ≡ false) (cs : List C) (control : C) (controls : cs ≡ set p.controllers n control) (within : n < length p.controllers) (woke : ctl.phase control ≡ woken) where
        executed_same : (i : ℕ) → (st.node i).executed ≡ (st'.node i).executed
        executed_same i = sym (acts.executed i ∙ ap (λ x. executed_of st i + cond ((i == n) && x) 1 0) idle ∙ ap (λ x. executed_of st i + cond x 1 0) (and_false (i == n)) ∙ plus_none (executed_of st i))

        pub idle_at : StandsAt ctl mch (record p { controllers = cs; inboxes = ibs }) st' inputs got
        idle_at = record {
          phases = phases_are cs control controls within woke;
          rows = λ i h. s.rows i h ∙ executed_same i;
          messages = messages_are;
          fit = s.fit;
          ran = s.ran;
          steps_left = s.steps_left;
          payloads = payloads_are;
          bits = bits_are;
          data_reads = data_reads_are;
          ack_reads = ack_reads_are;
          buffers = s.buffers;
        }
