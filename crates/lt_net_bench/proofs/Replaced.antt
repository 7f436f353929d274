-- Nodes and channels after a payload that no node has run on gave way to a copy.
use Rattle.std.proofs.Common.{◌≡◌, ◌≢◌, inl, inr, ℕ, suc, ◌-◌, ◌<◌, ◌≤◌, true, false, List, [], length, set, Some, sym, ap, ◌∙◌, subst, arith, length-set}
use Rattle.std.specs.Prelude.{slice_index_or}
use Rattle.std.specs.List.{slice_get}
use Rattle.std.proofs.lemmas.Bool.Decides.{eqb_tells}
use Rattle.std.proofs.lemmas.List.{get_or-set_same, get_or-set_other}
use Rattle.std.proofs.lemmas.Option.{slice_get_within}
use Rattle.lt_base.specs.declared.value.Value.{Value}
use Rattle.lt_base.specs.Program.{Function}
use Rattle.lt_arch.specs.declared.shape.Shape.{Shape}
use Rattle.lt_arch.specs.State.{State, sent_of}
use Rattle.lt_arch.specs.Readers.{chan_count, from_of, to_of, carries_data}
use Rattle.lt_link.specs.Bits.{bit_of}
use Rattle.lt_link.specs.Inbox.{InboxState}
use Rattle.lt_place.specs.declared.layout.Layout.{Layout}
use Rattle.lt_place.specs.Layout.{crossing_of}
use Rattle.lt_net_bench.specs.Changes.{Replaces}
use Rattle.lt_net_node.specs.Channels.{HasChannels}
use Rattle.lt_net_node.specs.Layout.{IsLaidOut}
use Rattle.lt_net_bench.specs.Own.{PayloadsAreOwn}
use Rattle.lt_net_node.specs.Payloads.{payloads_between, message_of, channel_between}
use Rattle.lt_net_bench.specs.Bench.{BenchState}
use Rattle.lt_net_bench.specs.Standing.{HasOwnValues, StandsAt}
use Rattle.lt_net_bench.proofs.Delivered.{fit_seen, ran_seen}
use Rattle.lt_net_bench.proofs.Entries.{got_entry, message_same}
use Rattle.lt_net_bench.proofs.OwnValues.{SeesSame, own_seen}
use Rattle.lt_machine.specs.declared.machine.Machine.{Ghosts as Machines}
use Rattle.lt_arch.specs.declared.controller.Controller.{Ghosts as Controls}

module _ (old new : ℕ → List (List Value)) (ch : ℕ) (payload : List Value) (replaces : Replaces old new ch payload) where
  -- each list is as long as it was
  pub replaced_length : (c : ℕ) → length (new c) ≡ length (old c)
  replaced_length c = elim (eqb_tells c ch) [
    | inl e ↦ subst (λ c. length (new c) ≡ length (old c)) (sym e.1) (ap length replaces.there ∙ length-set (old ch) (length (old ch) - 1) payload)
    | inr e ↦ ap length (replaces.elsewhere c e.1)
  ]

  -- and has the same entries but the last one of the channel
  pub replaced_entry : (c k : ℕ) → (c ≡ ch → suc k < length (old ch)) → slice_index_or (new c) k [] ≡ slice_index_or (old c) k []
  replaced_entry c k earlier = elim (eqb_tells c ch) [
    | inl e ↦
        let lt : suc k < length (old ch) = earlier e.1 in
        let other : k ≢ length (old ch) - 1 = omega (arith, lt) in
        subst (λ c. slice_index_or (new c) k [] ≡ slice_index_or (old c) k []) (sym e.1)
        (ap (λ ms. slice_index_or ms k []) replaces.there ∙ get_or-set_other (old ch) (length (old ch) - 1) k payload [] other)
    | inr e ↦ ap (λ ms. slice_index_or ms k []) (replaces.elsewhere c e.1)
  ]

  -- which is this payload
  pub replaced_last : (k : ℕ) → length (old ch) ≡ suc k → slice_index_or (new ch) k [] ≡ payload
  replaced_last k count =
      let at : length (old ch) - 1 ≡ k = omega (arith, count) in
      ap (λ ms. slice_index_or ms k []) (replaces.there ∙ ap (λ i. set (old ch) i payload) at) ∙ get_or-set_same (old ch) k payload [] (omega (arith, count))

  -- no node saw that one, where the receiver has not run the instant that it is for
  pub sees_replaced : (l : Layout) (s : Shape) → HasChannels l s → (inputs : ℕ → List (List Value)) → length (inputs (to_of s ch)) ≤ length (old ch) → (n : ℕ) → SeesSame l (payloads_between s old) (payloads_between s new) n (length (inputs n))
  sees_replaced l s channels inputs unread n = record {
    same = λ c k cb to h. replaced_entry (channel_between s (crossing_of l c).from (crossing_of l c).to) k (λ is.
        let there : n ≡ to_of s ch = sym to ∙ sym (channels.to c cb) ∙ ap (to_of s) is in
        let most : suc k < length (inputs (to_of s ch)) = subst (λ z. suc k < length (inputs z)) there h in
        omega (arith, most, unread));
  }

-- payloads stay their senders' own where the copy is its sender's own
module _ (f : Function) (l : Layout) (s : Shape) (layout : IsLaidOut f l) (channels : HasChannels l s) (inputs got got' : ℕ → List (List Value)) (ch : ℕ) (payload : List Value) (replaces : Replaces got got' ch payload)
    (unread : length (inputs (to_of s ch)) ≤ length (got ch)) (owns : PayloadsAreOwn l s inputs got)
    (own : ch < chan_count s → carries_data s ch ≡ true → (k : ℕ) → length (got ch) ≡ suc k → HasOwnValues l s inputs got (from_of s ch) (to_of s ch) k payload) where
  own_there : (i j k : ℕ) (p : List Value) → i < length l.nodes → k < length (inputs i) → HasOwnValues l s inputs got i j k p → HasOwnValues l s inputs got' i j k p
  own_there = own_seen f l s layout inputs got got' (sees_replaced got got' ch payload replaces l s channels inputs unread)

  same_entry : (c k : ℕ) → c < chan_count s → carries_data s c ≡ true → k < length (got c) → (c ≡ ch → suc k < length (got ch)) → HasOwnValues l s inputs got' (from_of s c) (to_of s c) k (slice_index_or (got' c) k [])
  same_entry c k cb carries h earlier =
      subst (λ p. HasOwnValues l s inputs got' (from_of s c) (to_of s c) k p) (sym (replaced_entry got got' ch payload replaces c k earlier))
      (own_there (from_of s c) (to_of s c) k _ (channels.ends c cb) (owns.before c k cb carries h) (owns.own c k cb carries h))

  last_entry : (k : ℕ) → ch < chan_count s → carries_data s ch ≡ true → length (got ch) ≡ suc k → HasOwnValues l s inputs got' (from_of s ch) (to_of s ch) k (slice_index_or (got' ch) k [])
  last_entry k cb carries count =
      subst (λ p. HasOwnValues l s inputs got' (from_of s ch) (to_of s ch) k p) (sym (replaced_last got got' ch payload replaces k count))
      (own_there (from_of s ch) (to_of s ch) k payload (channels.ends ch cb) (owns.before ch k cb carries (omega (arith, count))) (own cb carries k count))

  pub owns_replaced : PayloadsAreOwn l s inputs got'
  owns_replaced = record {
    before = λ c k cb carries h. owns.before c k cb carries (subst (λ m. k < m) (replaced_length got got' ch payload replaces c) h);
    own = λ c k cb carries h.
        let h' : k < length (got c) = subst (λ m. k < m) (replaced_length got got' ch payload replaces c) h in
        elim (eqb_tells c ch) [
          | inl e ↦ elim (eqb_tells (length (got ch)) (suc k)) [
            | inl g ↦ subst (λ j. HasOwnValues l s inputs got' (from_of s j) (to_of s j) k (slice_index_or (got' j) k [])) (sym e.1)
                (last_entry k (subst (λ j. j < chan_count s) e.1 cb) (subst (λ j. carries_data s j ≡ true) e.1 carries) g.1)
            | inr g ↦ same_entry c k cb carries h' (λ is. let h'' : k < length (got ch) = subst (λ j. k < length (got j)) is h' in let other = g.1 in omega (arith, h'', other))
          ]
          | inr e ↦ same_entry c k cb carries h' (λ is. absurd (e.1 is))
        ];
  }

-- where payloads that no node has seen changed, and with them what the inbox of a channel holds
pub replaced_at : {C M : Type 0} (ctl : Controls C) (mch : Machines M) (p : BenchState C M) (st : State) (inputs got : ℕ → List (List Value)) → StandsAt ctl mch p st inputs got →
    (f : Function) → IsLaidOut f p.layout → HasChannels p.layout p.shape → length p.machines ≡ length p.layout.nodes → (got' : ℕ → List (List Value)) → ((n : ℕ) → SeesSame p.layout (payloads_between p.shape got) (payloads_between p.shape got') n (length (inputs n))) →
    ((c : ℕ) → length (got' c) ≡ length (got c)) → (ch : ℕ) → ((c : ℕ) → c ≢ ch → got' c ≡ got c) → (b : InboxState) → slice_get p.inboxes ch ≡ Some b → (payload : List Value) →
    (carries_data p.shape ch ≡ true → payload ≡ message_of p.layout p.shape got' ch (length (got' ch))) → StandsAt ctl mch (record p { inboxes = set p.inboxes ch (record b { payload = payload }) }) st inputs got'
replaced_at ctl mch p st inputs got s f placed channels machines got' sees counts ch elsewhere b at_inbox payload is = record {
  phases = s.phases;
  rows = s.rows;
  messages = λ c h. counts c ∙ s.messages c h;
  fit = fit_seen ctl mch p st st inputs got s f placed got' sees;
  ran = ran_seen ctl mch p st st inputs got s f placed got' sees machines;
  steps_left = s.steps_left;
  payloads = λ c d h data_too. elim (got_entry p.inboxes ch c (record b { payload = payload }) d in_inboxes h) [
    | inl e ↦ ap (λ (x : InboxState). x.payload) e.1 ∙ subst (λ c. carries_data p.shape c ≡ true → payload ≡ message_of p.layout p.shape got' c (length (got' c))) (sym e.0) is data_too
    | inr e ↦ s.payloads c d e.1 data_too ∙ sym (ap (message_of p.layout p.shape got' c) (counts c) ∙ message_same p.layout p.shape got got' c (length (got c)) (elsewhere c e.0))
  ];
  bits = λ c d h. elim (got_entry p.inboxes ch c (record b { payload = payload }) d in_inboxes h) [
    | inl e ↦ ap (λ (x : InboxState). x.bit) e.1 ∙ s.bits ch b at_inbox ∙ subst (λ c. bit_of (length (got ch)) ≡ bit_of (length (got' c))) (sym e.0) (ap bit_of (sym (counts ch)))
    | inr e ↦ s.bits c d e.1 ∙ ap bit_of (sym (counts c))
  ];
  data_reads = λ c d h data_too. elim (got_entry p.inboxes ch c (record b { payload = payload }) d in_inboxes h) [
    | inl e ↦ ap (λ (x : InboxState). x.read) e.1 ∙ s.data_reads ch b at_inbox (subst (λ c. carries_data p.shape c ≡ true) e.0 data_too) ∙ ap (λ c. bit_of (suc (st.node (to_of p.shape c)).executed)) (sym e.0)
    | inr e ↦ s.data_reads c d e.1 data_too
  ];
  ack_reads = λ c d h ack. elim (got_entry p.inboxes ch c (record b { payload = payload }) d in_inboxes h) [
    | inl e ↦ ap (λ (x : InboxState). x.read) e.1 ∙ s.ack_reads ch b at_inbox (subst (λ c. carries_data p.shape c ≡ false) e.0 ack) ∙ ap (λ c. bit_of (sent_of st (to_of p.shape c))) (sym e.0)
    | inr e ↦ s.ack_reads c d e.1 ack
  ];
  buffers = λ c k h carries len. own_seen f p.layout p.shape placed inputs got got' sees (from_of p.shape c) (to_of p.shape c) k (slice_index_or p.buffers c []) (channels.ends c h) (omega (arith, len)) (s.buffers c k h carries len);
}
  where
    in_inboxes : ch < length p.inboxes
    in_inboxes = slice_get_within p.inboxes ch b at_inbox
