-- Nodes and channels after a delivery, and where nothing that they count has changed.
use Rattle.std.proofs.Common.{◌≡◌, inl, inr, ℕ, suc, ◌-◌, ◌+◌, ◌<◌, Bool, true, false, not, List, [], ◌∷◌, length, map, set, Some, sym, ap, ◌∙◌, subst, arith, length-append, add-one}
use Rattle.std.specs.Prelude.{slice_index_or}
use Rattle.std.specs.List.{slice_get}
use Rattle.std.proofs.Math.Seq.{get_or-append_seam}
use Rattle.std.proofs.lemmas.Bool.Decides.{eqb_tells}
use Rattle.std.proofs.lemmas.Option.{slice_get_within}
use Rattle.lt_base.specs.declared.value.Value.{Value}
use Rattle.lt_base.specs.Program.{Function}
use Rattle.lt_base.specs.Meaning.{stream_of}
use Rattle.lt_base.specs.Typing.{input_types, AllFit}
use Rattle.lt_arch.specs.State.{State, NodeState, unsent, sent_of}
use Rattle.lt_arch.specs.Readers.{chan_count, to_of, from_of, carries_data}
use Rattle.lt_link.specs.Bits.{bit_of}
use Rattle.lt_link.specs.Inbox.{InboxState}
use Rattle.lt_place.specs.Layout.{part_of, crossing_of}
use Rattle.lt_net_bench.specs.Changes.{IsAhead, DeliversOn, StaysOn, Gets, HasEnough}
use Rattle.lt_net_node.specs.Channels.{HasChannels}
use Rattle.lt_net_node.specs.Layout.{IsLaidOut}
use Rattle.lt_net_node.specs.Local.{upto, fed_row, firsts}
use Rattle.lt_net_node.specs.Payloads.{payloads_between, row_at, message_of, channel_between}
use Rattle.lt_net_bench.specs.Bench.{BenchState}
use Rattle.lt_net_bench.specs.Standing.{HasRun, StandsAt}
use Rattle.lt_net_bench.proofs.Entries.{got_entry, message_same}
use Rattle.lt_net_bench.proofs.Firsts.{firsts-same, upto-same}
use Rattle.lt_net_bench.proofs.OwnValues.{Extends, SeesSame, sees_extended, fed_row_same, grows_extends, own_extended}
use Rattle.lt_machine.specs.declared.machine.Machine.{Ghosts as Machines}
use Rattle.lt_arch.specs.declared.controller.Controller.{Ghosts as Controls}

-- each node has at most one row more than each channel to it has payloads
pub enough_ahead : {C M : Type 0} (ctl : Controls C) (mch : Machines M) (p : BenchState C M) (f : Function) → IsLaidOut f p.layout → HasChannels p.layout p.shape →
    (st : State) (inputs got : ℕ → List (List Value)) → StandsAt ctl mch p st inputs got → IsAhead p.shape st → HasEnough p.layout p.shape inputs got
enough_ahead ctl mch p f placed channels st inputs got s ahead c h =
    let k = channel_between p.shape (crossing_of p.layout c).from (crossing_of p.layout c).to in
    let there = channels.there c h in
    let low = ahead.data_low k there (channels.carries c h) in
    let count = s.messages k there in
    let to = channels.to c h in
    let executed = s.rows (to_of p.shape k) (omega (arith, to, channels.nodes, placed.receivers c h)) in
    let same : length (inputs (to_of p.shape k)) ≡ length (inputs (crossing_of p.layout c).to) = ap (λ j. length (inputs j)) to in
    omega (arith, low, count, executed, same)

module _ {C M : Type 0} (ctl : Controls C) (mch : Machines M) (p : BenchState C M) (st st' : State) (inputs got : ℕ → List (List Value)) (s : StandsAt ctl mch p st inputs got) where
  -- nothing changed that they count
  pub stays_at : StaysOn st st' → StandsAt ctl mch p st' inputs got
  stays_at stays = record {
    phases = λ n c h. s.phases n c h ∙ ap (λ (nd : NodeState). nd.phase) (sym (stays.nodes n));
    rows = λ n h. s.rows n h ∙ ap (λ (nd : NodeState). nd.executed) (sym (stays.nodes n));
    messages = λ c h. s.messages c h ∙ sym (stays.delivered c);
    fit = s.fit;
    ran = s.ran;
    steps_left = s.steps_left;
    payloads = s.payloads;
    bits = s.bits;
    data_reads = λ c b h d. s.data_reads c b h d ∙ ap (λ (nd : NodeState). bit_of (suc nd.executed)) (sym (stays.nodes (to_of p.shape c)));
    ack_reads = λ c b h d. s.ack_reads c b h d ∙ ap (λ (nd : NodeState). bit_of (nd.executed - unsent nd.phase)) (sym (stays.nodes (to_of p.shape c)));
    buffers = s.buffers;
  }

  -- where each node sees the same messages, it has run the same
  module _ (f : Function) (placed : IsLaidOut f p.layout) (got' : ℕ → List (List Value)) (sees : (n : ℕ) → SeesSame p.layout (payloads_between p.shape got) (payloads_between p.shape got') n (length (inputs n))) where
    same_fed : (n k : ℕ) → n < length p.layout.nodes → k < length (inputs n) → fed_row p.layout (payloads_between p.shape got') n (row_at (inputs n) k) k ≡ fed_row p.layout (payloads_between p.shape got) n (row_at (inputs n) k) k
    same_fed n k nb h = fed_row_same f p.layout placed (payloads_between p.shape got) (payloads_between p.shape got') n (length (inputs n)) nb (sees n) (row_at (inputs n) k) k h

    same_rows : (n : ℕ) → n < length p.layout.nodes → firsts (λ k. fed_row p.layout (payloads_between p.shape got) n (row_at (inputs n) k) k) (length (inputs n)) ≡ firsts (λ k. fed_row p.layout (payloads_between p.shape got') n (row_at (inputs n) k) k) (length (inputs n))
    same_rows n nb = firsts-same _ _ (length (inputs n)) (λ k h. sym (same_fed n k nb h))

    same_upto : (n : ℕ) → n < length p.layout.nodes →
        upto (λ k. map Some (fed_row p.layout (payloads_between p.shape got) n (row_at (inputs n) k) k)) (length (inputs n)) ≡ upto (λ k. map Some (fed_row p.layout (payloads_between p.shape got') n (row_at (inputs n) k) k)) (length (inputs n))
    same_upto n nb = upto-same _ _ (length (inputs n)) (λ k h. ap (map Some) (sym (same_fed n k nb h)))

    pub fit_seen : (n : ℕ) → n < length p.layout.nodes → AllFit (input_types (part_of p.layout n).flat.func) (upto (λ k. map Some (fed_row p.layout (payloads_between p.shape got') n (row_at (inputs n) k) k)) (length (inputs n)))
    fit_seen n nb = subst (λ rs. AllFit (input_types (part_of p.layout n).flat.func) rs) (same_upto n nb) (s.fit n nb)

    pub ran_seen : length p.machines ≡ length p.layout.nodes → HasRun mch p.layout p.shape p.machines p.executed p.tracks inputs got'
    ran_seen machines = record {
      executed = s.ran.executed;
      machines = λ n m h. subst (λ rs. mch.stands m (part_of p.layout n).flat.func rs) (same_rows n (let w = slice_get_within p.machines n m h in omega (arith, w, machines))) (s.ran.machines n m h);
      steps_made = s.ran.steps_made;
      cells = λ y n x yb nb gives. s.ran.cells y n x yb nb gives ∙ ap (λ rs. stream_of [] (part_of p.layout n).flat.func rs x) (same_rows n nb);
    }

  -- a payload was delivered
  module _ (ch : ℕ) (delivers : DeliversOn ch st st') (f : Function) (placed : IsLaidOut f p.layout) (channels : HasChannels p.layout p.shape) (ahead : IsAhead p.shape st) (got' : ℕ → List (List Value)) (payload : List Value) (gets : Gets got got' ch payload)
      (b : InboxState) (at_inbox : slice_get p.inboxes ch ≡ Some b) (here : ch < chan_count p.shape) (bit : Bool) (bit_is : bit ≡ not b.bit) where
    enough : HasEnough p.layout p.shape inputs got
    enough = enough_ahead ctl mch p f placed channels st inputs got s ahead

    extends : Extends (payloads_between p.shape got) (payloads_between p.shape got')
    extends = grows_extends p.shape got got' ch payload gets

    sees : (n : ℕ) → SeesSame p.layout (payloads_between p.shape got) (payloads_between p.shape got') n (length (inputs n))
    sees = sees_extended p.layout inputs (payloads_between p.shape got) (payloads_between p.shape got') extends enough

    longer : length (got' ch) ≡ length (got ch) + 1
    longer = ap length gets.there ∙ length-append (got ch) (payload ∷ [])

    pub delivered_at : length p.machines ≡ length p.layout.nodes → StandsAt ctl mch (record p { inboxes = set p.inboxes ch (record b { payload = payload; bit = bit }) }) st' inputs got'
    delivered_at machines =
        let in_inboxes = slice_get_within p.inboxes ch b at_inbox in
        record {
          phases = λ n c h. s.phases n c h ∙ ap (λ (nd : NodeState). nd.phase) (sym (delivers.nodes n));
          rows = λ n h. s.rows n h ∙ ap (λ (nd : NodeState). nd.executed) (sym (delivers.nodes n));
          messages = λ c h. elim (eqb_tells c ch) [
            | inl e ↦ subst (λ c. length (got' c) ≡ (st'.chan c).delivered) (sym e.1) (longer ∙ ap (λ x. x + 1) (s.messages ch here) ∙ sym delivers.here)
            | inr e ↦ ap length (gets.elsewhere c e.1) ∙ s.messages c h ∙ sym (delivers.elsewhere c e.1)
          ];
          fit = fit_seen f placed got' sees;
          ran = ran_seen f placed got' sees machines;
          steps_left = s.steps_left;
          payloads = λ c d h data_too. elim (got_entry p.inboxes ch c (record b { payload = payload; bit = bit }) d in_inboxes h) [
            | inl e ↦ ap (λ (x : InboxState). x.payload) e.1 ∙ subst (λ c. payload ≡ message_of p.layout p.shape got' c (length (got' c))) (sym e.0)
                (sym (ap (message_of p.layout p.shape got' ch) (longer ∙ add-one (length (got ch))) ∙ ap (λ ms. slice_index_or ms (length (got ch)) []) gets.there ∙ get_or-append_seam (got ch) payload [] []))
            | inr e ↦ s.payloads c d e.1 data_too ∙ sym (ap (message_of p.layout p.shape got' c) (ap length (gets.elsewhere c e.0)) ∙ message_same p.layout p.shape got got' c (length (got c)) (gets.elsewhere c e.0))
          ];
          bits = λ c d h. elim (got_entry p.inboxes ch c (record b { payload = payload; bit = bit }) d in_inboxes h) [
            | inl e ↦ ap (λ (x : InboxState). x.bit) e.1 ∙ bit_is ∙ ap not (s.bits ch b at_inbox) ∙ subst (λ c. bit_of (suc (length (got ch))) ≡ bit_of (length (got' c))) (sym e.0) (ap bit_of (sym (longer ∙ add-one (length (got ch)))))
            | inr e ↦ s.bits c d e.1 ∙ ap (λ ms. bit_of (length ms)) (sym (gets.elsewhere c e.0))
          ];
          data_reads = λ c d h data_too. elim (got_entry p.inboxes ch c (record b { payload = payload; bit = bit }) d in_inboxes h) [
            | inl e ↦ ap (λ (x : InboxState). x.read) e.1 ∙ s.data_reads ch b at_inbox (subst (λ c. carries_data p.shape c ≡ true) e.0 data_too)
                ∙ subst (λ c. bit_of (suc (st.node (to_of p.shape ch)).executed) ≡ bit_of (suc (st'.node (to_of p.shape c)).executed)) (sym e.0) (ap (λ (nd : NodeState). bit_of (suc nd.executed)) (sym (delivers.nodes (to_of p.shape ch))))
            | inr e ↦ s.data_reads c d e.1 data_too ∙ ap (λ (nd : NodeState). bit_of (suc nd.executed)) (sym (delivers.nodes (to_of p.shape c)))
          ];
          ack_reads = λ c d h ack. elim (got_entry p.inboxes ch c (record b { payload = payload; bit = bit }) d in_inboxes h) [
            | inl e ↦ ap (λ (x : InboxState). x.read) e.1 ∙ s.ack_reads ch b at_inbox (subst (λ c. carries_data p.shape c ≡ false) e.0 ack)
                ∙ subst (λ c. bit_of (sent_of st (to_of p.shape ch)) ≡ bit_of (sent_of st' (to_of p.shape c))) (sym e.0) (ap (λ (nd : NodeState). bit_of (nd.executed - unsent nd.phase)) (sym (delivers.nodes (to_of p.shape ch))))
            | inr e ↦ s.ack_reads c d e.1 ack ∙ ap (λ (nd : NodeState). bit_of (nd.executed - unsent nd.phase)) (sym (delivers.nodes (to_of p.shape c)))
          ];
          buffers = λ c k h carries len.
              own_extended f p.layout p.shape placed inputs got got' enough extends (from_of p.shape c) (to_of p.shape c) k (slice_index_or p.buffers c []) (channels.ends c h) (omega (arith, len)) (s.buffers c k h carries len);
        }
