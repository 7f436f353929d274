-- Every event without an offence leaves a net that stands, and a fabric that has in transit what its state says.
use Rattle.std.proofs.Common.{◌≡◌, inl, inr, ℕ, suc, ◌<◌, true, false, not, Bool, List, [], ◌∷◌, ◌++◌, length, set, Option, Some, None, refl, sym, ap, ◌∙◌, subst, arith}
use Rattle.std.specs.Prelude.{◌||◌, if◌then◌else◌, slice_index_or}
use Rattle.std.proofs.lemmas.Option.{slice_get-get_or}
use Rattle.std.specs.List.{slice_get}
use Rattle.lt_base.specs.declared.value.Value.{Value}
use Rattle.lt_arch.specs.declared.event.Deed.{Deed}
use Rattle.lt_arch.specs.declared.event.Deed.TheVariants.{Nothing, Send, Execute}
use Rattle.lt_arch.specs.declared.event.Event.TheVariants.{Act, Del}
use Rattle.lt_arch.specs.Readers.{node_count, chan_count, from_of, to_of}
use Rattle.lt_io.specs.declared.message.Message.{Message}
use Rattle.lt_io.specs.FabricState.{FabricState, Delivers}
use Rattle.lt_link.specs.Bits.{differ}
use Rattle.lt_link.specs.Inbox.{InboxState, has_unread, no_inbox}
use Rattle.lt_lossy.specs.declared.event.LossyEvent.TheVariants.{Plain}
use Rattle.lt_lossy.specs.Times.{without_oldest, with_losses}
use Rattle.lt_net_bench.specs.Standing.{HasOwnValues}
use Rattle.lt_net_bench.proofs.Bits.{differ_is, differ_none}
use Rattle.lt_net_bench.proofs.Entries.{either_way}
use Rattle.lt_net_bench.proofs.OwnValues.{own_taken}
use Rattle.lt_net_lossy.specs.Net.{LossyBenchState, LossyLists, lossy_state_of}
use Rattle.lt_net_lossy.specs.Event.{PassesLossy, RowsGo, LossyGoesOn, lossy_deed_by, brings_new, is_unread}
use Rattle.lt_net_lossy.specs.Taken.{OwnStays}
use Rattle.lt_net_lossy.specs.Kept.{IsFixedLossy, HasLossySizes}
use Rattle.lt_net_lossy.specs.Receives.{with_latest}
use Rattle.lt_net_lossy.specs.Laws.{StandsWith, KeepsAct, KeepsDel, KeepsStanding, EventsKeep}
use Rattle.lt_net_lossy.proofs.Acted.{idle_stands, instant_stands, idle_rows, took_row}
use Rattle.lt_net_lossy.proofs.Arrived.{ended, lost, arrived, own_still, got_copy}
use Rattle.lt_net_lossy.proofs.Copied.{Copied, copied_lists, copied, copy_own}
use Rattle.lt_net_lossy.proofs.Transit.{acted_holds, delivered_holds, lost_holds, ended_holds, bit_tells, copies_own}
use Rattle.lt_machine.specs.declared.machine.Machine.{Ghosts as Machines}
use Rattle.lt_arch.specs.declared.controller.Controller.{Ghosts as Controls}

-- a message with another bit goes into an inbox
new_latest : (b : InboxState) (payload : List Value) (bit : Bool) → differ bit b.bit ≡ true → with_latest b payload bit ≡ record b { payload = payload; bit = bit }
new_latest b payload bit new = ap (λ x. if x || has_unread b then record b { payload = payload; bit = bit } else b) new

module _ {C M : Type 0} (ctl : Controls C) (mch : Machines M) (net : LossyBenchState C M) (ls next : LossyLists) (row : Option (List Value)) (payload : List Value) (fabric : FabricState)
    (fixed : IsFixedLossy net.layout net.shape net.timing) (sized : HasLossySizes net) (with : StandsWith ctl mch net ls fabric) where
  -- where the lists are the same
  pub same_own : next.inputs ≡ ls.inputs → next.got ≡ ls.got → (c k : ℕ) (p : List Value) → c < chan_count net.shape → k < length (ls.inputs (from_of net.shape c)) → HasOwnValues net.layout net.shape ls.inputs ls.got (from_of net.shape c) (to_of net.shape c) k p →
      HasOwnValues net.layout net.shape next.inputs next.got (from_of net.shape c) (to_of net.shape c) k p
  same_own inputs got c k p lt h own = subst (λ rs. HasOwnValues net.layout net.shape rs next.got (from_of net.shape c) (to_of net.shape c) k p) (sym inputs)
      (subst (λ g. HasOwnValues net.layout net.shape ls.inputs g (from_of net.shape c) (to_of net.shape c) k p) (sym got) own)

  acts : (n at : ℕ) (fabric' : FabricState) → PassesLossy net ls (Plain (Act n at)) → n < node_count net.shape → LossyGoesOn net ls next (Plain (Act n at)) row payload → KeepsAct ctl mch net ls next row fabric fabric' n at
  acts n at fabric' passes nb goes = record {
    idle = λ idle w notes cs controls ibs marks posted posts sends.
        let stood = idle_stands ctl mch net fixed sized ls next with.standing n at passes nb row payload goes w notes cs controls idle ibs marks posted posts in
        record {
          standing = stood;
          holds = record {
            transit = (acted_holds ctl mch net ls next with.standing fixed fabric with.holds
                (same_own (λ i m. idle_rows (lossy_deed_by net ls (Plain (Act n at))) n row ls.inputs next.inputs idle goes.inputs m i) (λ i c. goes.got c i)) n at passes goes.events posted stood.posted fabric' sends).transit;
          };
        };
    instant = λ executes w notes cs controls input is_row fits room mid ex sends.
        let stood = instant_stands ctl mch net fixed sized ls next with.standing n at passes nb row payload goes w notes cs controls executes input is_row fits room mid ex in
        record {
          standing = stood;
          holds = record { transit = (acted_holds ctl mch net ls next with.standing fixed fabric with.holds (own_on executes input is_row goes) n at passes goes.events net.posted stood.posted fabric' sends).transit };
        };
  }
    where
      own_on : lossy_deed_by net ls (Plain (Act n at)) ≡ Execute → (input : List Value) → row ≡ Rattle.std.proofs.Common.Some input → LossyGoesOn net ls next (Plain (Act n at)) row payload → (c k : ℕ) (p : List Value) → c < chan_count net.shape → k < length (ls.inputs (from_of net.shape c)) →
          HasOwnValues net.layout net.shape ls.inputs ls.got (from_of net.shape c) (to_of net.shape c) k p → HasOwnValues net.layout net.shape next.inputs next.got (from_of net.shape c) (to_of net.shape c) k p
      own_on executes input is_row goes c k p lt h own =
          let takes = took_row (lossy_deed_by net ls (Plain (Act n at))) n input ls.inputs next.inputs executes (subst (λ r. Rattle.lt_net_lossy.specs.Event.RowsGo n (lossy_deed_by net ls (Plain (Act n at))) r ls.inputs next.inputs) is_row goes.inputs) in
          let got : next.got ≡ ls.got = λ i c. goes.got c i in
          subst (λ g. HasOwnValues net.layout net.shape next.inputs g (from_of net.shape c) (to_of net.shape c) k p) (sym got)
          (own_taken net.layout net.shape ls.inputs next.inputs ls.got n input takes (from_of net.shape c) (to_of net.shape c) k p h own)

  delivers : (ch at : ℕ) (m : Message) (fabric' : FabricState) (b : InboxState) → PassesLossy net ls (Plain (Del ch at)) → ch < chan_count net.shape → LossyGoesOn net ls next (Plain (Del ch at)) row payload → Delivers fabric fabric' ch m →
      slice_get net.inboxes ch ≡ Rattle.std.proofs.Common.Some b → KeepsDel ctl mch net ls next payload fabric' ch at m b
  delivers ch at m fabric' b passes here goes from_fabric at_inbox = record {
    told = tells;
    arrival = λ is. elim (either_way (brings_new (lossy_state_of net ls) ch)) [
      | inl new ↦ came_new new
      | inr old ↦ came_again old
    ];
  }
    where
      sender : (c : ℕ) → c < chan_count net.shape → from_of net.shape c < node_count net.shape
      sender c lt = let e = fixed.channels.ends c lt in omega (arith, e, fixed.channels.nodes)

      tells : brings_new (lossy_state_of net ls) ch ≡ differ m.bit b.bit
      tells = bit_tells ctl mch net ls next with.standing fixed fabric with.holds ch here from_fabric.oldest (fabric'.transit ch) from_fabric.taken
          ∙ (λ i. differ (sym from_fabric.bit i) (sym (with.standing.bench.bits ch b at_inbox) i))

      inputs_are : next.inputs ≡ ls.inputs
      inputs_are = λ i n. goes.inputs n i

      came_new : brings_new (lossy_state_of net ls) ch ≡ true → StandsWith ctl mch (record net { inboxes = set net.inboxes ch (with_latest b payload m.bit); watch = with_losses (without_oldest net.watch ch at) ch 0 }) next fabric'
      came_new new =
          let opposite : m.bit ≡ not b.bit = differ_is m.bit b.bit (sym tells ∙ new) in
          subst (λ x. StandsWith ctl mch (record net { inboxes = set net.inboxes ch x; watch = with_losses (without_oldest net.watch ch at) ch 0 }) next fabric') (sym (new_latest b payload m.bit (sym tells ∙ new))) (record {
            standing = arrived ctl mch net ls next with.standing sized row payload ch at here passes goes fixed new b at_inbox m.bit opposite;
            holds = record {
              transit = (delivered_holds ctl mch net ls next with.standing fixed fabric with.holds
                  (λ c k p lt h own. own_still ctl mch net ls next with.standing sized row payload ch at here passes goes fixed new b at_inbox m.bit opposite (from_of net.shape c) (to_of net.shape c) k p (sender c lt) h own)
                  ch at m fabric' from_fabric passes goes.events).transit;
            };
          })

      came_again : brings_new (lossy_state_of net ls) ch ≡ false → StandsWith ctl mch (record net { inboxes = set net.inboxes ch (with_latest b payload m.bit); watch = with_losses (without_oldest net.watch ch at) ch 0 }) next fabric'
      came_again old =
          let some = copies_own ctl mch net ls next with.standing fixed fabric with.holds ch here from_fabric.oldest (fabric'.transit ch) from_fabric.taken old in
          let is_copy : Copied ctl mch net ls next with.standing sized fixed ch here b at_inbox payload (is_unread net.shape (lossy_state_of net ls) ch) =
          copied_lists ctl mch net ls next with.standing sized fixed ch here b at_inbox payload (is_unread net.shape (lossy_state_of net ls) ch) some.0 refl some.1
          (got_copy _ _ ls.got next.got ch payload old goes.got) in
          record {
            standing = copied ctl mch net ls next with.standing sized fixed ch here b at_inbox payload is_copy row at passes goes old m.bit (differ_none m.bit b.bit (sym tells ∙ old));
            holds = record {
              transit = (delivered_holds ctl mch net ls next with.standing fixed fabric with.holds
                  (λ c k p lt h own. subst (λ rs. HasOwnValues net.layout net.shape rs next.got (from_of net.shape c) (to_of net.shape c) k p) (sym inputs_are)
                  (copy_own ctl mch net ls next with.standing sized fixed ch here b at_inbox payload is_copy (from_of net.shape c) (to_of net.shape c) k p (sender c lt) h own))
                  ch at m fabric' from_fabric passes goes.events).transit;
            };
          }

  -- Own values of executed instants stay own values.

  pub rows_stay : (n : ℕ) (d : Deed) (r : Option (List Value)) → RowsGo n d r ls.inputs next.inputs → next.got ≡ ls.got → OwnStays net.layout net.shape ls next
  rows_stay n Nothing r go got = same_own (λ i m. go m i) got
  rows_stay n Send r go got = same_own (λ i m. go m i) got
  rows_stay n Execute None go got = absurd go
  rows_stay n Execute (Some input) go got = λ c k p lt h own. subst (λ g. HasOwnValues net.layout net.shape next.inputs g (from_of net.shape c) (to_of net.shape c) k p) (sym got)
      (own_taken net.layout net.shape ls.inputs next.inputs ls.got n input go (from_of net.shape c) (to_of net.shape c) k p h own)

  pub delivery_stays : (ch at : ℕ) → PassesLossy net ls (Plain (Del ch at)) → ch < chan_count net.shape → LossyGoesOn net ls next (Plain (Del ch at)) row payload →
      (o : Message) (later : List Message) → fabric.transit ch ≡ o ∷ later → OwnStays net.layout net.shape ls next
  delivery_stays ch at passes here goes o later taken c k p lt h own = elim (either_way (brings_new (lossy_state_of net ls) ch)) [
    | inl new ↦
        own_still ctl mch net ls next with.standing sized row payload ch at here passes goes fixed new box at_inbox o.bit (differ_is o.bit box.bit (sym tells ∙ new))
        (from_of net.shape c) (to_of net.shape c) k p sender h own
    | inr old ↦
        let some = copies_own ctl mch net ls next with.standing fixed fabric with.holds ch here o later taken old in
        let is_copy : Copied ctl mch net ls next with.standing sized fixed ch here box at_inbox payload (is_unread net.shape (lossy_state_of net ls) ch) =
        copied_lists ctl mch net ls next with.standing sized fixed ch here box at_inbox payload (is_unread net.shape (lossy_state_of net ls) ch) some.0 refl some.1
        (got_copy _ _ ls.got next.got ch payload old goes.got) in
        subst (λ rs. HasOwnValues net.layout net.shape rs next.got (from_of net.shape c) (to_of net.shape c) k p) (sym inputs_are)
        (copy_own ctl mch net ls next with.standing sized fixed ch here box at_inbox payload is_copy (from_of net.shape c) (to_of net.shape c) k p sender h own)
  ]
    where
      inputs_are : next.inputs ≡ ls.inputs
      inputs_are = λ i n. goes.inputs n i

      sender : from_of net.shape c < node_count net.shape
      sender = let e = fixed.channels.ends c lt in omega (arith, e, fixed.channels.nodes)

      box : InboxState
      box = slice_index_or net.inboxes ch no_inbox

      at_inbox : slice_get net.inboxes ch ≡ Some box
      at_inbox = slice_get-get_or net.inboxes ch no_inbox (omega (arith, here, sized.bench.inboxes))

      tells : brings_new (lossy_state_of net ls) ch ≡ differ o.bit box.bit
      tells = bit_tells ctl mch net ls next with.standing fixed fabric with.holds ch here o later taken ∙ ap (differ o.bit) (sym (with.standing.bench.bits ch box at_inbox))

  pub events_keep : KeepsStanding ctl mch net ls next row payload fabric
  events_keep = record {
    activation = acts;
    delivery = delivers;
    loss = λ ch at m fabric' passes here goes from_fabric. record {
      standing = lost ctl mch net ls next with.standing sized row payload ch at here passes goes;
      holds = record {
        transit = (lost_holds ctl mch net ls next with.standing fixed fabric with.holds (same_own (λ i n. goes.inputs n i) (λ i c. goes.got c i)) ch at m fabric' from_fabric passes goes.events).transit;
      };
    };
    ending = λ at passes goes. record {
      standing = ended ctl mch net ls next with.standing sized row payload at passes goes;
      holds = record { transit = (ended_holds ctl mch net ls next with.standing fixed fabric with.holds (same_own (λ i n. goes.inputs n i) (λ i c. goes.got c i)) at passes goes.events).transit };
    };
  }

pub law-events_keep : {C M : Type 0} (ctl : Controls C) (mch : Machines M) → EventsKeep ctl mch
law-events_keep ctl mch net ls next row payload fabric fixed sized with = events_keep ctl mch net ls next row payload fabric fixed sized with
