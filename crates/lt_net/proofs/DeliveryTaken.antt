-- A delivery, by what code has.
use Rattle.std.proofs.Common.{◌≤◌, ◌≡◌, ◌≢◌, inl, inr, ℕ, ◌<◌, Bool, not, List, [], ◌∷◌, ◌++◌, length, set, Option, Some, None, cond, nat_eq, refl, sym, ap, ◌∙◌, subst, arith, length-set}
use Rattle.std.specs.Prelude.{slice_index_or}
use Rattle.std.specs.List.{slice_get}
use Rattle.std.proofs.lemmas.Bool.Decides.{eqb_tells}
use Rattle.std.proofs.lemmas.List.{get_or-set_same, get_or-set_other}
use Rattle.std.proofs.lemmas.Option.{slice_get-get_or}
use Rattle.lt_base.specs.declared.value.Value.{Value}
use Rattle.lt_arch.specs.declared.event.Event.TheVariants.{Del}
use Rattle.lt_arch.specs.declared.shape.Shape.{Shape}
use Rattle.lt_arch.specs.declared.timing.Timing.{Timing}
use Rattle.lt_arch.specs.State.{State}
use Rattle.lt_arch.specs.Readers.{chan_count}
use Rattle.lt_arch.specs.Step.{offence_of, too_early}
use Rattle.lt_arch.specs.Times.{Times, HasTimes, in_transit}
use Rattle.lt_arch.proofs.Facts.{clear}
use Rattle.lt_io.specs.declared.message.Message.{Message}
use Rattle.lt_io.specs.FabricState.{FabricState}
use Rattle.lt_net_bench.specs.Room.{HasSizes}
use Rattle.lt_net_bench.proofs.SizesStay.{sizes_delivered}
use Rattle.lt_net.proofs.Benches.{sizes_of, sized_by}
use Rattle.lt_net.specs.Net.{TimedBenchState, Lists, reached_state, bench_of}
use Rattle.lt_link.specs.Inbox.{InboxState, no_inbox}
use Rattle.lt_net.specs.Stands.{NetStands}
use Rattle.lt_net.specs.Event.{ListsGoOn, Happens, FabricHolds, HeldBy, HasKinds, EventIsTaken}
use Rattle.lt_net.specs.Kept.{Kept}
use Rattle.lt_net.specs.Receives.{Receives}
use Rattle.lt_net.proofs.DeliveryStands.{delivered_stands}
use Rattle.lt_net.proofs.EndStands.{Passes}
use Rattle.lt_arch.specs.declared.limits.TheConstants.{GREATEST_TIME}
use Rattle.lt_machine.specs.declared.machine.Machine.{Ghosts as Machines}
use Rattle.lt_arch.specs.declared.controller.Controller.{Ghosts as Controls}

not_early : (c dmin at : ℕ) (xs : List ℕ) → too_early c dmin at xs ≡ None → xs ≢ []
not_early c dmin at [] h = absurd (cc)
not_early c dmin at (x ∷ xs) h = λ e. absurd (cc)

held_some : (v : Option ℕ) (last : Bool) (ms : List Message) → in_transit v ≢ [] → HeldBy v last ms → ms ≢ []
held_some None last ms h held = absurd (h refl)
held_some (Some at) last [] h held = elim held [ ]
held_some (Some at) last (m ∷ ms) h held = λ e. absurd (cc)

held_cons : (v : Option ℕ) (last : Bool) (m : Message) (ms : List Message) → HeldBy v last (m ∷ ms) → (m.bit ≡ not last) × (ms ≡ [])
held_cons None last m ms held = absurd (cc)
held_cons (Some at) last m ms held = held

module _ {C M : Type 0} (ctl : Controls C) (mch : Machines M) (net : TimedBenchState C M) (kept : Kept ctl mch net)
    (ch at : ℕ) (timely : at ≤ GREATEST_TIME) (below : ch < chan_count net.shape) (passes : (s : Shape) (t : Timing) (st : State) → HasTimes net.watch s t st → offence_of s t st (Del ch at) ≡ None) where
  here : ch < length net.watch.sends
  here = omega (arith, below, kept.sized.sends)

  clear_of : (ls : Lists) → NetStands ctl mch net ls → Passes net.shape net.timing (reached_state net ls) (Del ch at)
  clear_of ls s = (timely, passes net.shape net.timing (reached_state net ls) s.times)

  pub some_there : (old : FabricState) → FabricHolds net old → old.transit ch ≢ []
  some_there old holds =
      let found = kept.standing in
      let s = found.1 in
      let own = (clear net.shape net.timing (reached_state net found.0) (Del ch at) (clear_of found.0 s).1).own in
      held_some (slice_index_or net.watch.sends ch None) _ (old.transit ch)
      (subst (λ xs. xs ≢ []) (s.times.transit ch below) (not_early ch _ at _ own)) (holds.transit ch below)

  module _ (old new : FabricState) (holds : FabricHolds net old) (kinds : HasKinds net old) (ibs : List InboxState) (received : Receives net.inboxes ibs old new ch) (w : Times) (watch : w ≡ record net.watch { sends = set net.watch.sends ch None; latest = Some at }) where
    abbrev box : InboxState
    box = slice_index_or net.inboxes ch no_inbox

    at_box : slice_get net.inboxes ch ≡ Some box
    at_box = slice_get-get_or net.inboxes ch no_inbox (omega (arith, below, kept.sized.inboxes))

    held : (received.message.bit ≡ not box.bit) × (new.transit ch ≡ [])
    held =
        let d = received.delivers in
        let h = held_cons (slice_index_or net.watch.sends ch None) box.bit d.oldest (new.transit ch) (subst (λ ms. HeldBy (slice_index_or net.watch.sends ch None) box.bit ms) d.taken (holds.transit ch below)) in
        (d.bit ∙ h.0, h.1)

    abbrev after_net : TimedBenchState C M
    after_net = record net { inboxes = ibs; watch = w }

    goes_on : (ls next : Lists) (row : Option (List Value)) → NetStands ctl mch net ls → ListsGoOn net ls next (Del ch at) row received.message.payload → NetStands ctl mch after_net next
    goes_on ls next row s goes =
        subst (λ z. NetStands ctl mch (record net { inboxes = z; watch = w }) next) (sym received.inboxes)
        (subst (λ z. NetStands ctl mch (record net { inboxes = set net.inboxes ch (record box { payload = received.message.payload; bit = received.message.bit }); watch = z }) next) (sym watch)
        (delivered_stands ctl mch net ch at kept.fixed.whole kept.fixed.laid kept.fixed.channels kept.fixed.one_place ls next s (clear_of ls s) received.message.payload row goes box at_box below received.message.bit held.0 kept.sized.machines))

    sizes_after : HasSizes (record (bench_of net) { inboxes = ibs })
    sizes_after = subst (λ z. HasSizes (record (bench_of net) { inboxes = z })) (sym received.inboxes)
        (sizes_delivered (bench_of net) (sizes_of net kept.sized) ch below (record box { payload = received.message.payload; bit = received.message.bit }) (received.delivers.typed ∙ kinds.each ch below))

    pub kept_arrival : Kept ctl mch after_net
    kept_arrival =
        let z = kept.sized in
        record {
          fixed = kept.fixed;
          sized = sized_by after_net sizes_after (ap (λ (z : Times). length z.lasts) watch ∙ z.lasts) (ap (λ (z : Times). length z.sends) watch ∙ length-set net.watch.sends ch None ∙ z.sends);
          standing =
              let found = kept.standing in
              let ls = found.0 in
              let next : Lists = record { events = ls.events ++ Del ch at ∷ []; inputs = ls.inputs; got = λ c. cond (nat_eq c ch) (ls.got c ++ received.message.payload ∷ []) (ls.got c) } in
              let goes : ListsGoOn net ls next (Del ch at) None received.message.payload = record {
                events = refl;
                inputs = λ i. refl;
                got = record {
                  there = elim (eqb_tells ch ch) [ inl h ↦ rw h.0 refl | inr h ↦ absurd (h.1 refl) ];
                  elsewhere = λ c ne. elim (eqb_tells c ch) [ inl h ↦ absurd (ne h.1) | inr h ↦ rw h.0 refl ];
                };
              } in
              (next, goes_on ls next None found.1 goes);
        }

    pub arrival_happens : (row : Option (List Value)) → Happens (NetStands ctl mch net) (NetStands ctl mch after_net) net (Del ch at) row old new
    arrival_happens row = record {
      payload = received.message.payload;
      goes = λ ls next s goes. goes_on ls next row s goes;
      carried = λ ls next s goes. (received.message, refl, received.delivers);
    }

    pub arrival_holds : FabricHolds after_net new
    arrival_holds = record {
      transit = λ c h. elim (eqb_tells c ch) [
        | inl e ↦
            let gone : slice_index_or w.sends ch None ≡ None = ap (λ (z : Times). slice_index_or z.sends ch None) watch ∙ get_or-set_same net.watch.sends ch None None here in
            subst (λ c. HeldBy (slice_index_or w.sends c None) (slice_index_or ibs c no_inbox).bit (new.transit c)) (sym e.1)
            (subst (λ v. HeldBy v (slice_index_or ibs ch no_inbox).bit (new.transit ch)) (sym gone) held.1)
        | inr e ↦
            let sends : slice_index_or w.sends c None ≡ slice_index_or net.watch.sends c None = ap (λ (z : Times). slice_index_or z.sends c None) watch ∙ get_or-set_other net.watch.sends ch c None None e.1 in
            let boxes : slice_index_or ibs c no_inbox ≡ slice_index_or net.inboxes c no_inbox = ap (λ bs. slice_index_or bs c no_inbox) received.inboxes ∙ get_or-set_other net.inboxes ch c _ no_inbox e.1 in
            subst (λ v. HeldBy v (slice_index_or ibs c no_inbox).bit (new.transit c)) (sym sends)
            (subst (λ (z : InboxState). HeldBy (slice_index_or net.watch.sends c None) z.bit (new.transit c)) (sym boxes)
            (subst (λ ms. HeldBy (slice_index_or net.watch.sends c None) (slice_index_or net.inboxes c no_inbox).bit ms) (sym (received.delivers.elsewhere c e.1)) (holds.transit c h)))
      ];
    }

-- a delivery, by what code has: the parts of the net before it
pub delivered_taken : {C M : Type 0} (ctl : Controls C) (mch : Machines M) (net now : TimedBenchState C M) → net ≡ now → Kept ctl mch now →
    (ch at : ℕ) → at ≤ GREATEST_TIME → ch < chan_count now.shape → ((s : Shape) (t : Timing) (st : State) → HasTimes now.watch s t st → offence_of s t st (Del ch at) ≡ None) →
    (old new : FabricState) → FabricHolds now old → HasKinds now old → (ibs : List InboxState) → Receives net.inboxes ibs old new ch → (w : Times) → w ≡ record net.watch { sends = set net.watch.sends ch None; latest = Some at } →
    (v : ℕ) → v ≡ net.values → (row : Option (List Value)) → EventIsTaken ctl mch now (record net { inboxes = ibs; watch = w; values = v }) (Del ch at) row old new
delivered_taken {C} {M} ctl mch net now is kept ch at timely below passes old new holds kinds ibs received w watch v v_is row =
    subst (λ (z : TimedBenchState C M). Kept ctl mch z → ch < chan_count z.shape → ((s : Shape) (t : Timing) (st : State) → HasTimes z.watch s t st → offence_of s t st (Del ch at) ≡ None) → FabricHolds z old → HasKinds z old →
    EventIsTaken ctl mch z (record net { inboxes = ibs; watch = w; values = v }) (Del ch at) row old new) is
    (λ kept below passes holds kinds.
    subst (λ v. EventIsTaken ctl mch net (record net { inboxes = ibs; watch = w; values = v }) (Del ch at) row old new) (sym v_is) (record {
      kept = kept_arrival ctl mch net kept ch at timely below passes old new holds kinds ibs received w watch;
      happens = arrival_happens ctl mch net kept ch at timely below passes old new holds kinds ibs received w watch row;
      holds = arrival_holds ctl mch net kept ch at timely below passes old new holds kinds ibs received w watch;
      kinds = received.delivers.kinds;
    }))
    kept below passes holds kinds
