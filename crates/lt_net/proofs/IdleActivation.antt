-- An activation that does not execute, by what code has.
use Rattle.std.proofs.Common.{◌≡◌, ◌≢◌, ◌⊎◌, inl, inr, ℕ, suc, ◌+◌, ◌<◌, ◌≤◌, Bool, true, false, not, List, [], ◌∷◌, ◌++◌, length, set, Option, Some, None, IsTrue, refl, sym, ap, ◌∙◌, subst, arith, cond, length-set}
use Rattle.std.specs.Prelude.{slice_index_or, ◌&&◌, nat_lt}
use Rattle.std.specs.List.{slice_get}
use Rattle.std.proofs.lemmas.Option.{slice_get_within, slice_get-get_or}
use Rattle.lt_base.specs.declared.value.Value.{Value}
use Rattle.lt_arch.specs.declared.event.Deed.{Deed}
use Rattle.lt_arch.specs.declared.event.Deed.TheVariants.{Nothing, Execute, Send}
use Rattle.lt_arch.specs.declared.event.Event.TheVariants.{Act}
use Rattle.lt_arch.specs.declared.shape.Shape.{Shape}
use Rattle.lt_arch.specs.declared.timing.Timing.{Timing}
use Rattle.lt_arch.specs.State.{State, Phase}
use Rattle.lt_arch.specs.Readers.{node_count, chan_count, chan_of, to_of, from_of, carries_data, send_of, execute_of}
use Rattle.lt_arch.specs.Deeds.{deed_at, phase_at, phase_after}
use Rattle.lt_arch.specs.Step.{offence_of, is_execute, sends_on}
use Rattle.lt_arch.specs.Times.{Times, HasTimes, in_transit, SentOn}
use Rattle.lt_arch.proofs.Changes.{transit-act, one_if}
use Rattle.lt_io.specs.declared.message.Message.{Message}
use Rattle.lt_io.specs.FabricState.{FabricState}
use Rattle.lt_net.specs.Net.{TimedBenchState, Lists, bench_of, reached_state}
use Rattle.lt_link.specs.Inbox.{InboxState, no_inbox}
use Rattle.lt_net.specs.Stands.{NetStands}
use Rattle.lt_net.specs.Owns.{OwnPayload}
use Rattle.lt_net_bench.specs.Changes.{NoListChanged}
use Rattle.lt_net.specs.Event.{EventIsTaken, ListsGoOn, Happens, FabricHolds, HeldBy, InputsGo, SendsOwn}
use Rattle.lt_net.specs.Kept.{Kept}
use Rattle.lt_net_node.specs.Acts.{takes_on, marked, MarkedOn}
use Rattle.lt_net_node.specs.Freshness.{TakenUpTo}
use Rattle.lt_link.specs.Ports.{is_to, is_from}
use Rattle.lt_net.specs.Sends.{SendsUpTo, message_on, messages_with}
use Rattle.lt_net_node.specs.Wakes.{bits_of, Wakes, AreConfigured}
use Rattle.lt_net.proofs.Uncounted.{uncounted, uncounted_same, either_protocol}
use Rattle.lt_net_bench.proofs.Activated.{marked_bit}
use Rattle.lt_net_bench.proofs.SizesStay.{sizes_read}
use Rattle.lt_net.proofs.Benches.{sizes_of, sized_by}
use Rattle.lt_net_bench.proofs.Entries.{got_entry, or_false, true_false}
use Rattle.lt_net_node.proofs.Below.{lt_yes}
use Rattle.lt_net_node.proofs.InboxesRead.{taken_marks, no_marks}
use Rattle.lt_net_bench.proofs.DeedOfBits.{deed_is}
use Rattle.lt_net.proofs.Counts.{counted}
use Rattle.lt_net.proofs.Activations.{idle_stands, one_next, ahead_of}
use Rattle.lt_net.proofs.EndStands.{Passes}
use Rattle.lt_arch.specs.declared.limits.TheConstants.{GREATEST_TIME}
use Rattle.lt_machine.specs.declared.machine.Machine.{Ghosts as Machines}
use Rattle.lt_arch.specs.declared.controller.Controller.{Ghosts as Controls}

idle_inputs : (d : Deed) (n at : ℕ) (row : Option (List Value)) (old new : ℕ → List (List Value)) → is_execute d ≡ false → InputsGo (Act n at) d row old new → NoListChanged old new
idle_inputs Nothing n at row old new h go = go
idle_inputs Send n at row old new h go = go
idle_inputs Execute n at row old new h go = absurd (cc)

idle_goes : (d : Deed) (n at : ℕ) (row : Option (List Value)) (old : ℕ → List (List Value)) → is_execute d ≡ false → InputsGo (Act n at) d row old old
idle_goes Nothing n at row old h = λ i. refl
idle_goes Send n at row old h = λ i. refl
idle_goes Execute n at row old h = absurd (cc)

none_there : (v : Option ℕ) (xs : List ℕ) (one : Bool) → xs ≡ in_transit v → length xs + one_if one ≤ 1 → one ≡ true → v ≡ None
none_there None xs one e h t = refl
none_there (Some at) xs one e h t = absurd (let n = ap length e in let m = ap one_if t in omega (arith, h, n, m))

module _ {C M : Type 0} (ctl : Controls C) (mch : Machines M) (net : TimedBenchState C M) (kept : Kept ctl mch net) (configured : AreConfigured ctl net.timing net.controllers)
    (n at : ℕ) (timely : at ≤ GREATEST_TIME) (nb : n < node_count net.shape) (passes : (s : Shape) (t : Timing) (st : State) → HasTimes net.watch s t st → offence_of s t st (Act n at) ≡ None)
    (cs : List C) (d : Deed)
    (wakes : Wakes ctl net.controllers cs n (bits_of net.shape.channels net.inboxes net.executed net.rows n) d) where
  pub here : n < length net.watch.lasts
  here = omega (arith, nb, kept.sized.lasts)

  pub clear_of : (ls : Lists) → NetStands ctl mch net ls → Passes net.shape net.timing (reached_state net ls) (Act n at)
  clear_of ls s = (timely, passes net.shape net.timing (reached_state net ls) s.times)

  pub deed_by_bits : (ls : Lists) → NetStands ctl mch net ls → d ≡ deed_at net.shape net.rows (reached_state net ls) n
  deed_by_bits ls s = deed_is ctl mch (bench_of net) (reached_state net ls) ls.inputs ls.got s.bench (ahead_of net.shape (reached_state net ls) (kept.fixed.one_place ls.events s.timely s.clean)) kept.sized.inboxes
      (counted net.shape net.timing net.rows ls.events s.clean).phases n (slice_index_or net.executed n 0) wakes.before d _ _ _ _
      (s.bench.phases n wakes.before wakes.there) (s.bench.ran.executed n nb ∙ s.bench.rows n nb) refl refl refl refl wakes.deed_is

  pub woke_is : (ls : Lists) → NetStands ctl mch net ls → ctl.phase wakes.after ≡ phase_at net.shape net.timing net.rows (reached_state net ls) n
  woke_is ls s =
      let before = wakes.before in
      let ph : Phase = ((reached_state net ls).node n).phase in
      let d' : Deed = deed_at net.shape net.rows (reached_state net ls) n in
      wakes.phase_is ∙ (λ i. phase_after (ctl.send wakes.before) (ctl.execute wakes.before) (s.bench.phases n wakes.before wakes.there i) (deed_by_bits ls s i)) ∙ elim (either_protocol net.timing.protocol) [
        | inl bp ↦ uncounted_same (ctl.send wakes.before) (ctl.execute wakes.before) (send_of net.timing n) (execute_of net.timing n) ph d' (uncounted net.shape net.timing net.rows bp ls.events n)
        | inr tb ↦ let c = configured.sends tb n wakes.before wakes.there in let e = configured.executes tb n wakes.before wakes.there in λ i. phase_after (c i) (e i) ph d'
      ]

  pub control_within : n < length net.controllers
  control_within = omega (arith, here, kept.sized.lasts, kept.sized.controllers)

  pub controls_length : length cs ≡ length net.controllers
  controls_length = ap length wakes.is ∙ length-set net.controllers n wakes.after

  entry_of : (i : ℕ) (control : C) → slice_get cs i ≡ Some control → ((i ≡ n) × (control ≡ wakes.after)) ⊎ (i ≢ n) × (slice_get net.controllers i ≡ Some control)
  entry_of i control h = got_entry net.controllers n i wakes.after control control_within (ap (λ xs. slice_get xs i) (sym wakes.is) ∙ h)

  pub configured_still : AreConfigured ctl net.timing cs
  configured_still = record {
    same_protocol = λ i control h. elim (entry_of i control h) [
      | inl e ↦ ap ctl.protocol e.1 ∙ wakes.protocol_is ∙ configured.same_protocol n wakes.before wakes.there
      | inr e ↦ configured.same_protocol i control e.1
    ];
    sends = λ tb i control h. elim (entry_of i control h) [
      | inl e ↦ ap ctl.send e.1 ∙ wakes.send_is ∙ configured.sends tb n wakes.before wakes.there ∙ ap (λ j. send_of net.timing j) (sym e.0)
      | inr e ↦ configured.sends tb i control e.1
    ];
    executes = λ tb i control h. elim (entry_of i control h) [
      | inl e ↦ ap ctl.execute e.1 ∙ wakes.execute_is ∙ configured.executes tb n wakes.before wakes.there ∙ ap (λ j. execute_of net.timing j) (sym e.0)
      | inr e ↦ configured.executes tb i control e.1
    ];
  }

  abbrev with_act : Lists → Lists
  with_act ls = record ls { events = ls.events ++ Act n at ∷ [] }

  -- a channel that is sent on has nothing in transit, for OnePlace holds afterwards too
  pub free_now : (c : ℕ) → c < chan_count net.shape → sends_on net.shape net.timing n d c ≡ true → slice_index_or net.watch.sends c None ≡ None
  free_now c h on =
      let found = kept.standing in
      let ls = found.0 in
      let s = found.1 in
      let one = (one_next ctl mch net n at kept.fixed.one_place ls (with_act ls) s (clear_of ls s) refl).one c h in
      let grew = transit-act net.shape net.timing net.rows (reached_state net ls) n at c in
      none_there (slice_index_or net.watch.sends c None) ((reached_state net ls).chan c).transit (sends_on net.shape net.timing n (deed_at net.shape net.rows (reached_state net ls) n) c)
      (s.times.transit c h) (omega (arith, one, grew)) (ap (λ x. sends_on net.shape net.timing n x c) (sym (deed_by_bits ls s)) ∙ on)

  pub empty_now : (old : FabricState) → FabricHolds net old → (c : ℕ) → c < chan_count net.shape → sends_on net.shape net.timing n d c ≡ true → old.transit c ≡ []
  empty_now old holds c h on = subst (λ v. HeldBy v (slice_index_or net.inboxes c no_inbox).bit (old.transit c)) (free_now c h on) (holds.transit c h)

  module _ (idle : is_execute d ≡ false) (w : Times) (sends : List (Option ℕ)) (on : SentOn (sends_on net.shape net.timing n d) at net.watch.sends sends)
      (watch : w ≡ record net.watch { lasts = set net.watch.lasts n (Some at); sends = sends; latest = Some at })
      (ibs : List InboxState) (marks : MarkedOn (takes_on net.shape n d) net.inboxes ibs) where
    abbrev idle_net : TimedBenchState C M
    idle_net = record net { watch = w; controllers = cs; inboxes = ibs }

    pub idle_next : (ls next : Lists) (row : Option (List Value)) → NetStands ctl mch net ls → ListsGoOn net ls next (Act n at) row [] → NetStands ctl mch idle_net next
    idle_next ls next row s goes =
        let is = deed_by_bits ls s in
        idle_stands ctl mch net n at kept.fixed.one_place ls next s (clear_of ls s) goes.events goes.got here
        (ap is_execute (sym is) ∙ idle) (idle_inputs d n at row ls.inputs next.inputs idle (subst (λ x. InputsGo (Act n at) x row ls.inputs next.inputs) (sym is) goes.inputs))
        w sends (subst (λ x. SentOn (sends_on net.shape net.timing n x) at net.watch.sends sends) is on) watch
        cs wakes.after wakes.is control_within (woke_is ls s)
        ibs (subst (λ x. MarkedOn (takes_on net.shape n x) net.inboxes ibs) is marks) kept.sized.inboxes

    entry_marked : (c : ℕ) → c < chan_count net.shape → (slice_index_or ibs c no_inbox) ≡ marked (takes_on net.shape n d c) (slice_index_or net.inboxes c no_inbox)
    entry_marked c h =
        let there = slice_get-get_or ibs c no_inbox (omega (arith, h, kept.sized.inboxes, marks.same_length)) in
        let e = marks.each c (slice_index_or ibs c no_inbox) there in
        e.2 ∙ ap (marked (takes_on net.shape n d c)) (sym (Rattle.std.proofs.lemmas.Option.get_or_from_slice_get net.inboxes c e.0 no_inbox e.1))

    pub bit_still : (c : ℕ) → c < chan_count net.shape → (slice_index_or ibs c no_inbox).bit ≡ (slice_index_or net.inboxes c no_inbox).bit
    bit_still c h = ap (λ (z : InboxState). z.bit) (entry_marked c h) ∙ marked_bit _ (slice_index_or net.inboxes c no_inbox)

    pub kept_idle : Kept ctl mch idle_net
    kept_idle =
        let z = kept.sized in
        record {
          fixed = kept.fixed;
          sized = sized_by idle_net (sizes_read (bench_of net) (sizes_of net z) cs controls_length (takes_on net.shape n d) ibs marks) (ap (λ (z : Times). length z.lasts) watch ∙ length-set net.watch.lasts n (Some at) ∙ z.lasts)
              (ap (λ (z : Times). length z.sends) watch ∙ on.same_length ∙ z.sends);
          standing =
              let found = kept.standing in
              let ls = found.0 in
              (with_act ls, idle_next ls (with_act ls) None found.1 (record { events = refl; inputs = subst (λ x. InputsGo (Act n at) x None ls.inputs ls.inputs) (deed_by_bits ls found.1) (idle_goes d n at None ls.inputs idle); got = λ c. refl }));
        }

  -- what was sent, and that the fabric holds it
  module _ (w : Times) (sends : List (Option ℕ)) (on : SentOn (sends_on net.shape net.timing n d) at net.watch.sends sends) (watch_sends : w.sends ≡ sends)
      (ibs : List InboxState) (bits : (c : ℕ) → c < chan_count net.shape → (slice_index_or ibs c no_inbox).bit ≡ (slice_index_or net.inboxes c no_inbox).bit)
      (old new : FabricState) (holds : FabricHolds net old) (message : ℕ → Message) (message_bits : (c : ℕ) → c < chan_count net.shape → (message c).bit ≡ not (slice_index_or net.inboxes c no_inbox).bit)
      (transit : (c : ℕ) → c < chan_count net.shape → new.transit c ≡ messages_with (sends_on net.shape net.timing n d c) (old.transit c) (message c)) where
    held_by : (c : ℕ) (h : c < chan_count net.shape) (b : Bool) → sends_on net.shape net.timing n d c ≡ b → HeldBy (cond b (Some at) (slice_index_or net.watch.sends c None)) (slice_index_or net.inboxes c no_inbox).bit (messages_with b (old.transit c) (message c))
    held_by c h true is = subst (λ ms. HeldBy (Some at) (slice_index_or net.inboxes c no_inbox).bit (ms ++ message c ∷ [])) (sym (empty_now old holds c h is)) (message_bits c h, refl)
    held_by c h false is = holds.transit c h

    pub sent_holds : (c : ℕ) → c < chan_count net.shape → HeldBy (slice_index_or w.sends c None) (slice_index_or ibs c no_inbox).bit (new.transit c)
    sent_holds c h =
        let each = on.each c (omega (arith, h, kept.sized.sends)) in
        let v : slice_index_or w.sends c None ≡ cond (sends_on net.shape net.timing n d c) (Some at) (slice_index_or net.watch.sends c None) = ap (λ xs. slice_index_or xs c None) watch_sends ∙ each in
        subst (λ x. HeldBy x (slice_index_or ibs c no_inbox).bit (new.transit c)) (sym v)
        (subst (λ b. HeldBy (cond (sends_on net.shape net.timing n d c) (Some at) (slice_index_or net.watch.sends c None)) b (new.transit c)) (sym (bits c h))
        (subst (λ ms. HeldBy (cond (sends_on net.shape net.timing n d c) (Some at) (slice_index_or net.watch.sends c None)) (slice_index_or net.inboxes c no_inbox).bit ms) (sym (transit c h))
        (held_by c h (sends_on net.shape net.timing n d c) refl)))

  pub carried_on : (ls next : Lists) (s : NetStands ctl mch net ls) (old new : FabricState) (message : ℕ → Message) → new.kinds ≡ old.kinds →
      ((c : ℕ) → c < chan_count net.shape → (message c).bit ≡ not (slice_index_or net.inboxes c no_inbox).bit) →
      ((c : ℕ) → c < chan_count net.shape → new.transit c ≡ messages_with (sends_on net.shape net.timing n d c) (old.transit c) (message c)) →
      (IsTrue old.told → (c : ℕ) → c < chan_count net.shape → new.sent c ≡ messages_with (sends_on net.shape net.timing n d c) (old.sent c) (message c)) →
      (IsTrue old.told → (c : ℕ) → c < chan_count net.shape → new.delivered c ≡ old.delivered c) →
      ((c : ℕ) → c < chan_count net.shape → sends_on net.shape net.timing n d c ≡ true → carries_data net.shape c ≡ true → (k : ℕ) → length (ls.inputs (from_of net.shape c)) ≡ suc k → OwnPayload net.layout net.shape next (from_of net.shape c) (to_of net.shape c) k (message c).payload) →
      SendsOwn net ls next (Act n at) old new
  carried_on ls next s old new message kinds bits transit sent delivered own =
      let is : (c : ℕ) → sends_on net.shape net.timing n (deed_at net.shape net.rows (reached_state net ls) n) c ≡ sends_on net.shape net.timing n d c = λ c. ap (λ x. sends_on net.shape net.timing n x c) (sym (deed_by_bits ls s)) in
      record {
        message = message;
        kinds = kinds;
        bits = λ c h. bits c h ∙ ap not (s.bench.bits c (slice_index_or net.inboxes c no_inbox) (slice_get-get_or net.inboxes c no_inbox (omega (arith, h, kept.sized.inboxes))));
        sent = λ c h on. transit c h ∙ ap (λ b. messages_with b (old.transit c) (message c)) (sym (is c) ∙ on);
        others = λ c h off. transit c h ∙ ap (λ b. messages_with b (old.transit c) (message c)) (sym (is c) ∙ off);
        told = λ t c h on. sent t c h ∙ ap (λ b. messages_with b (old.sent c) (message c)) (sym (is c) ∙ on);
        told_others = λ t c h off. sent t c h ∙ ap (λ b. messages_with b (old.sent c) (message c)) (sym (is c) ∙ off);
        delivered = delivered;
        own = λ c h on. own c h (sym (is c) ∙ on);
      }

  -- nothing to do
  module _ (idle : d ≡ Nothing) (w : Times) (watch : w ≡ record net.watch { lasts = set net.watch.lasts n (Some at); latest = Some at }) where
    sends_nothing : (c : ℕ) → sends_on net.shape net.timing n d c ≡ false
    sends_nothing c = ap (λ x. sends_on net.shape net.timing n x c) idle

    on_none : SentOn (sends_on net.shape net.timing n d) at net.watch.sends net.watch.sends
    on_none = record { same_length = refl; each = λ c h. ap (λ b. cond b (Some at) (slice_index_or net.watch.sends c None)) (sym (sends_nothing c)) }

    marks_none : MarkedOn (takes_on net.shape n d) net.inboxes net.inboxes
    marks_none = no_marks (takes_on net.shape n d) net.inboxes (λ c. ap (λ x. takes_on net.shape n x c) idle)

    abbrev nothing_net : TimedBenchState C M
    nothing_net = record net { watch = w; controllers = cs }

    pub kept_nothing : Kept ctl mch nothing_net
    kept_nothing = kept_idle (ap is_execute idle) w net.watch.sends on_none watch net.inboxes marks_none

    same_message : (ms : List Message) (m : Message) (c : ℕ) → ms ≡ messages_with (sends_on net.shape net.timing n d c) ms m
    same_message ms m c = ap (λ b. messages_with b ms m) (sym (sends_nothing c))

    pub nothing_happens : (row : Option (List Value)) (old : FabricState) → Happens (NetStands ctl mch net) (NetStands ctl mch nothing_net) net (Act n at) row old old
    nothing_happens row old = record {
      payload = [];
      goes = λ ls next s goes. idle_next (ap is_execute idle) w net.watch.sends on_none watch net.inboxes marks_none ls next row s goes;
      carried = λ ls next s goes. carried_on ls next s old old (λ c. record { payload = []; bit = not (slice_index_or net.inboxes c no_inbox).bit }) refl (λ c h. refl) (λ c h. same_message (old.transit c) _ c) (λ t c h. same_message (old.sent c) _ c) (λ t c h. refl)
          (λ c h on. absurd (true_false (sym on ∙ sends_nothing c)));
    }

    pub nothing_holds : (old : FabricState) → FabricHolds net old → FabricHolds nothing_net old
    nothing_holds old holds = record {
      transit = λ c h. sent_holds w net.watch.sends on_none (ap (λ (z : Times). z.sends) watch) net.inboxes (λ c h. refl) old old holds
          (λ c. record { payload = []; bit = not (slice_index_or net.inboxes c no_inbox).bit }) (λ c h. refl) (λ c h. same_message (old.transit c) _ c) c h;
    }

  -- its messages sent
  module _ (sending : d ≡ Send) (old new : FabricState) (w1 : Times) (upto : SendsUpTo (length net.shape.channels) (is_from net.shape.channels n true) (message_on net.buffers net.inboxes) at old new net.watch w1)
      (w : Times) (watch : w ≡ record w1 { lasts = set w1.lasts n (Some at); latest = Some at })
      (ibs : List InboxState) (taken : TakenUpTo (length net.shape.channels) (is_to net.shape.channels n false) net.inboxes ibs) where
    from_is : (c : ℕ) → is_from net.shape.channels n true c ≡ sends_on net.shape net.timing n Send c
    unfolding chan_of
    from_is c = sym (or_false (is_from net.shape.channels n true c))

    on_is : (c : ℕ) → c < chan_count net.shape → (nat_lt c (length net.shape.channels) && is_from net.shape.channels n true c) ≡ sends_on net.shape net.timing n d c
    on_is c h = ap (λ b. b && is_from net.shape.channels n true c) (lt_yes c (length net.shape.channels) h) ∙ from_is c ∙ ap (λ x. sends_on net.shape net.timing n x c) (sym sending)

    to_is : (c : ℕ) → is_to net.shape.channels n false c ≡ takes_on net.shape n Send c
    unfolding chan_of
    to_is c = refl

    on_sent : SentOn (sends_on net.shape net.timing n d) at net.watch.sends upto.notes.sends
    on_sent = record { same_length = upto.notes.same_length; each = λ c h. upto.notes.each c h ∙ ap (λ b. cond b (Some at) (slice_index_or net.watch.sends c None)) (on_is c (omega (arith, h, kept.sized.sends))) }

    watch_is : w ≡ record net.watch { lasts = set net.watch.lasts n (Some at); sends = upto.notes.sends; latest = Some at }
    watch_is = watch ∙ ap (λ (z : Times). record z { lasts = set z.lasts n (Some at); latest = Some at }) upto.notes.is

    marks_sent : MarkedOn (takes_on net.shape n d) net.inboxes ibs
    marks_sent = taken_marks (is_to net.shape.channels n false) (takes_on net.shape n d) net.inboxes ibs (subst (λ k. TakenUpTo k (is_to net.shape.channels n false) net.inboxes ibs) (sym kept.sized.inboxes) taken)
        (λ c h. to_is c ∙ ap (λ x. takes_on net.shape n x c) (sym sending))

    abbrev send_net : TimedBenchState C M
    send_net = record net { watch = w; controllers = cs; inboxes = ibs }

    no_execute : is_execute d ≡ false
    no_execute = ap is_execute sending

    pub kept_send : Kept ctl mch send_net
    kept_send = kept_idle no_execute w upto.notes.sends on_sent watch_is ibs marks_sent

    pub send_happens : (row : Option (List Value)) → Happens (NetStands ctl mch net) (NetStands ctl mch send_net) net (Act n at) row old new
    send_happens row = record {
      payload = [];
      goes = λ ls next s goes. idle_next no_execute w upto.notes.sends on_sent watch_is ibs marks_sent ls next row s goes;
      carried = λ ls next s goes.
          let same = idle_inputs d n at row ls.inputs next.inputs no_execute (subst (λ x. InputsGo (Act n at) x row ls.inputs next.inputs) (sym (deed_by_bits ls s)) goes.inputs) in
          let next_is : next ≡ record ls { events = next.events } = λ i. record { events = next.events; inputs = λ m. same m i; got = λ c. goes.got c i } in
          carried_on ls next s old new (message_on net.buffers net.inboxes) upto.sends.kinds (λ c h. refl)
          (λ c h. upto.sends.transit c ∙ ap (λ b. messages_with b (old.transit c) (message_on net.buffers net.inboxes c)) (on_is c h))
          (λ t c h. upto.sends.sent t c ∙ ap (λ b. messages_with b (old.sent c) (message_on net.buffers net.inboxes c)) (on_is c h))
          (λ t c h. upto.sends.delivered t c)
          (λ c h on carries k len. subst (λ (z : Lists). OwnPayload net.layout net.shape z (from_of net.shape c) (to_of net.shape c) k (slice_index_or net.buffers c [])) (sym next_is) (s.bench.buffers c k h carries len));
    }

    pub send_holds : FabricHolds net old → FabricHolds send_net new
    send_holds holds = record {
      transit = λ c h. sent_holds w upto.notes.sends on_sent (ap (λ (z : Times). z.sends) watch_is) ibs (bit_still no_execute w upto.notes.sends on_sent watch_is ibs marks_sent) old new holds
          (message_on net.buffers net.inboxes) (λ c h. refl) (λ c h. upto.sends.transit c ∙ ap (λ b. messages_with b (old.transit c) (message_on net.buffers net.inboxes c)) (on_is c h)) c h;
    }

  -- the conditions of the call
  module _ (sending : d ≡ Send) where
    pub send_free : (c : ℕ) → c < chan_count net.shape → is_from net.shape.channels n true c ≡ true → slice_index_or net.watch.sends c None ≡ None
    unfolding chan_of
    send_free c h on = free_now c h (ap (λ x. sends_on net.shape net.timing n x c) sending ∙ or_false (is_from net.shape.channels n true c) ∙ on)

    pub send_empty : (old : FabricState) → FabricHolds net old → (c : ℕ) → c < chan_count net.shape → is_from net.shape.channels n true c ≡ true → old.transit c ≡ []
    unfolding chan_of
    send_empty old holds c h on = empty_now old holds c h (ap (λ x. sends_on net.shape net.timing n x c) sending ∙ or_false (is_from net.shape.channels n true c) ∙ on)

-- what code has of an activation: the parts of the net before it
module _ {C M : Type 0} (ctl : Controls C) (mch : Machines M) (net now : TimedBenchState C M) (is : net ≡ now) where
  abbrev Ready : (n at : ℕ) → TimedBenchState C M → Type 0
  Ready n at z = Kept ctl mch z × AreConfigured ctl z.timing z.controllers × (n < node_count z.shape) × ((s : Shape) (t : Timing) (st : State) → HasTimes z.watch s t st → offence_of s t st (Act n at) ≡ None)

  module _ (n at : ℕ) (timely : at ≤ GREATEST_TIME) (ready : Ready n at now) (cs : List C) (d : Deed)
      (wakes : Wakes ctl net.controllers cs n (bits_of net.shape.channels net.inboxes net.executed net.rows n) d) where
    ready_net : Ready n at net
    ready_net = subst (λ z. Ready n at z) (sym is) ready

    pub configured_then : AreConfigured ctl net.timing cs
    configured_then = let r = ready_net in configured_still ctl mch net r.0 r.1 n at timely r.2 r.3 cs d wakes

    pub nothing_taken : d ≡ Nothing → (w : Times) → w ≡ record net.watch { lasts = set net.watch.lasts n (Some at); latest = Some at } → (row : Option (List Value)) (old : FabricState) → FabricHolds now old →
        EventIsTaken ctl mch now (record net { watch = w; controllers = cs }) (Act n at) row old old
    nothing_taken idle w watch row old holds =
        let r = ready_net in
        let h : FabricHolds net old = subst (λ z. FabricHolds z old) (sym is) holds in
        subst (λ z. EventIsTaken ctl mch z (record net { watch = w; controllers = cs }) (Act n at) row old old) is (record {
          kept = kept_nothing ctl mch net r.0 r.1 n at timely r.2 r.3 cs d wakes idle w watch;
          happens = nothing_happens ctl mch net r.0 r.1 n at timely r.2 r.3 cs d wakes idle w watch row old;
          holds = nothing_holds ctl mch net r.0 r.1 n at timely r.2 r.3 cs d wakes idle w watch old h;
          kinds = refl;
        })

    pub free_to_send : d ≡ Send → (c : ℕ) → c < chan_count net.shape → is_from net.shape.channels n true c ≡ true → slice_index_or net.watch.sends c None ≡ None
    free_to_send sending = let r = ready_net in send_free ctl mch net r.0 r.1 n at timely r.2 r.3 cs d wakes sending

    pub empty_to_send : d ≡ Send → (old : FabricState) → FabricHolds now old → (c : ℕ) → c < chan_count net.shape → is_from net.shape.channels n true c ≡ true → old.transit c ≡ []
    empty_to_send sending old holds = let r = ready_net in send_empty ctl mch net r.0 r.1 n at timely r.2 r.3 cs d wakes sending old (subst (λ z. FabricHolds z old) (sym is) holds)

    pub send_taken : d ≡ Send → (old new : FabricState) → FabricHolds now old → (w1 : Times) → SendsUpTo (length net.shape.channels) (is_from net.shape.channels n true) (message_on net.buffers net.inboxes) at old new net.watch w1 →
        (w : Times) → w ≡ record w1 { lasts = set w1.lasts n (Some at); latest = Some at } → (ibs : List InboxState) → TakenUpTo (length net.shape.channels) (is_to net.shape.channels n false) net.inboxes ibs → (row : Option (List Value)) →
        EventIsTaken ctl mch now (record net { watch = w; controllers = cs; inboxes = ibs }) (Act n at) row old new
    send_taken sending old new holds w1 upto w watch ibs taken row =
        let r = ready_net in
        let h : FabricHolds net old = subst (λ z. FabricHolds z old) (sym is) holds in
        subst (λ z. EventIsTaken ctl mch z (record net { watch = w; controllers = cs; inboxes = ibs }) (Act n at) row old new) is (record {
          kept = kept_send ctl mch net r.0 r.1 n at timely r.2 r.3 cs d wakes sending old new w1 upto w watch ibs taken;
          happens = send_happens ctl mch net r.0 r.1 n at timely r.2 r.3 cs d wakes sending old new w1 upto w watch ibs taken row;
          holds = send_holds ctl mch net r.0 r.1 n at timely r.2 r.3 cs d wakes sending old new w1 upto w watch ibs taken h;
          kinds = upto.sends.kinds;
        })
