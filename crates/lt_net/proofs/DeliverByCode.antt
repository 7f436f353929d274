-- A delivery, by what code has: nodes and channels before it, and the net that they are in.
use Rattle.std.proofs.Common.{◌≡◌, ◌≢◌, ℕ, ◌+◌, ◌*◌, ◌^◌, ◌<◌, ◌≤◌, List, [], length, map, set, Option, Some, None, IsTrue, refl, sym, ap, ◌∙◌, subst, arith}
use Rattle.std.specs.Prelude.{slice_index_or, Result, Ok, Err, IsErrOf, IsErrAnd}
use Rattle.lt_base.specs.declared.value.Value.{Value}
use Rattle.lt_base.specs.Value.{ty_of}
use Rattle.lt_arch.specs.declared.event.Event.TheVariants.{Del}
use Rattle.lt_arch.specs.declared.timing.Timing.{Timing}
use Rattle.lt_arch.specs.Readers.{chan_count}
use Rattle.lt_arch.specs.Times.{Times}
use Rattle.lt_io.specs.declared.fault.LinkErr.{LinkErr}
use Rattle.lt_io.specs.declared.fault.LinkErr.TheVariants.{Memory as NoMemory}
use Rattle.lt_io.specs.Counts.{LinkCounted}
use Rattle.lt_io.specs.FabricState.{FabricState, KeepsFabric, channel_kind}
use Rattle.lt_link.specs.Inbox.{InboxState, no_inbox}
use Rattle.lt_net_bench.specs.Bench.{BenchState}
use Rattle.lt_net.specs.Net.{TimedBenchState, timed_bench_of}
use Rattle.lt_net.specs.Event.{HasKinds}
use Rattle.lt_net.specs.Kept.{IsSized}
use Rattle.lt_net.specs.Receives.{Receives}
use Rattle.lt_net.specs.Answered.{CanTake, AnswersEvent}
use Rattle.lt_net.proofs.DeliveryTaken.{some_there, delivered_taken}
use Rattle.lt_net.proofs.ExecuteByCode.{err_is}
use Rattle.lt_net.proofs.Halting.{same_halted, no_error}
use Rattle.lt_net.proofs.NextLists.{fixed_refl}
use Rattle.lt_net.proofs.RoomStays.{room_stays}
use Rattle.lt_net.proofs.Ticks.{entry_ticks, no_ticks}
use Rattle.lt_machine.specs.declared.machine.Machine.{Ghosts as Machines}
use Rattle.lt_arch.specs.declared.controller.Controller.{Ghosts as Controls}

module _ {C M : Type 0} (ctl : Controls C) (mch : Machines M) (p b : BenchState C M) (t : Timing) (w : Times)
    (now : TimedBenchState C M) (p_is : p ≡ b) (b_is : timed_bench_of b t w ≡ now) (ch at : ℕ) (old : FabricState) (can_now : (row : Option (List Value)) × CanTake ctl mch now (Del ch at) row old) where
  abbrev can : CanTake ctl mch now (Del ch at) can_now.0 old
  can = can_now.1

  is : timed_bench_of p t w ≡ now
  is = ap (λ x. timed_bench_of x t w) p_is ∙ b_is

  sized : IsSized (timed_bench_of p t w)
  sized = subst (λ z. IsSized z) (sym is) can.kept.sized

  kinds : HasKinds (timed_bench_of p t w) old
  kinds = subst (λ z. HasKinds z old) (sym is) can.kinds

  below : ch < chan_count p.shape
  below = subst (λ (z : TimedBenchState C M). ch < chan_count z.shape) (sym is) can.event.placed

  -- What the call is owed.

  pub some : old.transit ch ≢ []
  some = some_there ctl mch now can.kept ch at can.event.timely can.event.placed can.passes old can.holds

  pub channel : ch < length old.kinds
  channel = let c = kinds.count in omega (arith, c, below)

  pub inbox : ch < length p.inboxes
  inbox = let z = sized.inboxes in omega (arith, z, below)

  pub types : map ty_of (slice_index_or p.inboxes ch no_inbox).payload ≡ channel_kind old ch
  types = sized.inbox_types ch below ∙ sym (kinds.each ch below)

  pub room : length (channel_kind old ch) ≤ p.values
  room = subst (λ (z : TimedBenchState C M). length (channel_kind old ch) ≤ z.values) (sym is) (subst (λ x. length x ≤ now.values) (sym (can.kinds.each ch can.event.placed)) (can.room.messages ch can.event.placed))

  pub place : ch < length w.sends
  place = let z = sized.sends in omega (arith, z, below)

  module _ (boxes : List InboxState) (values : ℕ) (values_is : values ≡ p.values) (fabric : FabricState) (keeps : KeepsFabric old fabric) (sound : IsTrue old.sound → fabric.faults ≡ old.faults) (s : ℕ) (row : Option (List Value)) where
    abbrev Answers : TimedBenchState C M → (s' : ℕ) → Result (Unit {0}) LinkErr → Type 0
    Answers m s' r = AnswersEvent ctl mch now m (Del ch at) row old fabric s s' r

    -- a call on the fabric failed, and nothing changed
    pub undelivered : boxes ≡ p.inboxes → (e : LinkErr) → LinkCounted {T = Unit {0}} old.faults fabric.faults (Err e) → (IsTrue old.prompt → IsErrOf {T = Unit {0}} (Err e) NoMemory → ⊥) → (r : Result (Unit {0}) LinkErr) → IsErrAnd r (λ f. f ≡ e) →
        Answers (timed_bench_of (record p { inboxes = boxes; values = values }) t w) s r
    undelivered boxes_are e cause prompt r r_is =
        let m_is : timed_bench_of (record p { inboxes = boxes; values = values }) t w ≡ now = (λ i. timed_bench_of (record p { inboxes = boxes_are i; values = values_is i }) t w) ∙ is in
        subst (λ x. Answers (timed_bench_of (record p { inboxes = boxes; values = values }) t w) s x) (sym (err_is r e r_is))
        (subst (λ z. Answers z s (Err e)) (sym m_is) (record {
          taken = tt;
          halted = λ ls stood. same_halted ctl mch ls (Del ch at) row now now refl stood;
          sized = can.kept.sized;
          room = can.room;
          configured = can.configured;
          sizes = refl;
          fixed = fixed_refl now;
          keeps = keeps;
          cause = cause;
          sound = sound;
          prompt = prompt;
          ticks = λ ls stood k few. no_ticks mch.size now ls (Del ch at) k s s refl;
        }))

    -- the message is in its inbox
    pub delivered : Receives p.inboxes boxes old fabric ch → (v : Times) → v ≡ record w { sends = set w.sends ch None; latest = Some at } → fabric.faults ≡ old.faults → (s' : ℕ) → ((k : ℕ) → length w.lasts + length w.sends ≤ 2 ^ k → s' ≤ s + (8 * k + 8)) →
        Answers (timed_bench_of (record p { inboxes = boxes; values = values }) t v) s' (Ok tt)
    delivered received v v_is calm s' cost =
        let taken = delivered_taken ctl mch (timed_bench_of p t w) now is can.kept ch at can.event.timely can.event.placed can.passes old fabric can.holds can.kinds boxes received v v_is values values_is row in
        record {
          taken = taken;
          halted = tt;
          sized = taken.kept.sized;
          room = room_stays (timed_bench_of p t w) now is can.room v p.controllers boxes values values_is;
          configured = subst (λ (z : TimedBenchState C M). Rattle.lt_net_node.specs.Wakes.AreConfigured ctl z.timing z.controllers) (sym is) can.configured;
          sizes = ap (λ (z : TimedBenchState C M). map mch.size z.machines) is;
          fixed = record { layout = ap (λ (z : TimedBenchState C M). z.layout) is; shape = ap (λ (z : TimedBenchState C M). z.shape) is; timing = ap (λ (z : TimedBenchState C M). z.timing) is; rows = ap (λ (z : TimedBenchState C M). z.rows) is };
          keeps = keeps;
          cause = calm;
          sound = sound;
          prompt = λ quick. no_error tt NoMemory;
          ticks = λ ls stood k few.
              let z = can.kept.sized in
              let f : length now.watch.lasts + length now.watch.sends ≤ 2 ^ k = omega (arith, few, z.lasts, z.sends) in
              entry_ticks mch.size now ls (Del ch at) k s s' (cost k (subst (λ (x : TimedBenchState C M). length x.watch.lasts + length x.watch.sends ≤ 2 ^ k) (sym is) f));
        }
