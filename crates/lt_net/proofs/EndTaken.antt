-- What a net keeps is kept.
use Rattle.std.proofs.Common.{refl, ◌<◌, ◌≤◌, ◌≡◌, ℕ, length, ap, List, [], ◌∷◌, ◌++◌, Option, Some, None, sym, ◌∙◌, subst}
use Rattle.lt_base.specs.declared.value.Value.{Value}
use Rattle.lt_arch.specs.declared.event.Event.{Event}
use Rattle.lt_arch.specs.declared.event.Event.TheVariants.{End}
use Rattle.lt_arch.specs.declared.event.Offence.{Offence}
use Rattle.lt_arch.specs.declared.shape.Shape.{Shape}
use Rattle.lt_arch.specs.declared.timing.Timing.{Timing}
use Rattle.lt_arch.specs.State.{State}
use Rattle.lt_arch.specs.Step.{offence_of}
use Rattle.lt_arch.specs.Times.{Times, HasTimes}
use Rattle.lt_net.specs.Net.{TimedBenchState, Lists, reached_state}
use Rattle.lt_net.specs.Stands.{NetStands}
use Rattle.lt_net.specs.Kept.{Kept}
use Rattle.std.specs.Prelude.{slice_index_or}
use Rattle.lt_link.specs.Inbox.{no_inbox}
use Rattle.lt_io.specs.FabricState.{FabricState}
use Rattle.lt_net.specs.Event.{EventIsTaken, FabricHolds, HeldBy, HasKinds, SameStatic}
use Rattle.lt_net_node.specs.Payloads.{types_for}
use Rattle.lt_arch.specs.Readers.{chan_count}
use Rattle.lt_net.proofs.EndStands.{end_happens_by, Passes, ended}
use Rattle.lt_arch.specs.declared.limits.TheConstants.{GREATEST_TIME}
use Rattle.lt_arch.specs.Step.{time_of}
use Rattle.lt_machine.specs.declared.machine.Machine.{Ghosts as Machines}
use Rattle.lt_arch.specs.declared.controller.Controller.{Ghosts as Controls}

module _ {C M : Type 0} (ctl : Controls C) (mch : Machines M) (net : TimedBenchState C M) (kept : Kept ctl mch net) where
  pub kept_end : (at : ℕ) (e : Event) → e ≡ End at → time_of e ≤ GREATEST_TIME → (w : Times) → w ≡ record net.watch { latest = Some at; horizon = Some at } →
      (o : Option Offence) → o ≡ None → ((s : Shape) (t : Timing) (st : State) → HasTimes net.watch s t st → o ≡ offence_of s t st e) →
      Kept ctl mch (record net { watch = w })
  kept_end at e ends timely w watch o none judged = record {
    fixed = kept.fixed;
    sized =
        let z = kept.sized in
        record { machines = z.machines; controllers = z.controllers; executed = z.executed; lasts = ap (λ (z : Times). length z.lasts) watch ∙ z.lasts; sends = ap (λ (z : Times). length z.sends) watch ∙ z.sends; inboxes = z.inboxes; buffers = z.buffers; inbox_types = z.inbox_types; buffer_types = z.buffer_types };
    standing =
        let old = kept.standing in
        let clear : Passes net.shape net.timing (reached_state net old.0) (End at) =
        subst (λ e. Passes net.shape net.timing (reached_state net old.0) e) ends (timely, sym (judged net.shape net.timing (reached_state net old.0) (old.1).times) ∙ none) in
        let next : Lists = record { events = (old.0).events ++ End at ∷ []; inputs = (old.0).inputs; got = (old.0).got } in
        (next, subst (λ w. NetStands ctl mch (record net { watch = w }) next) (sym watch) (ended ctl mch net at old.0 old.1 clear));
  }

  -- an end is taken
  pub end_taken : (at : ℕ) → at ≤ GREATEST_TIME → (w : Times) → w ≡ record net.watch { latest = Some at; horizon = Some at } → ((s : Shape) (t : Timing) (st : State) → HasTimes net.watch s t st → offence_of s t st (End at) ≡ None) →
      (row : Option (List Value)) (fabric : FabricState) → FabricHolds net fabric → EventIsTaken ctl mch net (record net { watch = w }) (End at) row fabric fabric
  end_taken at timely w watch passes row fabric holds = record {
    kept = kept_end at (End at) refl timely w watch None refl (λ s t st h. sym (passes s t st h));
    happens = end_happens_by ctl mch net at net refl (End at) refl timely w watch None refl (λ s t st h. sym (passes s t st h)) row fabric;
    holds = record { transit = λ c h. subst (λ (xs : List (Option ℕ)). HeldBy (slice_index_or xs c None) (slice_index_or net.inboxes c no_inbox).bit (fabric.transit c)) (sym (ap (λ (z : Times). z.sends) watch)) (holds.transit c h) };
    kinds = refl;
  }

-- an end, by what code has
pub ended_taken : {C M : Type 0} (ctl : Controls C) (mch : Machines M) (net now : TimedBenchState C M) → net ≡ now → Kept ctl mch now → (at : ℕ) (e : Event) → e ≡ End at → time_of e ≤ GREATEST_TIME →
    ((s : Shape) (t : Timing) (st : State) → HasTimes now.watch s t st → offence_of s t st e ≡ None) → (w : Times) → w ≡ record net.watch { latest = Some at; horizon = Some at } → (row : Option (List Value)) (fabric : FabricState) → FabricHolds now fabric →
    EventIsTaken ctl mch now (record net { watch = w }) e row fabric fabric
ended_taken ctl mch net now is kept at e ends timely passes w watch row fabric holds =
    subst (λ e. EventIsTaken ctl mch now (record net { watch = w }) e row fabric fabric) (sym ends)
    (subst (λ z. EventIsTaken ctl mch z (record net { watch = w }) (End at) row fabric fabric) is
    (end_taken ctl mch net (subst (λ z. Kept ctl mch z) (sym is) kept) at (subst (λ e. time_of e ≤ GREATEST_TIME) ends timely) w watch
    (λ s t st h. subst (λ e. offence_of s t st e ≡ None) ends (passes s t st (subst (λ z. HasTimes z.watch s t st) is h))) row fabric (subst (λ z. FabricHolds z fabric) (sym is) holds)))

-- the channels of the fabric stay
pub kinds_kept : {C M : Type 0} (old new : TimedBenchState C M) (fabric fabric' : FabricState) → HasKinds old fabric → SameStatic old new → fabric'.kinds ≡ fabric.kinds → HasKinds new fabric'
kinds_kept old new fabric fabric' h same is =
    let shape = same.shape in
    let layout = same.layout in
    record {
      count = ap length is ∙ h.count ∙ ap chan_count (sym shape);
      each = λ c lt. ap (λ ks. slice_index_or ks c []) is ∙ h.each c (subst (λ s. c < chan_count s) shape lt) ∙ (λ i. types_for (sym layout i) (sym shape i) c);
    }
