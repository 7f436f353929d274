-- The times of a watch follow a state from event to event.
use Rattle.std.proofs.Common.{◌≡◌, ℕ, ◌+◌, ◌<◌, List, [], ◌∷◌, ◌++◌, length, map, drop, set, Option, Some, None, is_some, Bool, true, false, refl, sym, ◌∙◌, ap, arith, slice_index_or, length-set, if◌then◌else◌}
use Rattle.std.proofs.lemmas.List.{get_or-set_same, get_or-set_other, map-append}
use Rattle.lt_arch.specs.declared.timing.Timing.{Timing}
use Rattle.lt_arch.specs.declared.shape.Shape.{Shape}
use Rattle.lt_arch.specs.declared.event.Event.TheVariants.{Act, Del, End}
use Rattle.lt_arch.specs.declared.event.Offence.{Offence}
use Rattle.lt_arch.specs.declared.event.Offence.TheVariants.{AfterEnd, Backwards}
use Rattle.lt_arch.specs.Readers.{from_of, to_of, dmin_of}
use Rattle.lt_arch.specs.Deadline.{first_due}
use Rattle.lt_arch.specs.Step.{offence_or_else, where_true, is_backwards, overdue_by, too_early, woken}
use Rattle.lt_arch.proofs.Facts.{clear}
use Rattle.lt_lossy.specs.declared.event.LossyEvent.TheVariants.{Plain, Lose}
use Rattle.lt_lossy.specs.State.{Message, LinkState, LossyState, plain_of}
use Rattle.lt_lossy.specs.Step.{lossy_offence, lossy_after, too_many_lost, sends_number, link_with_message, link_delivered, link_lost}
use Rattle.lt_lossy.specs.Times.{LossyTimes, HasLossyTimes, FollowsLossyEvents, AreQueued, queue_at, losses_at, with_last, without_oldest, with_losses, with_end}
use Rattle.lt_lossy.specs.Laws.{nothing_sent, loss_offence}
use Rattle.lt_lossy.proofs.Changes.{plain_clear, none_common, node-act, losses-act, link-del, link-lose}
use Rattle.lt_lossy.proofs.Losses.{loss-judged_in_order}

-- the send times
abbrev times : List Message → List ℕ
times xs = map (λ (m : Message). m.sent_at) xs

queued-sent : (b : Bool) (number at : ℕ) (link : LinkState) (queue : List ℕ) → times link.transit ≡ queue → times (link_with_message b number at link).transit ≡ (if b then queue ++ at ∷ [] else queue)
queued-sent true number at link queue e = map-append (λ (m : Message). m.sent_at) link.transit (record { number = number; sent_at = at } ∷ []) ∙ ap (λ xs. xs ++ at ∷ []) e
queued-sent false number at link queue e = e

-- something is in transit
abbrev IsSome : List Message → Type 0
IsSome [] = ⊥
IsSome (m ∷ later) = Unit {0}

some-early : (c dmin at : ℕ) (xs : List Message) → too_early c dmin at (times xs) ≡ None → IsSome xs
some-early c dmin at [] h = cc
some-early c dmin at (m ∷ later) h = tt

none-or : (a b : Option Offence) → offence_or_else a b ≡ None → b ≡ None
none-or None b h = h
none-or (Some o) b h = absurd cc

some-nothing : (c : ℕ) (xs : List Message) → nothing_sent c xs ≡ None → IsSome xs
some-nothing c [] h = cc
some-nothing c (m ∷ later) h = tt

module _ (s : Shape) (t : Timing) (allowed : ℕ) (st : LossyState) (c at : ℕ) where
  some-del : lossy_offence s t allowed st (Plain (Del c at)) ≡ None → IsSome (st.link c).transit
  some-del h = some-early c (dmin_of t (from_of s c) (to_of s c)) at (st.link c).transit (clear s t (plain_of st) (Del c at) (plain_clear s t allowed st (Del c at) h)).own

  some-lose : lossy_offence s t allowed st (Lose c at) ≡ None → IsSome (st.link c).transit
  some-lose h =
      let k = (none_common (loss_offence s t st c at) (too_many_lost allowed c (st.link c).losses) (sym (loss-judged_in_order s t st c at allowed) ∙ h)).0 in
      let own = nothing_sent c (st.link c).transit in
      let overdue = overdue_by s (Del c at) (first_due s t (plain_of st)) in
      let backwards = where_true (is_backwards at st.latest) Backwards in
      let ended = where_true (is_some st.horizon) AfterEnd in
      some-nothing c (st.link c).transit (none-or overdue own (none-or backwards (offence_or_else overdue own) (none-or ended (offence_or_else backwards (offence_or_else overdue own)) k)))

-- what the oldest message leaves
left-delivered : (link : LinkState) (xs : List Message) → IsSome xs → (times (link_delivered link xs).transit ≡ drop 1 (times xs)) × ((link_delivered link xs).losses ≡ 0)
left-delivered link [] some = absurd some
left-delivered link (m ∷ later) some = (refl, refl)

left-lost : (link : LinkState) (xs : List Message) → IsSome xs → (times (link_lost link xs).transit ≡ drop 1 (times xs)) × ((link_lost link xs).losses ≡ link.losses + 1)
left-lost link [] some = absurd some
left-lost link (m ∷ later) some = (refl, refl)

module _ (w : LossyTimes) (s : Shape) (t : Timing) (allowed rows : ℕ) (st : LossyState) (h : HasLossyTimes w s t allowed st) where
  noted-act : (n at : ℕ) (queues : List (List ℕ)) → n < length w.lasts → AreQueued (sends_number s n (woken s t rows (plain_of st) n at)) at w.queues queues →
      HasLossyTimes (record (with_last w n at) { queues = queues }) s t allowed (lossy_after s t rows st (Plain (Act n at)))
  unfolding lossy_after
  noted-act n at queues lt on = record {
    timing = h.timing;
    channels = h.channels;
    limit = h.limit;
    node_count = length-set w.lasts n (Some at) ∙ h.node_count;
    queue_count = on.same_length ∙ h.queue_count;
    losses_count = h.losses_count;
    last = λ i li. node-act s t rows st n at (λ v. slice_index_or (set w.lasts n (Some at)) i None ≡ v.last) i
        (λ e. rw e (get_or-set_same w.lasts n (Some at) None lt))
        (λ ne. get_or-set_other w.lasts n i (Some at) None ne ∙ h.last i li);
    transit = λ c lc.
        let each = on.each c (let q = h.queue_count in omega (arith, q)) in
        queued-sent (sends_number s n (woken s t rows (plain_of st) n at) c) _ at (st.link c) (queue_at w c) (h.transit c lc) ∙ sym each;
    losses = λ c lc. losses-act s t rows st n at c ∙ h.losses c lc;
    latest = refl;
    horizon = h.horizon;
  }

  module _ (c at : ℕ) (lt : c < length w.queues) where
    lost_lt : c < length w.losses
    lost_lt = let q = h.queue_count in let l = h.losses_count in omega (arith, q, l)

    chan_lt : c < length s.channels
    chan_lt = let q = h.queue_count in omega (arith, q)

    noted-del : lossy_offence s t allowed st (Plain (Del c at)) ≡ None → HasLossyTimes (with_losses (without_oldest w c at) c 0) s t allowed (lossy_after s t rows st (Plain (Del c at)))
    unfolding lossy_after
    noted-del free = record {
      timing = h.timing;
      channels = h.channels;
      limit = h.limit;
      node_count = h.node_count;
      queue_count = length-set w.queues c (drop 1 (queue_at w c)) ∙ h.queue_count;
      losses_count = length-set w.losses c 0 ∙ h.losses_count;
      last = h.last;
      transit = λ i li. link-del s t rows st c at (λ l. times l.transit ≡ slice_index_or (set w.queues c (drop 1 (queue_at w c))) i []) i
          (λ e. rw e ((left-delivered (st.link c) (st.link c).transit (some-del s t allowed st c at free)).0 ∙ (ap (drop 1) (h.transit c chan_lt) ∙ sym (get_or-set_same w.queues c (drop 1 (queue_at w c)) [] lt))))
          (λ ne. h.transit i li ∙ sym (get_or-set_other w.queues c i (drop 1 (queue_at w c)) [] ne));
      losses = λ i li. link-del s t rows st c at (λ l. l.losses ≡ slice_index_or (set w.losses c 0) i 0) i
          (λ e. rw e ((left-delivered (st.link c) (st.link c).transit (some-del s t allowed st c at free)).1 ∙ sym (get_or-set_same w.losses c 0 0 lost_lt)))
          (λ ne. h.losses i li ∙ sym (get_or-set_other w.losses c i 0 0 ne));
      latest = refl;
      horizon = h.horizon;
    }

    noted-lose : lossy_offence s t allowed st (Lose c at) ≡ None → HasLossyTimes (with_losses (without_oldest w c at) c (losses_at w c + 1)) s t allowed (lossy_after s t rows st (Lose c at))
    unfolding lossy_after
    noted-lose free = record {
      timing = h.timing;
      channels = h.channels;
      limit = h.limit;
      node_count = h.node_count;
      queue_count = length-set w.queues c (drop 1 (queue_at w c)) ∙ h.queue_count;
      losses_count = length-set w.losses c (losses_at w c + 1) ∙ h.losses_count;
      last = h.last;
      transit = λ i li. link-lose s t rows st c at (λ l. times l.transit ≡ slice_index_or (set w.queues c (drop 1 (queue_at w c))) i []) i
          (λ e. rw e ((left-lost (st.link c) (st.link c).transit (some-lose s t allowed st c at free)).0 ∙ (ap (drop 1) (h.transit c chan_lt) ∙ sym (get_or-set_same w.queues c (drop 1 (queue_at w c)) [] lt))))
          (λ ne. h.transit i li ∙ sym (get_or-set_other w.queues c i (drop 1 (queue_at w c)) [] ne));
      losses = λ i li. link-lose s t rows st c at (λ l. l.losses ≡ slice_index_or (set w.losses c (losses_at w c + 1)) i 0) i
          (λ e. rw e ((left-lost (st.link c) (st.link c).transit (some-lose s t allowed st c at free)).1 ∙ (ap (λ k. k + 1) (h.losses c chan_lt) ∙ sym (get_or-set_same w.losses c (losses_at w c + 1) 0 lost_lt))))
          (λ ne. h.losses i li ∙ sym (get_or-set_other w.losses c i (losses_at w c + 1) 0 ne));
      latest = refl;
      horizon = h.horizon;
    }

  noted-end : (at : ℕ) → HasLossyTimes (with_end w at) s t allowed (lossy_after s t rows st (Plain (End at)))
  unfolding lossy_after
  noted-end at = record {
    timing = h.timing;
    channels = h.channels;
    limit = h.limit;
    node_count = h.node_count;
    queue_count = h.queue_count;
    losses_count = h.losses_count;
    last = h.last;
    transit = h.transit;
    losses = h.losses;
    latest = refl;
    horizon = refl;
  }

pub law-times : (w : LossyTimes) (s : Shape) (t : Timing) (allowed rows : ℕ) (st : LossyState) → HasLossyTimes w s t allowed st → FollowsLossyEvents w s t allowed rows st
law-times w s t allowed rows st h = record {
  activation = noted-act w s t allowed rows st h;
  delivery = noted-del w s t allowed rows st h;
  loss = noted-lose w s t allowed rows st h;
  ending = noted-end w s t allowed rows st h;
}
