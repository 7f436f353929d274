-- Offences by the oldest message of each channel alone.
use Rattle.std.proofs.Common.{◌≡◌, ℕ, ◌+◌, ◌-◌, ◌<◌, List, [], ◌∷◌, length, map, Option, Some, None, refl, sym, ◌∙◌, ap, arith, slice_index_or, nat_lt, if◌then◌else◌}
use Rattle.lt_arch.specs.declared.timing.Timing.{Timing}
use Rattle.lt_arch.specs.declared.shape.Shape.{Shape}
use Rattle.lt_arch.specs.declared.event.Event.{Event}
use Rattle.lt_arch.specs.declared.event.Event.TheVariants.{Act, Del, End}
use Rattle.lt_arch.specs.declared.event.Offence.{Offence}
use Rattle.lt_arch.specs.State.{State}
use Rattle.lt_arch.specs.Readers.{node_count, chan_count, from_of, to_of, dmin_of, dmax_of}
use Rattle.lt_arch.specs.Deadline.{deadline_of, first_due, least_below, node_deadline, after_oldest}
use Rattle.lt_arch.specs.Step.{offence_of, own_offence, too_early}
use Rattle.lt_arch.specs.Times.{Times, HasTimes, sent_in, in_transit}
use Rattle.lt_lossy.specs.declared.event.LossyEvent.TheVariants.{Plain, Lose}
use Rattle.lt_lossy.specs.State.{Message, LossyState, plain_of}
use Rattle.lt_lossy.specs.Step.{lossy_offence, common_or, at_any_time, too_many_lost}
use Rattle.lt_lossy.specs.Times.{LossyTimes, HasLossyTimes, oldest_in, losses_at}

-- the state with the oldest message of each channel alone
abbrev first_of : List ℕ → List ℕ
first_of [] = []
first_of (x ∷ xs) = x ∷ []

abbrev pub oldest_of : LossyState → State
oldest_of st = record {
  node = st.node;
  chan = λ c. record { delivered = (st.link c).newest; transit = first_of (map (λ (m : Message). m.sent_at) (st.link c).transit) };
  latest = st.latest;
  horizon = st.horizon;
}

after_first : (xs : List ℕ) (delay : ℕ) → after_oldest (first_of xs) delay ≡ after_oldest xs delay
after_first [] delay = refl
after_first (x ∷ xs) delay = refl

early_first : (c dmin at : ℕ) (xs : List ℕ) → too_early c dmin at (first_of xs) ≡ too_early c dmin at xs
early_first c dmin at [] = refl
early_first c dmin at (x ∷ xs) = refl

module _ (s : Shape) (t : Timing) (st : LossyState) where
  deadline-same : (place : ℕ) → deadline_of s t (oldest_of st) place ≡ deadline_of s t (plain_of st) place
  unfolding deadline_of
  deadline-same place =
      let c = place - node_count s in
      ap (λ (d : Option ℕ). if nat_lt place (node_count s) then Some (node_deadline t (plain_of st) place) else d)
      (after_first (map (λ (m : Message). m.sent_at) (st.link c).transit) (dmax_of t (from_of s c) (to_of s c)))

  due-same : first_due s t (oldest_of st) ≡ first_due s t (plain_of st)
  due-same = ap (λ f. least_below f (node_count s + chan_count s)) (λ i place. deadline-same place i)

  own-same : (e : Event) → own_offence s t (oldest_of st) e ≡ own_offence s t (plain_of st) e
  own-same (Act n at) = refl
  own-same (Del c at) = early_first c (dmin_of t (from_of s c) (to_of s c)) at (map (λ (m : Message). m.sent_at) (st.link c).transit)
  own-same (End at) = refl

  -- no offence looks behind the oldest message
  pub offence-same : (e : Event) → offence_of s t (oldest_of st) e ≡ offence_of s t (plain_of st) e
  unfolding offence_of
  offence-same e = rw (due-same, own-same e) refl

  pub plain-judged : (allowed : ℕ) (e : Event) (o : Option Offence) → o ≡ offence_of s t (oldest_of st) e → common_or o None ≡ lossy_offence s t allowed st (Plain e)
  unfolding lossy_offence
  plain-judged allowed e o h = ap (λ (x : Option Offence). common_or x None) (h ∙ offence-same e)

  pub loss-judged : (allowed c at : ℕ) (o : Option Offence) → o ≡ offence_of s t (oldest_of st) (Del c at) → common_or (at_any_time o) (too_many_lost allowed c (st.link c).losses) ≡ lossy_offence s t allowed st (Lose c at)
  unfolding lossy_offence
  loss-judged allowed c at o h = ap (λ (x : Option Offence). common_or (at_any_time x) (too_many_lost allowed c (st.link c).losses)) (h ∙ offence-same (Del c at))

transit-first : (xs queue : List ℕ) (sent : Option ℕ) → xs ≡ queue → sent ≡ oldest_in queue → first_of xs ≡ in_transit sent
transit-first xs [] sent e f = rw (e, f) refl
transit-first xs (x ∷ later) sent e f = rw (e, f) refl

-- the times that a watch over the oldest messages has
pub oldest-times : (w : Times) (limit : ℕ) (queues : List (List ℕ)) (losses : List ℕ) (s : Shape) (t : Timing) (allowed : ℕ) (st : LossyState) →
    HasLossyTimes (record { timing = w.timing; channels = w.channels; limit = limit; lasts = w.lasts; queues = queues; losses = losses; latest = w.latest; horizon = w.horizon }) s t allowed st →
    length queues ≡ length w.sends → ((c : ℕ) → c < length w.sends → sent_in w c ≡ oldest_in (slice_index_or queues c [])) → HasTimes w s t (oldest_of st)
oldest-times w limit queues losses s t allowed st h same oldest = record {
  timing = h.timing;
  channels = h.channels;
  node_count = h.node_count;
  chan_count = sym same ∙ h.queue_count;
  last = h.last;
  transit = λ c lc. transit-first _ (slice_index_or queues c []) (sent_in w c) (h.transit c lc) (oldest c (let q = h.queue_count in omega (arith, q, same)));
  latest = h.latest;
  horizon = h.horizon;
}

-- the test of losses is that of the state
pub too_many-same : (w : LossyTimes) (s : Shape) (t : Timing) (allowed : ℕ) (st : LossyState) (c : ℕ) → HasLossyTimes w s t allowed st → c < length w.queues →
    too_many_lost w.limit c (losses_at w c) ≡ too_many_lost allowed c (st.link c).losses
too_many-same w s t allowed st c h lt = rw (h.limit, h.losses c (let q = h.queue_count in omega (arith, q))) refl
