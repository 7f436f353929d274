-- How many messages of a channel are in transit. A message with j others behind it was sent at least j of its sender's least periods before the sender's last
-- activation, since each activation sends at most one. The oldest one is due within the greatest delay, which is below 64 of these periods, so fewer than 64 are behind it.
use Rattle.std.proofs.Common.{◌≡◌, ℕ, ◌+◌, ◌*◌, ◌<◌, ◌≤◌, List, [], ◌∷◌, ◌++◌, length, Option, Some, None, Bool, true, false, refl, subst, arith, inl, inr}
use Rattle.std.proofs.Math.Nat.{mul-le-mul_right}
use Rattle.std.proofs.lemmas.Bool.{cases_lt}
use Rattle.std.proofs.lemmas.List.{length-append}
use Rattle.lt_arch.specs.declared.event.Event.TheVariants.{Act, Del, End}
use Rattle.lt_arch.specs.declared.timing.Timing.{Timing}
use Rattle.lt_arch.specs.declared.shape.Shape.{Shape}
use Rattle.lt_arch.specs.Readers.{chan_count, from_of, to_of, tmin_of, dmax_of}
use Rattle.lt_arch.specs.Shapes.{HaveSameNodes}
use Rattle.lt_arch.specs.Step.{offence_of}
use Rattle.lt_arch.proofs.Changes.{same_or_not}
use Rattle.lt_arch.proofs.Facts.{clear, ends-of, in_time-chan, IsRested, rested}
use Rattle.lt_lossy.specs.declared.event.LossyEvent.{LossyEvent}
use Rattle.lt_lossy.specs.declared.event.LossyEvent.TheVariants.{Plain, Lose}
use Rattle.lt_lossy.specs.State.{Message, LinkState, LossyState, lossy_start, plain_of}
use Rattle.lt_lossy.specs.Step.{lossy_offence, lossy_after, link_with_message, link_delivered, link_lost}
use Rattle.lt_lossy.specs.Schedule.{lossy_after_all, HasNoLossyOffence}
use Rattle.lt_lossy.specs.Window.{HasWindow, room}
use Rattle.lt_lossy.specs.Laws.{KeepsRoom}
use Rattle.lt_lossy.proofs.Changes.{plain_clear, node-act_here, node-act_other, link-act_from, link-act_other, link-del, link-lose, node-del, node-lose}

-- each message was sent this gap before the last activation for each one behind it
abbrev IsSpacedBy : (gap : ℕ) → List Message → (last : ℕ) → Type 0
IsSpacedBy gap [] last = Unit {0}
IsSpacedBy gap (m ∷ later) last = (m.sent_at + length later * gap ≤ last) × IsSpacedBy gap later last

-- before the first activation nothing is sent
abbrev IsSpaced : (gap : ℕ) → List Message → (last : Option ℕ) → Type 0
IsSpaced gap xs None = xs ≡ []
IsSpaced gap xs (Some last) = IsSpacedBy gap xs last

spaced-later : (gap : ℕ) (xs : List Message) (last at : ℕ) → IsSpacedBy gap xs last → last ≤ at → IsSpacedBy gap xs at
spaced-later gap [] last at h le = tt
spaced-later gap (m ∷ later) last at h le = (omega (arith, h.0), spaced-later gap later last at h.1 le)

length-sent : (xs : List Message) (m : Message) → length (xs ++ m ∷ []) ≡ length xs + 1
length-sent xs m = length-append xs (m ∷ [])

spaced-append : (gap : ℕ) (xs : List Message) (last number at : ℕ) → IsSpacedBy gap xs last → last + gap ≤ at → IsSpacedBy gap (xs ++ record { number = number; sent_at = at } ∷ []) at
spaced-append gap [] last number at h le = (omega arith, tt)
spaced-append gap (m ∷ later) last number at h le =
    let len = length-sent later (record { number = number; sent_at = at }) in
    (rw len (omega (arith, h.0)), spaced-append gap later last number at h.1 le)

-- an activation that follows the last one after its least period
spaced-sent : (b : Bool) (gap : ℕ) (link : LinkState) (last : Option ℕ) (number at : ℕ) → IsSpaced gap link.transit last → IsRested at gap last → IsSpacedBy gap (link_with_message b number at link).transit at
spaced-sent true gap link None number at h r = rw h (omega arith, tt)
spaced-sent false gap link None number at h r = rw h tt
spaced-sent true gap link (Some last) number at h r = spaced-append gap link.transit last number at h r
spaced-sent false gap link (Some last) number at h r = spaced-later gap link.transit last at h (omega arith)

spaced-tail : (gap : ℕ) (m : Message) (later : List Message) (last : Option ℕ) → IsSpaced gap (m ∷ later) last → IsSpaced gap later last
spaced-tail gap m later None h = absurd cc
spaced-tail gap m later (Some last) h = h.1

spaced-delivered : (gap : ℕ) (link : LinkState) (xs : List Message) (last : Option ℕ) → link.transit ≡ xs → IsSpaced gap link.transit last → IsSpaced gap (link_delivered link xs).transit last
spaced-delivered gap link [] last e h = h
spaced-delivered gap link (m ∷ later) last e h = spaced-tail gap m later last (rw e at h)

spaced-lost : (gap : ℕ) (link : LinkState) (xs : List Message) (last : Option ℕ) → link.transit ≡ xs → IsSpaced gap link.transit last → IsSpaced gap (link_lost link xs).transit last
spaced-lost gap link [] last e h = h
spaced-lost gap link (m ∷ later) last e h = spaced-tail gap m later last (rw e at h)

-- How many there are.

length-delivered : (link : LinkState) (xs : List Message) → link.transit ≡ xs → length (link_delivered link xs).transit ≤ length link.transit
length-delivered link [] e = omega arith
length-delivered link (m ∷ later) e = rw e (omega arith)

length-lost : (link : LinkState) (xs : List Message) → link.transit ≡ xs → length (link_lost link xs).transit ≤ length link.transit
length-lost link [] e = omega arith
length-lost link (m ∷ later) e = rw e (omega arith)

-- less than so many gaps are less than so many
fewer : (k gap d : ℕ) → k * gap ≤ d → d < room * gap → k < room
fewer k gap d le lt = elim (cases_lt k room) [
  | inl less ↦ less
  | inr more ↦ absurd (omega (arith, mul-le-mul_right gap more))
]

fewer_behind : (gap d at : ℕ) (m : Message) (later : List Message) → IsSpacedBy gap (m ∷ later) at → at ≤ m.sent_at + d → d < room * gap → length (m ∷ later) ≤ room
fewer_behind gap d at m later h due lt = let k = fewer (length later) gap d (omega (arith, h.0)) lt in omega (arith, k)

-- the oldest of these messages is in time
abbrev IsInTimeBy : (at d : ℕ) → List Message → Type 0
IsInTimeBy at d [] = Unit {0}
IsInTimeBy at d (m ∷ later) = at ≤ m.sent_at + d

few-sent : (b : Bool) (gap d number at : ℕ) (link : LinkState) (xs : List Message) → link.transit ≡ xs → IsSpacedBy gap (link_with_message b number at link).transit at → IsInTimeBy at d xs → d < room * gap → length (link_with_message b number at link).transit ≤ room
few-sent true gap d number at link [] e h due lt = rw e (omega arith)
few-sent false gap d number at link [] e h due lt = rw e (omega arith)
few-sent true gap d number at link (m ∷ later) e h due lt = rw e (fewer_behind gap d at m _ (rw e at h) due lt)
few-sent false gap d number at link (m ∷ later) e h due lt = rw e (fewer_behind gap d at m later (rw e at h) due lt)

record HasRoom (s : Shape) (t : Timing) (st : LossyState) : Type 0 where
  spaced : (c : ℕ) → c < chan_count s → IsSpaced (tmin_of t (from_of s c)) (st.link c).transit (st.node (from_of s c)).last
  few : (c : ℕ) → c < chan_count s → length (st.link c).transit ≤ room

module _ (s : Shape) (t : Timing) (rows : ℕ) (same : HaveSameNodes s t) (wide : HasWindow t) (st : LossyState) (inv : HasRoom s t st) where
  module _ (n at : ℕ) (clean : offence_of s t (plain_of st) (Act n at) ≡ None) where
    in_time : (c : ℕ) → c < chan_count s → (xs : List Message) → (st.link c).transit ≡ xs → IsInTimeBy at (dmax_of t (from_of s c) (to_of s c)) xs
    in_time c lc [] e = tt
    in_time c lc (m ∷ later) e = in_time-chan s t (plain_of st) (Act n at) clean c (m.sent_at + dmax_of t (from_of s c) (to_of s c)) lc (rw e refl)

    within : (c : ℕ) → c < chan_count s → dmax_of t (from_of s c) (to_of s c) < room * tmin_of t (from_of s c)
    within c lc = let e = ends-of s c lc in wide (from_of s c) (to_of s c) (rw same e.from_in) (rw same e.to_in) e.differ

    rest : (c : ℕ) → from_of s c ≡ n → IsRested at (tmin_of t (from_of s c)) (st.node (from_of s c)).last
    rest c e = rw e (rested n (tmin_of t n) at (st.node n).last (clear s t (plain_of st) (Act n at) clean).own)

    spaced-new : (c : ℕ) (b : Bool) (number : ℕ) → c < chan_count s → from_of s c ≡ n → IsSpacedBy (tmin_of t (from_of s c)) (link_with_message b number at (st.link c)).transit at
    spaced-new c b number lc e = spaced-sent b (tmin_of t (from_of s c)) (st.link c) (st.node (from_of s c)).last number at (inv.spaced c lc) (rest c e)

    room-act : HasRoom s t (lossy_after s t rows st (Plain (Act n at)))
    room-act = record {
      spaced = λ c lc. elim (same_or_not (from_of s c) n) [
        | inl e ↦ rw (link-act_from s t rows st n at c e, node-act_here s t rows st n at (from_of s c) e) (spaced-new c _ _ lc e)
        | inr ne ↦ rw (link-act_other s t rows st n at c ne, node-act_other s t rows st n at (from_of s c) ne) (inv.spaced c lc)
      ];
      few = λ c lc. elim (same_or_not (from_of s c) n) [
        | inl e ↦ rw (link-act_from s t rows st n at c e) (few-sent _ (tmin_of t (from_of s c)) (dmax_of t (from_of s c) (to_of s c)) _ at (st.link c) (st.link c).transit refl (spaced-new c _ _ lc e) (in_time c lc (st.link c).transit refl) (within c lc))
        | inr ne ↦ rw (link-act_other s t rows st n at c ne) (inv.few c lc)
      ];
    }

  room-del : (c at : ℕ) → HasRoom s t (lossy_after s t rows st (Plain (Del c at)))
  room-del c at = record {
    spaced = λ i li. rw (node-del s t rows st c at (from_of s i)) (link-del s t rows st c at (λ l. IsSpaced (tmin_of t (from_of s i)) l.transit (st.node (from_of s i)).last) i
        (λ e. spaced-delivered (tmin_of t (from_of s i)) (st.link c) (st.link c).transit (st.node (from_of s i)).last refl (subst (λ k. IsSpaced (tmin_of t (from_of s i)) (st.link k).transit (st.node (from_of s i)).last) e (inv.spaced i li)))
        (λ ne. inv.spaced i li));
    few = λ i li. link-del s t rows st c at (λ l. length l.transit ≤ room) i
        (λ e. let f = length-delivered (st.link c) (st.link c).transit refl in let before = rw e at (inv.few i li) in omega (arith, f, before))
        (λ ne. inv.few i li);
  }

  room-lose : (c at : ℕ) → HasRoom s t (lossy_after s t rows st (Lose c at))
  room-lose c at = record {
    spaced = λ i li. rw (node-lose s t rows st c at (from_of s i)) (link-lose s t rows st c at (λ l. IsSpaced (tmin_of t (from_of s i)) l.transit (st.node (from_of s i)).last) i
        (λ e. spaced-lost (tmin_of t (from_of s i)) (st.link c) (st.link c).transit (st.node (from_of s i)).last refl (subst (λ k. IsSpaced (tmin_of t (from_of s i)) (st.link k).transit (st.node (from_of s i)).last) e (inv.spaced i li)))
        (λ ne. inv.spaced i li));
    few = λ i li. link-lose s t rows st c at (λ l. length l.transit ≤ room) i
        (λ e. let f = length-lost (st.link c) (st.link c).transit refl in let before = rw e at (inv.few i li) in omega (arith, f, before))
        (λ ne. inv.few i li);
  }

  room-end : (at : ℕ) → HasRoom s t (lossy_after s t rows st (Plain (End at)))
  unfolding lossy_after
  room-end at = record { spaced = inv.spaced; few = inv.few }

  room-after : (limit : ℕ) (e : LossyEvent) → lossy_offence s t limit st e ≡ None → HasRoom s t (lossy_after s t rows st e)
  room-after limit (Plain (Act n at)) h = room-act n at (plain_clear s t limit st (Act n at) h)
  room-after limit (Plain (Del c at)) h = room-del c at
  room-after limit (Plain (End at)) h = room-end at
  room-after limit (Lose c at) h = room-lose c at

room-all : (s : Shape) (t : Timing) (limit rows : ℕ) → HaveSameNodes s t → HasWindow t → (st : LossyState) (es : List LossyEvent) → HasRoom s t st → HasNoLossyOffence s t limit rows st es → HasRoom s t (lossy_after_all s t rows st es)
room-all s t limit rows same wide st [] inv h = inv
room-all s t limit rows same wide st (e ∷ es) inv h = room-all s t limit rows same wide (lossy_after s t rows st e) es (room-after s t rows same wide st inv limit e h.0) h.1

pub law-room : KeepsRoom
law-room s t limit rows es c same wide free lc =
    (room-all s t limit rows same wide lossy_start es (record { spaced = λ i li. refl; few = λ i li. omega arith }) free).few c lc
