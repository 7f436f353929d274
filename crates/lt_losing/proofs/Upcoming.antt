-- What is pending keeps to the bounds, and so what happens next has no offence.
use Rattle.std.proofs.Common.{◌≡◌, ℕ, ◌+◌, ◌-◌, ◌%◌, ◌<◌, ◌≤◌, inl, inr, drop, Option, Some, None, Bool, true, false, ◌&&◌, nat_lt, if◌then◌else◌, refl, sym, ◌∙◌, ap, subst, arith, ltb-true, ne_eqb}
use Rattle.std.proofs.lemmas.Bool.{cases_lt}
use Rattle.std.proofs.lemmas.Bool.Decides.{eqb_tells}
use Rattle.lt_base.specs.Truths.{how_many}
use Rattle.lt_arch.specs.declared.event.Event.{Event}
use Rattle.lt_arch.specs.declared.event.Event.TheVariants.{Act, Del, End}
use Rattle.lt_arch.specs.declared.event.Offence.{Offence}
use Rattle.lt_arch.specs.declared.shape.Shape.{Shape}
use Rattle.lt_arch.specs.declared.timing.Timing.{Timing}
use Rattle.lt_arch.specs.Readers.{node_count, chan_count, from_of, to_of, tmin_of, tmax_of, dmin_of, dmax_of}
use Rattle.lt_arch.specs.Step.{offence_of, updated, woken}
use Rattle.lt_arch.proofs.Ranges.{tmin-tmax, dmin-dmax}
use Rattle.lt_lossy.specs.declared.event.LossyEvent.TheVariants.{Plain, Lose}
use Rattle.lt_lossy.specs.declared.event.LossyOffence.TheVariants.{TooManyLost}
use Rattle.lt_lossy.specs.State.{plain_of, number_on}
use Rattle.lt_lossy.specs.Step.{lossy_offence, lossy_after, common_or, at_any_time, too_many_lost}
use Rattle.lt_lossy.specs.Times.{oldest_in}
use Rattle.lt_lossy.proofs.Oldest.{oldest_of, offence-same}
use Rattle.lt_sim.specs.Words.{drawn_word, number_in}
use Rattle.lt_sim.specs.Drawn.{Draw, pending_at, next_due, due_event, gap}
use Rattle.lt_sim.specs.Standing.{IsRestPending, IsNotBefore, IsPending}
use Rattle.lt_sim.proofs.Dues.{pending-node, pending-chan, IsDelivery, first, which, least}
use Rattle.lt_sim.proofs.Keeping.{number-low, number-high, next_free, end_free}
use Rattle.lt_losing.specs.Losing.{LossyDraw, next_lossy_due, loses_next, lossy_or, due_lossy_event, lossy_beginning, sends_anew, lossy_activated, lossy_arrived, lossy_drawn_on}
use Rattle.lt_losing.specs.Bounds.{time_or_0, AreArrivals, IsUpcoming}
use Rattle.lt_losing.proofs.Arrivals.{arrivals_later, arrivals_from, oldest-from, arrivals_sent, arrivals_delivered, arrivals_lost, oldest_pending}

pub not_before : (latest : Option ℕ) (at : ℕ) → time_or_0 latest ≤ at → IsNotBefore latest at
not_before None at h = tt
not_before (Some latest) at h = h

clock_before : (latest : Option ℕ) (at : ℕ) → IsNotBefore latest at → time_or_0 latest ≤ at
clock_before None at h = omega arith
clock_before (Some latest) at h = h

-- the list as one that has only the oldest message of each channel in transit
abbrev pub oldest_draw : LossyDraw → Draw
oldest_draw d = record { state = oldest_of d.state; activation = d.activation; delivery = λ c. oldest_in (d.arrivals c); words = d.words }

-- what happens next is the same
pub next-same : (s : Shape) (d : LossyDraw) → next_lossy_due s d ≡ next_due s (oldest_draw d)
unfolding pending_at
next-same s d = refl

module _ (s : Shape) (t : Timing) (d : LossyDraw) (h : IsUpcoming s t d) where
  forward_all : (place at : ℕ) → place < node_count s + chan_count s → pending_at s (oldest_draw d) place ≡ Some at → IsNotBefore d.state.latest at
  forward_all place at lt is = elim (cases_lt place (node_count s)) [
    | inl node ↦
        let here : Some (d.activation place) ≡ Some at = sym (pending-node s (oldest_draw d) place node) ∙ is in
        let same : d.activation place ≡ at = cc in
        let le = h.forward place node in
        not_before d.state.latest at (omega (arith, same, le))
    | inr past ↦
        let c = place - node_count s in
        let there : place ≡ node_count s + c = omega (arith, past) in
        let here : oldest_in (d.arrivals c) ≡ Some at = sym (pending-chan s (oldest_draw d) c) ∙ (ap (pending_at s (oldest_draw d)) (sym there) ∙ is) in
        not_before d.state.latest at (oldest-from (dmin_of t (from_of s c) (to_of s c)) (dmax_of t (from_of s c) (to_of s c)) (time_or_0 d.state.latest) (time_or_0 d.state.latest) (d.state.link c).transit (d.arrivals c) at (h.arrivals c (omega (arith, lt, there))) here)
  ]

  pending : IsPending s t (oldest_draw d)
  pending = record {
    open_end = h.open_end;
    activations = h.activations;
    deliveries = λ c lt. oldest_pending (dmin_of t (from_of s c) (to_of s c)) (dmax_of t (from_of s c) (to_of s c)) (time_or_0 d.state.latest) (time_or_0 d.state.latest) (d.state.link c).transit (d.arrivals c) (h.arrivals c lt);
    forward = forward_all;
  }

  -- the end has no offence, where all that is pending comes after it
  pub lossy_end_free : (limit horizon : ℕ) → time_or_0 d.state.latest ≤ horizon → ((place at : ℕ) → place < node_count s + chan_count s → pending_at s (oldest_draw d) place ≡ Some at → horizon < at) → lossy_offence s t limit d.state (Plain (End horizon)) ≡ None
  unfolding lossy_offence
  lossy_end_free limit horizon le past =
      let free : offence_of s t (plain_of d.state) (End horizon) ≡ None = sym (offence-same s t d.state (End horizon)) ∙ end_free s t (oldest_draw d) pending horizon (not_before d.state.latest horizon le) past in
      ap (λ (o : Option Offence). common_or o None) free

and_left : (a b : Bool) → (a && b) ≡ true → a ≡ true
and_left true b h = refl
and_left false b h = absurd cc

few_lost : (limit c losses : ℕ) → losses < limit → too_many_lost limit c losses ≡ None
few_lost limit c losses lt = ap (λ (b : Bool). if b then Some (TooManyLost c) else None) (ne_eqb losses limit (λ e. absurd (omega (arith, e, lt))))

module _ (s : Shape) (t : Timing) (limit rows rate seed : ℕ) (d : LossyDraw) (h : IsUpcoming s t d) (due : ℕ × ℕ) (is : next_due s (oldest_draw d) ≡ Some due) where
  free_of : (e : Event) → offence_of s t (plain_of d.state) e ≡ None → lossy_offence s t limit d.state (lossy_or limit rate seed d e) ≡ None
  unfolding lossy_offence
  free_of (Act n at) free = ap (λ (o : Option Offence). common_or o None) free
  free_of (End at) free = ap (λ (o : Option Offence). common_or o None) free
  free_of (Del c at) free = by (loses_next limit rate seed d c) refl
    where
      by : (b : Bool) → loses_next limit rate seed d c ≡ b → lossy_offence s t limit d.state (if b then Lose c at else Plain (Del c at)) ≡ None
      by true lost =
          let left : (d.state.link c).losses < limit = ltb-true (d.state.link c).losses limit (and_left (nat_lt (d.state.link c).losses limit) (nat_lt (drawn_word seed (d.words + 1) % 1000) rate) lost) in
          λ i. common_or (at_any_time (free i)) (few_lost limit c (d.state.link c).losses left i)
      by false lost = ap (λ (o : Option Offence). common_or o None) free

  -- what happens next has no offence
  pub next_lossy_free : lossy_offence s t limit d.state (due_lossy_event s limit rate seed d due) ≡ None
  next_lossy_free = free_of (due_event s due) (sym (offence-same s t d.state (due_event s due)) ∙ next_free s t (oldest_draw d) (pending s t d h) due is)

  on_time : time_or_0 d.state.latest ≤ due.0
  on_time = let f = first s (oldest_draw d) due is in clock_before d.state.latest due.0 (forward_all s t d h due.1 due.0 f.0 f.1)

  -- the arrivals come no earlier than what happens next
  arrivals-now : (c : ℕ) → c < chan_count s → AreArrivals (dmin_of t (from_of s c) (to_of s c)) (dmax_of t (from_of s c) (to_of s c)) due.0 due.0 (d.state.link c).transit (d.arrivals c)
  arrivals-now c lt =
      let dmin = dmin_of t (from_of s c) (to_of s c) in
      let dmax = dmax_of t (from_of s c) (to_of s c) in
      arrivals_from dmin dmax due.0 (time_or_0 d.state.latest) due.0 (d.state.link c).transit (d.arrivals c)
      (λ at found. least s (oldest_draw d) due is (node_count s + c) at (omega (arith, lt)) (pending-chan s (oldest_draw d) c ∙ found))
      (arrivals_later dmin dmax (time_or_0 d.state.latest) due.0 (time_or_0 d.state.latest) (d.state.link c).transit (d.arrivals c) on_time (h.arrivals c lt))

  activation-now : (i : ℕ) → i < node_count s → due.0 ≤ d.activation i
  activation-now i lt = least s (oldest_draw d) due is i (d.activation i) (omega (arith, lt)) (pending-node s (oldest_draw d) i lt)

  -- What is pending after an activation.
  module _ (n : ℕ) where
    next_gap : ℕ
    next_gap = gap t seed n (d.words + 1)

    gap-low : tmin_of t n ≤ next_gap
    unfolding next_gap
    gap-low = number-low (tmin_of t n) (tmax_of t n) (drawn_word seed (d.words + 1)) (tmin-tmax t n)

    gap-high : next_gap ≤ tmax_of t n
    unfolding next_gap
    gap-high = number-high (tmin_of t n) (tmax_of t n) (drawn_word seed (d.words + 1)) (tmin-tmax t n)

    act-nodes : (i : ℕ) → i < node_count s → IsRestPending (tmin_of t i) (tmax_of t i) ((lossy_after s t rows d.state (Plain (Act n due.0))).node i).last (updated d.activation n (due.0 + next_gap) i)
    unfolding lossy_after
    act-nodes i lt = elim (eqb_tells i n) [
      | inl e ↦ rw (e.0, e.1) (let low = gap-low in let high = gap-high in (omega (arith, low), omega (arith, high)))
      | inr e ↦ rw e.0 (h.activations i lt)
    ]

    act-later : (i : ℕ) → i < node_count s → due.0 ≤ updated d.activation n (due.0 + next_gap) i
    act-later i lt = elim (eqb_tells i n) [
      | inl e ↦ rw e.0 (omega arith)
      | inr e ↦ rw e.0 (activation-now i lt)
    ]

    act-arrivals : (c : ℕ) → c < chan_count s → AreArrivals (dmin_of t (from_of s c) (to_of s c)) (dmax_of t (from_of s c) (to_of s c)) due.0 due.0 ((lossy_after s t rows d.state (Plain (Act n due.0))).link c).transit ((lossy_activated s t rows seed d n due.0).arrivals c)
    unfolding lossy_after
    act-arrivals c lt =
        let order = dmin-dmax t (from_of s c) (to_of s c) in
        let w : ℕ = drawn_word seed (d.words + 2 + how_many (sends_anew s t rows d.state n due.0) c) in
        arrivals_sent (sends_anew s t rows d.state n due.0 c) (dmin_of t (from_of s c) (to_of s c)) (dmax_of t (from_of s c) (to_of s c)) due.0 (number_on s (woken s t rows (plain_of d.state) n due.0) c)
        (number_in (dmin_of t (from_of s c) (to_of s c)) (dmax_of t (from_of s c) (to_of s c)) w) (d.state.link c) (d.arrivals c) (number-low _ _ w order) (number-high _ _ w order) (arrivals-now c lt)

    upcoming-act : IsUpcoming s t (lossy_activated s t rows seed d n due.0)
    unfolding lossy_after next_gap
    upcoming-act = record { open_end = h.open_end; activations = act-nodes; forward = act-later; arrivals = act-arrivals }

  -- And after an arrival.
  module _ (c : ℕ) (a : IsDelivery s (oldest_draw d) due c) where
    del-arrivals : (i : ℕ) → i < chan_count s → AreArrivals (dmin_of t (from_of s i) (to_of s i)) (dmax_of t (from_of s i) (to_of s i)) due.0 due.0 ((lossy_after s t rows d.state (Plain (Del c due.0))).link i).transit (updated d.arrivals c (drop 1 (d.arrivals c)) i)
    unfolding lossy_after
    del-arrivals i lt = elim (eqb_tells i c) [
      | inl e ↦ rw (e.0, e.1) (arrivals_delivered (dmin_of t (from_of s c) (to_of s c)) (dmax_of t (from_of s c) (to_of s c)) due.0 due.0 due.0 (d.state.link c) (d.state.link c).transit (d.arrivals c) a.at (arrivals-now c a.within))
      | inr e ↦ rw e.0 (arrivals-now i lt)
    ]

    lose-arrivals : (i : ℕ) → i < chan_count s → AreArrivals (dmin_of t (from_of s i) (to_of s i)) (dmax_of t (from_of s i) (to_of s i)) due.0 due.0 ((lossy_after s t rows d.state (Lose c due.0)).link i).transit (updated d.arrivals c (drop 1 (d.arrivals c)) i)
    unfolding lossy_after
    lose-arrivals i lt = elim (eqb_tells i c) [
      | inl e ↦ rw (e.0, e.1) (arrivals_lost (dmin_of t (from_of s c) (to_of s c)) (dmax_of t (from_of s c) (to_of s c)) due.0 due.0 due.0 (d.state.link c) (d.state.link c).transit (d.arrivals c) a.at (arrivals-now c a.within))
      | inr e ↦ rw e.0 (arrivals-now i lt)
    ]

    upcoming-del : IsUpcoming s t (lossy_arrived s t rows d c (Plain (Del c due.0)))
    unfolding lossy_after
    upcoming-del = record { open_end = h.open_end; activations = h.activations; forward = activation-now; arrivals = del-arrivals }

    upcoming-lose : IsUpcoming s t (lossy_arrived s t rows d c (Lose c due.0))
    unfolding lossy_after
    upcoming-lose = record { open_end = h.open_end; activations = h.activations; forward = activation-now; arrivals = lose-arrivals }

    upcoming-either : (b : Bool) → IsUpcoming s t (lossy_drawn_on s t rows seed d (if b then Lose c due.0 else Plain (Del c due.0)))
    unfolding lossy_drawn_on
    upcoming-either true = upcoming-lose
    upcoming-either false = upcoming-del

  upcoming-activation : (n : ℕ) → IsUpcoming s t (lossy_drawn_on s t rows seed d (Plain (Act n due.0)))
  unfolding lossy_drawn_on
  upcoming-activation n = upcoming-act n

  -- after what happens next all that is pending keeps to the bounds
  pub upcoming_on : IsUpcoming s t (lossy_drawn_on s t rows seed d (due_lossy_event s limit rate seed d due))
  upcoming_on = elim (which s (oldest_draw d) due is) [
    | inl a ↦ subst (λ (e : Event). IsUpcoming s t (lossy_drawn_on s t rows seed d (lossy_or limit rate seed d e))) (sym a.1.event) (upcoming-activation a.0)
    | inr a ↦ subst (λ (e : Event). IsUpcoming s t (lossy_drawn_on s t rows seed d (lossy_or limit rate seed d e))) (sym a.1.event) (upcoming-either a.0 a.1 (loses_next limit rate seed d a.0))
  ]

pub upcoming_first : (s : Shape) (t : Timing) (seed : ℕ) → IsUpcoming s t (lossy_beginning s t seed)
upcoming_first s t seed = record {
  open_end = refl;
  activations = λ n lt. number-high 0 (tmax_of t n) (drawn_word seed (n + 1)) (omega arith);
  forward = λ n lt. omega arith;
  arrivals = λ c lt. tt;
}
