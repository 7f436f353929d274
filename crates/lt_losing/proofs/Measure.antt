-- How many events can come up to a horizon.
use Rattle.std.proofs.Common.{◌≡◌, ℕ, zero, suc, ◌+◌, ◌*◌, ◌<◌, ◌≤◌, max, inl, inr, List, [], ◌∷◌, length, drop, Option, Some, None, Bool, true, false, nat_lt, if◌then◌else◌, refl, sym, ◌∙◌, ap, subst, arith, ltb-false}
use Rattle.std.proofs.Math.Nat.{mul-le-mul_right, mul_assoc, mul_comm, suc-mul}
use Rattle.std.proofs.lemmas.List.{length-append}
use Rattle.lt_arch.specs.declared.event.Event.{Event}
use Rattle.lt_arch.specs.declared.event.Event.TheVariants.{Act, Del, End}
use Rattle.lt_arch.specs.declared.shape.Shape.{Shape}
use Rattle.lt_arch.specs.declared.timing.Timing.{Timing}
use Rattle.lt_arch.specs.Readers.{node_count, chan_count, tmin_of}
use Rattle.lt_arch.specs.Step.{updated}
use Rattle.lt_arch.proofs.Changes.{updated-here, updated-other}
use Rattle.lt_arch.proofs.Ranges.{tmin-some}
use Rattle.lt_base.specs.Truths.{how_many}
use Rattle.lt_lossy.specs.declared.event.LossyEvent.{LossyEvent}
use Rattle.lt_lossy.specs.declared.event.LossyEvent.TheVariants.{Plain, Lose}
use Rattle.lt_lossy.specs.Times.{oldest_in}
use Rattle.lt_sim.specs.Drawn.{gap, delay, most_to}
use Rattle.lt_sim.proofs.Counting.{sum_below, sum_less, sum_most, sum_none}
use Rattle.lt_sim.proofs.Dues.{which}
use Rattle.lt_sim.proofs.Measure.{ticks_to}
use Rattle.lt_losing.specs.Losing.{LossyDraw, as_lossless, next_lossy_due, loses_next, lossy_or, due_lossy_event, lossy_beginning, sends_anew, last_or, with_arrival, lossy_activated, lossy_arrived, lossy_drawn_on, unless_lossy_past, lossy_events_to, lossy_drawn}
use Rattle.lt_losing.proofs.Arrivals.{fewer_arrivals}

-- how many events can come: each activation may send a message on each channel
unfoldable pub lossy_room : Shape → (horizon : ℕ) → LossyDraw → ℕ
lossy_room s horizon d = sum_below (λ n. ticks_to horizon (d.activation n)) (node_count s) * (chan_count s + 1) + sum_below (λ c. length (d.arrivals c)) (chan_count s)

sum_grown : (f g : ℕ → ℕ) (n : ℕ) → ((i : ℕ) → g i ≤ f i + 1) → sum_below g n ≤ sum_below f n + n
sum_grown f g zero h = omega arith
sum_grown f g (suc n) h = let rest : sum_below g n ≤ sum_below f n + n = sum_grown f g n h in let last = h n in omega (arith, rest, last)

less_product : (a b m x y : ℕ) → a + 1 ≤ b → x ≤ y + m → a * (m + 1) + x + 1 ≤ b * (m + 1) + y
less_product a b m x y less few =
    let h : suc a * (m + 1) ≤ b * (m + 1) = mul-le-mul_right (m + 1) (omega (arith, less)) in
    let e : suc a * (m + 1) ≡ a * (m + 1) + (m + 1) = suc-mul a (m + 1) in
    omega (arith, h, e, few)

one_more : (b : Bool) (arrivals : List ℕ) (at : ℕ) → length (if b then with_arrival arrivals at else arrivals) ≤ length arrivals + 1
one_more true arrivals at = let size = length-append arrivals (max (last_or 0 arrivals) at ∷ []) in omega (arith, size)
one_more false arrivals at = omega arith

module _ (s : Shape) (t : Timing) (rows seed horizon : ℕ) (d : LossyDraw) where
  less-act : (n at : ℕ) → n < node_count s → d.activation n ≡ at → at ≤ horizon → lossy_room s horizon (lossy_drawn_on s t rows seed d (Plain (Act n at))) + 1 ≤ lossy_room s horizon d
  unfolding lossy_room lossy_drawn_on
  less-act n at within is near =
      let next : ℕ = at + gap t seed n (d.words + 1) in
      let some : 1 ≤ tmin_of t n = tmin-some t n in
      let here : updated d.activation n next n ≡ next = updated-here d.activation n next n refl in
      let fewer : ticks_to horizon (updated d.activation n next n) + 1 ≤ ticks_to horizon (d.activation n) = rw here (omega (arith, some, is, near)) in
      let nodes : sum_below (λ i. ticks_to horizon (updated d.activation n next i)) (node_count s) + 1 ≤ sum_below (λ i. ticks_to horizon (d.activation i)) (node_count s) =
      sum_less (λ i. ticks_to horizon (d.activation i)) (λ i. ticks_to horizon (updated d.activation n next i)) (node_count s) n within fewer
      (λ i lt other. let e : updated d.activation n next i ≡ d.activation i = updated-other d.activation n next i other in omega (arith, e)) in
      less_product _ _ (chan_count s) _ _ nodes
      (sum_grown (λ c. length (d.arrivals c)) (λ c. length ((lossy_activated s t rows seed d n at).arrivals c)) (chan_count s)
      (λ c. one_more (sends_anew s t rows d.state n at c) (d.arrivals c) (at + delay s t seed c (d.words + 2 + how_many (sends_anew s t rows d.state n at) c))))

  less-arrived : (c at : ℕ) (e : LossyEvent) → c < chan_count s → oldest_in (d.arrivals c) ≡ Some at → lossy_room s horizon (lossy_arrived s t rows d c e) + 1 ≤ lossy_room s horizon d
  unfolding lossy_room
  less-arrived c at e within is =
      let here : updated d.arrivals c (drop 1 (d.arrivals c)) c ≡ drop 1 (d.arrivals c) = updated-here d.arrivals c (drop 1 (d.arrivals c)) c refl in
      let size : length (updated d.arrivals c (drop 1 (d.arrivals c)) c) ≡ length (drop 1 (d.arrivals c)) = ap (λ (l : List ℕ). length l) here in
      let fewer = fewer_arrivals (d.arrivals c) at is in
      let chans : sum_below (λ i. length (updated d.arrivals c (drop 1 (d.arrivals c)) i)) (chan_count s) + 1 ≤ sum_below (λ i. length (d.arrivals i)) (chan_count s) =
      sum_less (λ i. length (d.arrivals i)) (λ i. length (updated d.arrivals c (drop 1 (d.arrivals c)) i)) (chan_count s) c within (omega (arith, size, fewer))
      (λ i lt other. let e : length (updated d.arrivals c (drop 1 (d.arrivals c)) i) ≡ length (d.arrivals i) = ap (λ (l : List ℕ). length l) (updated-other d.arrivals c (drop 1 (d.arrivals c)) i other) in omega (arith, e)) in
      omega (arith, chans)

  less-either : (c at : ℕ) (b : Bool) → c < chan_count s → oldest_in (d.arrivals c) ≡ Some at → lossy_room s horizon (lossy_drawn_on s t rows seed d (if b then Lose c at else Plain (Del c at))) + 1 ≤ lossy_room s horizon d
  unfolding lossy_drawn_on
  less-either c at true within is = less-arrived c at (Lose c at) within is
  less-either c at false within is = less-arrived c at (Plain (Del c at)) within is

  -- with each event up to the horizon there are fewer
  pub less : (limit rate : ℕ) (due : ℕ × ℕ) → next_lossy_due s d ≡ Some due → due.0 ≤ horizon → lossy_room s horizon (lossy_drawn_on s t rows seed d (due_lossy_event s limit rate seed d due)) + 1 ≤ lossy_room s horizon d
  less limit rate due is near = elim (which s (as_lossless d) due is) [
    | inl a ↦ subst (λ (e : Event). lossy_room s horizon (lossy_drawn_on s t rows seed d (lossy_or limit rate seed d e)) + 1 ≤ lossy_room s horizon d) (sym a.1.event) (less-act a.0 due.0 a.1.within a.1.at near)
    | inr a ↦ subst (λ (e : Event). lossy_room s horizon (lossy_drawn_on s t rows seed d (lossy_or limit rate seed d e)) + 1 ≤ lossy_room s horizon d) (sym a.1.event) (less-either a.0 due.0 (loses_next limit rate seed d a.0) a.1.within a.1.at)
  ]

module _ (s : Shape) (t : Timing) (limit rows rate seed horizon : ℕ) where
  -- a list that begins with what is due
  abbrev pub behind : ((d : LossyDraw) → List LossyEvent) → LossyDraw → ℕ × ℕ → List LossyEvent
  behind later d due = due_lossy_event s limit rate seed d due ∷ later (lossy_drawn_on s t rows seed d (due_lossy_event s limit rate seed d due))

  -- where none can come, the end comes
  ends-by : (d : LossyDraw) (next : Option (ℕ × ℕ)) (later : ℕ × ℕ → List LossyEvent) → next_lossy_due s d ≡ next → lossy_room s horizon d ≡ 0 → unless_lossy_past horizon next later ≡ Plain (End horizon) ∷ []
  ends-by d None later is none = refl
  ends-by d (Some due) later is none = by (nat_lt horizon due.0) refl
    where
      by : (b : Bool) → nat_lt horizon due.0 ≡ b → (if b then Plain (End horizon) ∷ [] else later due) ≡ Plain (End horizon) ∷ []
      by true past = refl
      by false past = let le = ltb-false horizon due.0 past in let fewer = less s t rows seed horizon d limit rate due is le in absurd (omega (arith, fewer, none))

  same_by : (d : LossyDraw) (a b : LossyDraw → List LossyEvent) → ((e : LossyDraw) → lossy_room s horizon e + 1 ≤ lossy_room s horizon d → a e ≡ b e) → (o : Option (ℕ × ℕ)) → next_lossy_due s d ≡ o
      → unless_lossy_past horizon o (behind a d) ≡ unless_lossy_past horizon o (behind b d)
  same_by d a b again None is = refl
  same_by d a b again (Some due) is = by (nat_lt horizon due.0) refl
    where
      by : (test : Bool) → nat_lt horizon due.0 ≡ test → (if test then Plain (End horizon) ∷ [] else behind a d due) ≡ (if test then Plain (End horizon) ∷ [] else behind b d due)
      by true past = refl
      by false past =
          let near = ltb-false horizon due.0 past in
          let fewer = less s t rows seed horizon d limit rate due is near in
          ap (λ (es : List LossyEvent). due_lossy_event s limit rate seed d due ∷ es) (again (lossy_drawn_on s t rows seed d (due_lossy_event s limit rate seed d due)) fewer)

  events_suc : (most : ℕ) (d : LossyDraw) → lossy_events_to s t limit rows rate seed horizon (suc most) d ≡ unless_lossy_past horizon (next_lossy_due s d) (behind (lossy_events_to s t limit rows rate seed horizon most) d)
  unfolding lossy_events_to
  events_suc most d = refl

  events_zero : (d : LossyDraw) → lossy_events_to s t limit rows rate seed horizon zero d ≡ Plain (End horizon) ∷ []
  unfolding lossy_events_to
  events_zero d = refl

  -- a bound on their number that is large enough cuts nothing off
  pub same_rest : (f g : ℕ) (d : LossyDraw) → lossy_room s horizon d ≤ f → lossy_room s horizon d ≤ g → lossy_events_to s t limit rows rate seed horizon f d ≡ lossy_events_to s t limit rows rate seed horizon g d
  same_rest zero zero d hf hg = refl
  same_rest zero (suc g) d hf hg = events_zero d ∙ sym (events_suc g d ∙ ends-by d (next_lossy_due s d) (behind (lossy_events_to s t limit rows rate seed horizon g) d) refl (omega (arith, hf)))
  same_rest (suc f) zero d hf hg = events_suc f d ∙ (ends-by d (next_lossy_due s d) (behind (lossy_events_to s t limit rows rate seed horizon f) d) refl (omega (arith, hg)) ∙ sym (events_zero d))
  same_rest (suc f) (suc g) d hf hg =
      events_suc f d
      ∙ (same_by d (lossy_events_to s t limit rows rate seed horizon f) (lossy_events_to s t limit rows rate seed horizon g) (λ e fewer. same_rest f g e (omega (arith, fewer, hf)) (omega (arith, fewer, hg))) (next_lossy_due s d) refl
      ∙ sym (events_suc g d))

  pub room-beginning : lossy_room s horizon (lossy_beginning s t seed) ≤ most_to s horizon
  unfolding lossy_room
  room-beginning =
      let d = lossy_beginning s t seed in
      let nodes : sum_below (λ n. ticks_to horizon (d.activation n)) (node_count s) ≤ node_count s * (horizon + 1) = sum_most (λ n. ticks_to horizon (d.activation n)) (node_count s) (horizon + 1) (λ i lt. omega arith) in
      let none : sum_below (λ c. length (d.arrivals c)) (chan_count s) ≡ 0 = sum_none (λ c. length (d.arrivals c)) (chan_count s) (λ i lt. refl) in
      let product : sum_below (λ n. ticks_to horizon (d.activation n)) (node_count s) * (chan_count s + 1) ≤ node_count s * (horizon + 1) * (chan_count s + 1) = mul-le-mul_right (chan_count s + 1) nodes in
      let same : node_count s * (horizon + 1) * (chan_count s + 1) ≡ (horizon + 1) * (node_count s * (chan_count s + 1)) =
      ap (λ n. n * (chan_count s + 1)) (mul_comm (node_count s) (horizon + 1)) ∙ mul_assoc (horizon + 1) (node_count s) (chan_count s + 1) in
      omega (arith, product, none, same)

  -- what is still to come
  unfoldable pub rest : LossyDraw → List LossyEvent
  rest d = lossy_events_to s t limit rows rate seed horizon (lossy_room s horizon d) d

  pub drawn-is : lossy_drawn s t limit rows rate seed horizon ≡ rest (lossy_beginning s t seed)
  unfolding lossy_drawn rest
  drawn-is = same_rest (most_to s horizon) (lossy_room s horizon (lossy_beginning s t seed)) (lossy_beginning s t seed) room-beginning (omega arith)

  pub drawn_most : (most : ℕ) → most_to s horizon ≤ most → lossy_events_to s t limit rows rate seed horizon most (lossy_beginning s t seed) ≡ lossy_drawn s t limit rows rate seed horizon
  unfolding lossy_drawn
  drawn_most most le = let start = room-beginning in same_rest most (most_to s horizon) (lossy_beginning s t seed) (omega (arith, start, le)) start

  module _ (d : LossyDraw) where
    rest-by : (n : ℕ) → lossy_room s horizon d ≤ n → lossy_events_to s t limit rows rate seed horizon n d ≡ unless_lossy_past horizon (next_lossy_due s d) (behind rest d)
    unfolding rest
    rest-by zero le = events_zero d ∙ sym (ends-by d (next_lossy_due s d) (behind rest d) refl (omega (arith, le)))
    rest-by (suc n) le = events_suc n d ∙ same_by d (lossy_events_to s t limit rows rate seed horizon n) rest again (next_lossy_due s d) refl
      where
        again : (e : LossyDraw) → lossy_room s horizon e + 1 ≤ lossy_room s horizon d → lossy_events_to s t limit rows rate seed horizon n e ≡ rest e
        again e fewer = same_rest n (lossy_room s horizon e) e (omega (arith, fewer, le)) (omega arith)

    -- it is the end, or the event of what happens next and what comes behind it
    pub rest-is : rest d ≡ unless_lossy_past horizon (next_lossy_due s d) (behind rest d)
    unfolding rest
    rest-is = rest-by (lossy_room s horizon d) (omega arith)
