-- How many events can come up to a horizon.
use Rattle.std.proofs.Common.{◌≡◌, ℕ, zero, suc, ◌+◌, ◌-◌, ◌*◌, ◌<◌, ◌≤◌, inl, inr, List, [], ◌∷◌, Option, Some, None, Bool, true, false, nat_lt, if◌then◌else◌, refl, sym, ◌∙◌, ap, arith, ltb-false}
use Rattle.std.proofs.Math.Nat.{mul-le-mul_right, mul_assoc, mul_comm, suc-mul}
use Rattle.lt_arch.specs.declared.event.Event.{Event}
use Rattle.lt_arch.specs.declared.event.Event.TheVariants.{End}
use Rattle.lt_arch.specs.declared.shape.Shape.{Shape}
use Rattle.lt_arch.specs.declared.timing.Timing.{Timing}
use Rattle.lt_arch.specs.Readers.{node_count, chan_count, tmin_of}
use Rattle.lt_arch.specs.Step.{updated}
use Rattle.lt_arch.proofs.Changes.{updated-here, updated-other}
use Rattle.lt_arch.proofs.Ranges.{tmin-some}
use Rattle.lt_sim.specs.Drawn.{Draw, next_due, due_event, beginning, gap, activated, delivered, drawn_on, unless_past, events_to, most_to, drawn}
use Rattle.lt_sim.proofs.Counting.{sum_below, sum_less, sum_most, sum_none}
use Rattle.lt_sim.proofs.Dues.{which}

-- one, where a delivery is pending
abbrev pub one_of : Option ℕ → ℕ
one_of None = 0
one_of (Some at) = 1

-- how many activations of a node can come up to the horizon, of which the next is at a time
abbrev pub ticks_to : (horizon at : ℕ) → ℕ
ticks_to horizon at = horizon + 1 - at

-- how many events can come
unfoldable pub room : Shape → (horizon : ℕ) → Draw → ℕ
room s horizon d = sum_below (λ n. ticks_to horizon (d.activation n)) (node_count s) * (chan_count s + 1) + sum_below (λ c. one_of (d.delivery c)) (chan_count s)

one_most : (o : Option ℕ) → one_of o ≤ 1
one_most None = omega arith
one_most (Some at) = omega arith

ones_most : (f : ℕ → Option ℕ) (n : ℕ) → sum_below (λ c. one_of (f c)) n ≤ n
ones_most f zero = omega arith
ones_most f (suc n) = let rest : sum_below (λ c. one_of (f c)) n ≤ n = ones_most f n in let last = one_most (f n) in omega (arith, rest, last)

less_product : (a b m x y : ℕ) → a + 1 ≤ b → x ≤ m → a * (m + 1) + x + 1 ≤ b * (m + 1) + y
less_product a b m x y less few =
    let h : suc a * (m + 1) ≤ b * (m + 1) = mul-le-mul_right (m + 1) (omega (arith, less)) in
    let e : suc a * (m + 1) ≡ a * (m + 1) + (m + 1) = suc-mul a (m + 1) in
    omega (arith, h, e, few)

module _ (s : Shape) (t : Timing) (rows seed horizon : ℕ) (d : Draw) where
  less-act : (n at : ℕ) → n < node_count s → d.activation n ≡ at → at ≤ horizon → room s horizon (activated s t rows seed d n at) + 1 ≤ room s horizon d
  unfolding room
  less-act n at within is near =
      let next : ℕ = at + gap t seed n (d.words + 1) in
      let some : 1 ≤ tmin_of t n = tmin-some t n in
      let here : updated d.activation n next n ≡ next = updated-here d.activation n next n refl in
      let fewer : ticks_to horizon (updated d.activation n next n) + 1 ≤ ticks_to horizon (d.activation n) = rw here (omega (arith, some, is, near)) in
      let nodes : sum_below (λ i. ticks_to horizon (updated d.activation n next i)) (node_count s) + 1 ≤ sum_below (λ i. ticks_to horizon (d.activation i)) (node_count s) =
      sum_less (λ i. ticks_to horizon (d.activation i)) (λ i. ticks_to horizon (updated d.activation n next i)) (node_count s) n within fewer
      (λ i lt other. let e : updated d.activation n next i ≡ d.activation i = updated-other d.activation n next i other in omega (arith, e)) in
      less_product _ _ (chan_count s) _ _ nodes (ones_most (activated s t rows seed d n at).delivery (chan_count s))

  less-del : (c at : ℕ) → c < chan_count s → d.delivery c ≡ Some at → room s horizon (delivered s t rows d c at) + 1 ≤ room s horizon d
  unfolding room
  less-del c at within is =
      let here : updated d.delivery c None c ≡ None = updated-here d.delivery c None c refl in
      let before : one_of (d.delivery c) ≡ 1 = ap one_of is in
      let now : one_of (updated d.delivery c None c) ≡ 0 = ap one_of here in
      let chans : sum_below (λ i. one_of (updated d.delivery c None i)) (chan_count s) + 1 ≤ sum_below (λ i. one_of (d.delivery i)) (chan_count s) =
      sum_less (λ i. one_of (d.delivery i)) (λ i. one_of (updated d.delivery c None i)) (chan_count s) c within (omega (arith, before, now))
      (λ i lt other. let e : one_of (updated d.delivery c None i) ≡ one_of (d.delivery i) = ap one_of (updated-other d.delivery c None i other) in omega (arith, e)) in
      omega (arith, chans)

  -- with each event up to the horizon there are fewer
  pub less : (due : ℕ × ℕ) → next_due s d ≡ Some due → due.0 ≤ horizon → room s horizon (drawn_on s t rows seed d (due_event s due)) + 1 ≤ room s horizon d
  unfolding drawn_on
  less due is near = elim (which s d due is) [
    | inl a ↦ rw a.1.event (less-act a.0 due.0 a.1.within a.1.at near)
    | inr a ↦ rw a.1.event (less-del a.0 due.0 a.1.within a.1.at)
  ]

-- where none can come, the end comes
module _ (s : Shape) (t : Timing) (rows seed horizon : ℕ) where
  ends-by : (d : Draw) (next : Option (ℕ × ℕ)) (later : ℕ × ℕ → List Event) → next_due s d ≡ next → room s horizon d ≡ 0 → unless_past horizon next later ≡ End horizon ∷ []
  ends-by d None later is none = refl
  ends-by d (Some due) later is none = by (nat_lt horizon due.0) refl
    where
      by : (b : Bool) → nat_lt horizon due.0 ≡ b → (if b then End horizon ∷ [] else later due) ≡ End horizon ∷ []
      by true past = refl
      by false past = let le = ltb-false horizon due.0 past in let fewer = less s t rows seed horizon d due is le in absurd (omega (arith, fewer, none))

  -- a bound on their number that is large enough cuts nothing off
  pub same_rest : (f g : ℕ) (d : Draw) → room s horizon d ≤ f → room s horizon d ≤ g → events_to s t rows seed horizon f d ≡ events_to s t rows seed horizon g d
  unfolding events_to
  same_rest zero zero d hf hg = refl
  same_rest zero (suc g) d hf hg = sym (ends-by d (next_due s d) (λ due. due_event s due ∷ events_to s t rows seed horizon g (drawn_on s t rows seed d (due_event s due))) refl (omega (arith, hf)))
  same_rest (suc f) zero d hf hg = ends-by d (next_due s d) (λ due. due_event s due ∷ events_to s t rows seed horizon f (drawn_on s t rows seed d (due_event s due))) refl (omega (arith, hg))
  same_rest (suc f) (suc g) d hf hg = by (λ e he ge. same_rest f g e he ge) (next_due s d) refl
    where
      next : ℕ → ℕ × ℕ → List Event
      next k due = due_event s due ∷ events_to s t rows seed horizon k (drawn_on s t rows seed d (due_event s due))

      at_due : ((e : Draw) → room s horizon e ≤ f → room s horizon e ≤ g → events_to s t rows seed horizon f e ≡ events_to s t rows seed horizon g e)
          → (due : ℕ × ℕ) → next_due s d ≡ Some due → (b : Bool) → nat_lt horizon due.0 ≡ b → (if b then End horizon ∷ [] else next f due) ≡ (if b then End horizon ∷ [] else next g due)
      at_due again due is true past = refl
      at_due again due is false past =
          let le = ltb-false horizon due.0 past in
          let fewer = less s t rows seed horizon d due is le in
          ap (λ (es : List Event). due_event s due ∷ es) (again (drawn_on s t rows seed d (due_event s due)) (omega (arith, fewer, hf)) (omega (arith, fewer, hg)))

      by : ((e : Draw) → room s horizon e ≤ f → room s horizon e ≤ g → events_to s t rows seed horizon f e ≡ events_to s t rows seed horizon g e)
          → (o : Option (ℕ × ℕ)) → next_due s d ≡ o → unless_past horizon o (next f) ≡ unless_past horizon o (next g)
      by again None is = refl
      by again (Some due) is = at_due again due is (nat_lt horizon due.0) refl

  pub room-beginning : room s horizon (beginning s t seed) ≤ most_to s horizon
  unfolding room
  room-beginning =
      let d = beginning s t seed in
      let nodes : sum_below (λ n. ticks_to horizon (d.activation n)) (node_count s) ≤ node_count s * (horizon + 1) = sum_most (λ n. ticks_to horizon (d.activation n)) (node_count s) (horizon + 1) (λ i lt. omega arith) in
      let none : sum_below (λ c. one_of (d.delivery c)) (chan_count s) ≡ 0 = sum_none (λ c. one_of (d.delivery c)) (chan_count s) (λ i lt. refl) in
      let product : sum_below (λ n. ticks_to horizon (d.activation n)) (node_count s) * (chan_count s + 1) ≤ node_count s * (horizon + 1) * (chan_count s + 1) = mul-le-mul_right (chan_count s + 1) nodes in
      let same : node_count s * (horizon + 1) * (chan_count s + 1) ≡ (horizon + 1) * (node_count s * (chan_count s + 1)) =
      ap (λ n. n * (chan_count s + 1)) (mul_comm (node_count s) (horizon + 1)) ∙ mul_assoc (horizon + 1) (node_count s) (chan_count s + 1) in
      omega (arith, product, none, same)

  -- what is still to come
  unfoldable pub rest : Draw → List Event
  rest d = events_to s t rows seed horizon (room s horizon d) d

  pub drawn-is : drawn s t rows seed horizon ≡ rest (beginning s t seed)
  unfolding drawn rest
  drawn-is = same_rest (most_to s horizon) (room s horizon (beginning s t seed)) (beginning s t seed) room-beginning (omega arith)

  pub drawn_most : (most : ℕ) → most_to s horizon ≤ most → events_to s t rows seed horizon most (beginning s t seed) ≡ drawn s t rows seed horizon
  unfolding drawn
  drawn_most most le = let start = room-beginning in same_rest most (most_to s horizon) (beginning s t seed) (omega (arith, start, le)) start

  module _ (d : Draw) where
    rest-by : (o : Option (ℕ × ℕ)) → next_due s d ≡ o → (n : ℕ) → room s horizon d ≤ n
        → events_to s t rows seed horizon n d ≡ unless_past horizon o (λ due. due_event s due ∷ rest (drawn_on s t rows seed d (due_event s due)))
    unfolding events_to rest
    rest-by o is zero le = sym (ends-by d o (λ due. due_event s due ∷ rest (drawn_on s t rows seed d (due_event s due))) is (omega (arith, le)))
    rest-by None is (suc n) le = ap (λ (o : Option (ℕ × ℕ)). unless_past horizon o (λ due. due_event s due ∷ events_to s t rows seed horizon n (drawn_on s t rows seed d (due_event s due)))) is
    rest-by (Some due) is (suc n) le =
        ap (λ (o : Option (ℕ × ℕ)). unless_past horizon o (λ due. due_event s due ∷ events_to s t rows seed horizon n (drawn_on s t rows seed d (due_event s due)))) is
        ∙ by (nat_lt horizon due.0) refl
      where
        next : Draw
        next = drawn_on s t rows seed d (due_event s due)

        by : (b : Bool) → nat_lt horizon due.0 ≡ b → (if b then End horizon ∷ [] else due_event s due ∷ events_to s t rows seed horizon n next) ≡ (if b then End horizon ∷ [] else due_event s due ∷ rest next)
        by true past = refl
        by false past =
            let near = ltb-false horizon due.0 past in
            let fewer = less s t rows seed horizon d due is near in
            ap (λ (es : List Event). due_event s due ∷ es) (same_rest n (room s horizon next) next (omega (arith, fewer, le)) (omega arith))

    -- it is the end, or the event of what happens next and what comes behind it
    pub rest-is : rest d ≡ unless_past horizon (next_due s d) (λ due. due_event s due ∷ rest (drawn_on s t rows seed d (due_event s due)))
    unfolding rest
    rest-is = rest-by (next_due s d) refl (room s horizon d) (omega arith)
