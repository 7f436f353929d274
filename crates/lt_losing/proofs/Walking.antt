-- Which words decide the events of a drawn list.
use Rattle.std.proofs.Common.{◌≡◌, ℕ, ◌+◌, inl, inr, List, [], ◌∷◌, ◌++◌, Option, Some, None, Bool, true, false, nat_lt, if◌then◌else◌, refl, sym, ◌∙◌, ap, subst, arith}
use Rattle.lt_arch.specs.declared.event.Event.{Event}
use Rattle.lt_arch.specs.declared.event.Event.TheVariants.{Act, Del, End}
use Rattle.lt_arch.specs.declared.shape.Shape.{Shape}
use Rattle.lt_arch.specs.declared.timing.Timing.{Timing}
use Rattle.lt_arch.specs.Readers.{tmax_of}
use Rattle.lt_arch.proofs.Changes.{updated-here, updated-other}
use Rattle.lt_lossy.specs.declared.event.LossyEvent.{LossyEvent}
use Rattle.lt_lossy.specs.declared.event.LossyEvent.TheVariants.{Plain, Lose}
use Rattle.lt_lossy.specs.State.{LossyState}
use Rattle.lt_lossy.specs.Step.{lossy_after}
use Rattle.lt_lossy.specs.Schedule.{lossy_after_all, lossy_reached}
use Rattle.lt_sim.specs.Words.{drawn_word, number_in}
use Rattle.lt_sim.specs.Drawn.{gap}
use Rattle.lt_sim.proofs.Dues.{which}
use Rattle.lt_losing.specs.Losing.{LossyDraw, as_lossless, next_lossy_due, loses_by, loses_next, lossy_or, due_lossy_event, lossy_beginning, lossy_drawn_on, unless_lossy_past, lossy_drawn}
use Rattle.lt_losing.specs.LossyNumbers.{lossy_words_by, lossy_words_before, HasNoLossyActivation, AreLossyDrawn}
use Rattle.lt_losing.proofs.Measure.{behind, rest, rest-is, drawn-is}

not_nil : (xs : List LossyEvent) (e : LossyEvent) (ys : List LossyEvent) → [] ≡ xs ++ e ∷ ys → ⊥
not_nil [] e ys h = cc
not_nil (x ∷ xs) e ys h = cc

head_of : (x y : LossyEvent) (xs ys : List LossyEvent) → x ∷ xs ≡ y ∷ ys → x ≡ y
head_of x y xs ys h = cc

tail_of : (x y : LossyEvent) (xs ys : List LossyEvent) → x ∷ xs ≡ y ∷ ys → xs ≡ ys
tail_of x y xs ys h = cc

act_node : (n m at then_at : ℕ) → Plain (Act n at) ≡ Plain (Act m then_at) → n ≡ m
act_node n m at then_at h = cc

act_time : (n m at then_at : ℕ) → Plain (Act n at) ≡ Plain (Act m then_at) → at ≡ then_at
act_time n m at then_at h = cc

-- what an event leaves of the words

words-more : (s : Shape) (t : Timing) (rows : ℕ) (st : LossyState) (e : LossyEvent) (xs : List LossyEvent) → lossy_words_by s t rows st (e ∷ xs) ≡ lossy_words_by s t rows st (e ∷ []) + lossy_words_by s t rows (lossy_after s t rows st e) xs
words-more s t rows st (Plain (Act n at)) xs = omega arith
words-more s t rows st (Plain (Del c at)) xs = omega arith
words-more s t rows st (Plain (End at)) xs = omega arith
words-more s t rows st (Lose c at) xs = omega arith

no_act_first : (n : ℕ) (e : LossyEvent) (xs : List LossyEvent) → HasNoLossyActivation n (e ∷ xs) → HasNoLossyActivation n (e ∷ [])
no_act_first n (Plain (Act m at)) xs h = (h.0, tt)
no_act_first n (Plain (Del c at)) xs h = tt
no_act_first n (Plain (End at)) xs h = tt
no_act_first n (Lose c at) xs h = tt

no_act_later : (n : ℕ) (e : LossyEvent) (xs : List LossyEvent) → HasNoLossyActivation n (e ∷ xs) → HasNoLossyActivation n xs
no_act_later n (Plain (Act m at)) xs h = h.1
no_act_later n (Plain (Del c at)) xs h = h
no_act_later n (Plain (End at)) xs h = h
no_act_later n (Lose c at) xs h = h

module _ (s : Shape) (t : Timing) (limit rows rate seed horizon : ℕ) where
  -- an event that no end is comes next
  record IsNext (d : LossyDraw) (e : LossyEvent) (later : List LossyEvent) : Type 0 where
    due : ℕ × ℕ
    next : next_lossy_due s d ≡ Some due
    event : due_lossy_event s limit rate seed d due ≡ e
    left : rest s t limit rows rate seed horizon (lossy_drawn_on s t rows seed d (due_lossy_event s limit rate seed d due)) ≡ later

  next_by : (d : LossyDraw) (e : LossyEvent) (later : List LossyEvent) → (Plain (End horizon) ∷ [] ≡ e ∷ later → ⊥) → rest s t limit rows rate seed horizon d ≡ e ∷ later → IsNext d e later
  next_by d e later more is = by (next_lossy_due s d) refl (sym (rest-is s t limit rows rate seed horizon d) ∙ is)
    where
      at_due : (due : ℕ × ℕ) → next_lossy_due s d ≡ Some due → (b : Bool) → (if b then Plain (End horizon) ∷ [] else behind s t limit rows rate seed horizon (rest s t limit rows rate seed horizon) d due) ≡ e ∷ later → IsNext d e later
      at_due due next true is = absurd (more is)
      at_due due next false is = record {
        due = due;
        next = next;
        event = head_of (due_lossy_event s limit rate seed d due) e (rest s t limit rows rate seed horizon (lossy_drawn_on s t rows seed d (due_lossy_event s limit rate seed d due))) later is;
        left = tail_of (due_lossy_event s limit rate seed d due) e (rest s t limit rows rate seed horizon (lossy_drawn_on s t rows seed d (due_lossy_event s limit rate seed d due))) later is;
      }

      by : (o : Option (ℕ × ℕ)) → next_lossy_due s d ≡ o → unless_lossy_past horizon o (behind s t limit rows rate seed horizon (rest s t limit rows rate seed horizon) d) ≡ e ∷ later → IsNext d e later
      by None next is = absurd (more is)
      by (Some due) next is = at_due due next (nat_lt horizon due.0) is

  -- what some events leave of a list that is being drawn
  record Leaves (d new : LossyDraw) (xs : List LossyEvent) : Type 0 where
    state_is : new.state ≡ lossy_after_all s t rows d.state xs
    words_is : new.words ≡ d.words + lossy_words_by s t rows d.state xs
    activations : (n : ℕ) → HasNoLossyActivation n xs → new.activation n ≡ d.activation n

  leaves-act : (d : LossyDraw) (n at : ℕ) → Leaves d (lossy_drawn_on s t rows seed d (Plain (Act n at))) (Plain (Act n at) ∷ [])
  unfolding lossy_drawn_on
  leaves-act d n at = record {
    state_is = refl;
    words_is = omega arith;
    activations = λ m none. updated-other d.activation n (at + gap t seed n (d.words + 1)) m (λ same. none.0 (sym same));
  }

  leaves-either : (d : LossyDraw) (c at : ℕ) (b : Bool) → Leaves d (lossy_drawn_on s t rows seed d (if b then Lose c at else Plain (Del c at))) ((if b then Lose c at else Plain (Del c at)) ∷ [])
  unfolding lossy_drawn_on
  leaves-either d c at true = record { state_is = refl; words_is = omega arith; activations = λ m none. refl }
  leaves-either d c at false = record { state_is = refl; words_is = omega arith; activations = λ m none. refl }

  leaves_next : (d : LossyDraw) (due : ℕ × ℕ) → next_lossy_due s d ≡ Some due → Leaves d (lossy_drawn_on s t rows seed d (due_lossy_event s limit rate seed d due)) (due_lossy_event s limit rate seed d due ∷ [])
  leaves_next d due is = elim (which s (as_lossless d) due is) [
    | inl a ↦ subst (λ (e : Event). Leaves d (lossy_drawn_on s t rows seed d (lossy_or limit rate seed d e)) (lossy_or limit rate seed d e ∷ [])) (sym a.1.event) (leaves-act d a.0 due.0)
    | inr a ↦ subst (λ (e : Event). Leaves d (lossy_drawn_on s t rows seed d (lossy_or limit rate seed d e)) (lossy_or limit rate seed d e ∷ [])) (sym a.1.event) (leaves-either d a.0 due.0 (loses_next limit rate seed d a.0))
  ]

  leaves_more : (d mid new : LossyDraw) (e : LossyEvent) (xs : List LossyEvent) → Leaves d mid (e ∷ []) → Leaves mid new xs → Leaves d new (e ∷ xs)
  leaves_more d mid new e xs a b = record {
    state_is = b.state_is ∙ ap (λ (st : LossyState). lossy_after_all s t rows st xs) a.state_is;
    words_is =
        let later : lossy_words_by s t rows mid.state xs ≡ lossy_words_by s t rows (lossy_after s t rows d.state e) xs = ap (λ (st : LossyState). lossy_words_by s t rows st xs) a.state_is in
        let first = a.words_is in
        let rest = b.words_is in
        let all = words-more s t rows d.state e xs in
        omega (arith, later, first, rest, all);
    activations = λ n none. b.activations n (no_act_later n e xs none) ∙ a.activations n (no_act_first n e xs none);
  }

  -- behind some events of the list
  record Walks (d : LossyDraw) (xs : List LossyEvent) (e : LossyEvent) (later : List LossyEvent) : Type 0 where
    to : LossyDraw
    leaves : Leaves d to xs
    left : rest s t limit rows rate seed horizon to ≡ e ∷ later

  walk : (d : LossyDraw) (xs : List LossyEvent) (e : LossyEvent) (later : List LossyEvent) → rest s t limit rows rate seed horizon d ≡ xs ++ e ∷ later → Walks d xs e later
  walk d [] e later is = record { to = d; leaves = record { state_is = refl; words_is = omega arith; activations = λ n none. refl }; left = is }
  walk d (x ∷ xs) e later is =
      let h = next_by d x (xs ++ e ∷ later) (λ end. not_nil xs e later (tail_of (Plain (End horizon)) x [] (xs ++ e ∷ later) end)) is in
      let mid : LossyDraw = lossy_drawn_on s t rows seed d (due_lossy_event s limit rate seed d h.due) in
      let next = walk mid xs e later h.left in
      record {
        to = next.to;
        leaves = subst (λ (y : LossyEvent). Leaves d next.to (y ∷ xs)) h.event (leaves_more d mid next.to (due_lossy_event s limit rate seed d h.due) xs (leaves_next d h.due h.next) next.leaves);
        left = next.left;
      }

  from_start : (front : List LossyEvent) (e : LossyEvent) (later : List LossyEvent) → lossy_drawn s t limit rows rate seed horizon ≡ front ++ e ∷ later → Walks (lossy_beginning s t seed) front e later
  from_start front e later is = walk (lossy_beginning s t seed) front e later (sym (drawn-is s t limit rows rate seed horizon) ∙ is)

  -- The first event of what is left.

  no_either : (b : Bool) (c n at then_at : ℕ) → (if b then Lose c at else Plain (Del c at)) ≡ Plain (Act n then_at) → ⊥
  no_either true c n at then_at h = cc
  no_either false c n at then_at h = cc

  time_of_act : (d : LossyDraw) (n at : ℕ) (later : List LossyEvent) → rest s t limit rows rate seed horizon d ≡ Plain (Act n at) ∷ later → at ≡ d.activation n
  time_of_act d n at later is =
      let h = next_by d (Plain (Act n at)) later (λ end. let clash = head_of (Plain (End horizon)) (Plain (Act n at)) [] later end in absurd cc) is in
      elim (which s (as_lossless d) h.due h.next) [
        | inl a ↦
            let same : Plain (Act a.0 h.due.0) ≡ Plain (Act n at) = ap (lossy_or limit rate seed d) (sym a.1.event) ∙ h.event in
            sym (act_time a.0 n h.due.0 at same) ∙ (sym a.1.at ∙ ap d.activation (act_node a.0 n h.due.0 at same))
        | inr a ↦ absurd (no_either (loses_next limit rate seed d a.0) a.0 n h.due.0 at (ap (lossy_or limit rate seed d) (sym a.1.event) ∙ h.event))
      ]

  is_lost : (d : LossyDraw) (i c at then_at : ℕ) (b : Bool) → loses_next limit rate seed d i ≡ b → (if b then Lose i at else Plain (Del i at)) ≡ Lose c then_at → loses_next limit rate seed d c ≡ true
  is_lost d i c at then_at true lost h = let same : i ≡ c = cc in subst (λ k. loses_next limit rate seed d k ≡ true) same lost
  is_lost d i c at then_at false lost h = absurd cc

  is_kept : (d : LossyDraw) (i c at then_at : ℕ) (b : Bool) → loses_next limit rate seed d i ≡ b → (if b then Lose i at else Plain (Del i at)) ≡ Plain (Del c then_at) → loses_next limit rate seed d c ≡ false
  is_kept d i c at then_at true lost h = absurd cc
  is_kept d i c at then_at false lost h = let same : i ≡ c = cc in subst (λ k. loses_next limit rate seed d k ≡ false) same lost

  lost_at : (d : LossyDraw) (c at : ℕ) (later : List LossyEvent) → rest s t limit rows rate seed horizon d ≡ Lose c at ∷ later → loses_next limit rate seed d c ≡ true
  lost_at d c at later is =
      let h = next_by d (Lose c at) later (λ end. let clash = head_of (Plain (End horizon)) (Lose c at) [] later end in absurd cc) is in
      elim (which s (as_lossless d) h.due h.next) [
        | inl a ↦ let clash : Plain (Act a.0 h.due.0) ≡ Lose c at = ap (lossy_or limit rate seed d) (sym a.1.event) ∙ h.event in absurd cc
        | inr a ↦ is_lost d a.0 c h.due.0 at (loses_next limit rate seed d a.0) refl (ap (lossy_or limit rate seed d) (sym a.1.event) ∙ h.event)
      ]

  kept_at : (d : LossyDraw) (c at : ℕ) (later : List LossyEvent) → rest s t limit rows rate seed horizon d ≡ Plain (Del c at) ∷ later → loses_next limit rate seed d c ≡ false
  kept_at d c at later is =
      let h = next_by d (Plain (Del c at)) later (λ end. let clash = head_of (Plain (End horizon)) (Plain (Del c at)) [] later end in absurd cc) is in
      elim (which s (as_lossless d) h.due h.next) [
        | inl a ↦ let clash : Plain (Act a.0 h.due.0) ≡ Plain (Del c at) = ap (lossy_or limit rate seed d) (sym a.1.event) ∙ h.event in absurd cc
        | inr a ↦ is_kept d a.0 c h.due.0 at (loses_next limit rate seed d a.0) refl (ap (lossy_or limit rate seed d) (sym a.1.event) ∙ h.event)
      ]

  -- behind an activation
  activates : (d : LossyDraw) (n at : ℕ) (later : List LossyEvent) → rest s t limit rows rate seed horizon d ≡ Plain (Act n at) ∷ later → rest s t limit rows rate seed horizon (lossy_drawn_on s t rows seed d (Plain (Act n at))) ≡ later
  activates d n at later is =
      let h = next_by d (Plain (Act n at)) later (λ end. let clash = head_of (Plain (End horizon)) (Plain (Act n at)) [] later end in absurd cc) is in
      subst (λ (e : LossyEvent). rest s t limit rows rate seed horizon (lossy_drawn_on s t rows seed d e) ≡ later) h.event h.left

  next_activation : (d : LossyDraw) (n at : ℕ) → (lossy_drawn_on s t rows seed d (Plain (Act n at))).activation n ≡ at + gap t seed n (d.words + 1)
  unfolding lossy_drawn_on
  next_activation d n at = updated-here d.activation n (at + gap t seed n (d.words + 1)) n refl

  -- The law.

  first_time : (n at : ℕ) (front later : List LossyEvent) → lossy_drawn s t limit rows rate seed horizon ≡ front ++ Plain (Act n at) ∷ later → HasNoLossyActivation n front → at ≡ number_in 0 (tmax_of t n) (drawn_word seed (n + 1))
  first_time n at front later is none = let w = from_start front (Plain (Act n at)) later is in time_of_act w.to n at later w.left ∙ w.leaves.activations n none

  next_time : (n at then_at : ℕ) (front between later : List LossyEvent) → lossy_drawn s t limit rows rate seed horizon ≡ front ++ Plain (Act n at) ∷ (between ++ Plain (Act n then_at) ∷ later) → HasNoLossyActivation n between
      → then_at ≡ at + gap t seed n (lossy_words_before s t rows front + 1)
  next_time n at then_at front between later is none =
      let w = from_start front (Plain (Act n at)) (between ++ Plain (Act n then_at) ∷ later) is in
      let after = activates w.to n at (between ++ Plain (Act n then_at) ∷ later) w.left in
      let v = walk (lossy_drawn_on s t rows seed w.to (Plain (Act n at))) between (Plain (Act n then_at)) later after in
      time_of_act v.to n then_at later v.left ∙ (v.leaves.activations n none ∙ (next_activation w.to n at ∙ ap (λ m. at + gap t seed n (m + 1)) w.leaves.words_is))

  -- a message is lost by what was lost in a row and the words that were drawn before
  by_front : (front : List LossyEvent) (c : ℕ) (to : LossyDraw) → Leaves (lossy_beginning s t seed) to front
      → loses_next limit rate seed to c ≡ loses_by limit rate seed ((lossy_reached s t rows front).link c).losses (lossy_words_before s t rows front + 1)
  by_front front c to leaves = λ i. loses_by limit rate seed ((leaves.state_is i).link c).losses (leaves.words_is i + 1)

  pub lossy_numbers : AreLossyDrawn s t limit rows rate seed (lossy_drawn s t limit rows rate seed horizon)
  lossy_numbers = record {
    first = first_time;
    next = next_time;
    lost = λ c at front later is. let w = from_start front (Lose c at) later is in sym (by_front front c w.to w.leaves) ∙ lost_at w.to c at later w.left;
    delivered = λ c at front later is. let w = from_start front (Plain (Del c at)) later is in sym (by_front front c w.to w.leaves) ∙ kept_at w.to c at later w.left;
  }
