-- What a drawing says happens next, and a drawing at its start.
use Rattle.std.proofs.Common.{◌≡◌, ℕ, zero, suc, ◌+◌, ◌-◌, ◌<◌, ◌≤◌, inl, inr, List, length, replicate, set, Option, Some, None, Bool, if◌then◌else◌, refl, sym, ◌∙◌, ap, subst, arith, slice_index_or, length-set, lt-ltb, le-ltb}
use Rattle.std.specs.Prelude.{slice_set}
use Rattle.std.proofs.lemmas.Bool.{cases_lt}
use Rattle.std.proofs.lemmas.List.{get_or-set_same, get_or-set_other, get_or-replicate, length-replicate, get_or_past}
use Rattle.lt_arch.specs.declared.shape.Shape.{Shape}
use Rattle.lt_arch.specs.declared.timing.Timing.{Timing}
use Rattle.lt_arch.specs.Readers.{node_count, chan_count, tmax_of}
use Rattle.lt_arch.specs.Deadline.{least_below}
use Rattle.lt_arch.specs.Queue.{least_deadline}
use Rattle.lt_arch.proofs.Changes.{same_or_not}
use Rattle.lt_sim.specs.declared.drawing.Drawing.{Drawing}
use Rattle.lt_sim.specs.Words.{generator, left_after, drawn_word, number_in}
use Rattle.lt_sim.specs.Drawn.{Draw, pending_at, next_due, beginning}
use Rattle.lt_sim.specs.Standing.{DrawingStands, unless_later}
use Rattle.lt_sim.proofs.Dues.{pending-node, pending-chan}

least_below-same : (f g : ℕ → Option ℕ) (n : ℕ) → ((k : ℕ) → k < n → f k ≡ g k) → least_below f n ≡ least_below g n
unfolding least_below
least_below-same f g zero h = refl
least_below-same f g (suc n) h = rw (least_below-same f g n (λ k lt. h k (omega arith)), h n (omega arith)) refl

pub first-due : (k : Drawing) (s : Shape) (t : Timing) (seed : ℕ) (d : Draw) → DrawingStands k s t seed d → least_deadline k.pending ≡ next_due s d
first-due k s t seed d stands = rw stands.places (least_below-same (λ i. slice_index_or k.pending i None) (pending_at s d) (node_count s + chan_count s) stands.pending)

module _ (k : Drawing) (s : Shape) (t : Timing) (seed : ℕ) (d : Draw) (stands : DrawingStands k s t seed d) (horizon : ℕ) where
  pub none_due : least_deadline k.pending ≡ None → None ≡ unless_later horizon (next_due s d)
  none_due is = ap (unless_later horizon) (sym is ∙ first-due k s t seed d stands)

  pub later_due : (due : ℕ × ℕ) → least_deadline k.pending ≡ Some due → horizon < due.0 → None ≡ unless_later horizon (next_due s d)
  later_due due is past = sym (ap (λ (b : Bool). if b then None else Some due) (lt-ltb horizon due.0 past)) ∙ ap (unless_later horizon) (sym is ∙ first-due k s t seed d stands)

  pub some_due : (due : ℕ × ℕ) → least_deadline k.pending ≡ Some due → due.0 ≤ horizon → Some due ≡ unless_later horizon (next_due s d)
  some_due due is near = sym (ap (λ (b : Bool). if b then None else Some due) (le-ltb horizon due.0 near)) ∙ ap (unless_later horizon) (sym is ∙ first-due k s t seed d stands)

-- The first activations.

pub left-first : (seed : ℕ) → generator seed ≡ left_after seed 0
unfolding left_after
left-first seed = refl

-- so many of them are drawn
pub record HasFirst (t : Timing) (seed places n : ℕ) (pending : List (Option ℕ)) : Type 0 where
  pub size : length pending ≡ places
  pub nodes : (i : ℕ) → i < n → slice_index_or pending i None ≡ Some (number_in 0 (tmax_of t i) (drawn_word seed (i + 1)))
  pub others : (i : ℕ) → n ≤ i → slice_index_or pending i None ≡ None

pub first_none : (t : Timing) (seed places : ℕ) (pending : List (Option ℕ)) → pending ≡ replicate places None → HasFirst t seed places 0 pending
first_none t seed places pending is = record {
  size = ap (λ (xs : List (Option ℕ)). length xs) is ∙ length-replicate places None;
  nodes = λ i lt. absurd (omega (arith, lt));
  others = λ i _. ap (λ (xs : List (Option ℕ)). slice_index_or xs i None) is ∙ elim (cases_lt i places) [
    | inl lt ↦ get_or-replicate places i None None lt
    | inr le ↦ get_or_past (replicate places None) i None (let size = length-replicate {A = Option ℕ} places None in omega (arith, size, le))
  ];
}

pub first_more : (t : Timing) (seed places n v x : ℕ) (pending new : List (Option ℕ)) → HasFirst t seed places n pending → n < places → x ≡ tmax_of t n → v ≡ number_in 0 x (drawn_word seed (n + 1)) → new ≡ slice_set pending n (Some v) → HasFirst t seed places (n + 1) new
first_more t seed places n v x pending new h lt most is set_is = record {
  size = ap (λ (xs : List (Option ℕ)). length xs) set_is ∙ (length-set pending n (Some v) ∙ h.size);
  nodes = λ i below. ap (λ (xs : List (Option ℕ)). slice_index_or xs i None) set_is ∙ elim (same_or_not i n) [
    | inl e ↦ subst (λ i. slice_index_or (set pending n (Some v)) i None ≡ Some (number_in 0 (tmax_of t i) (drawn_word seed (i + 1)))) (sym e)
        (get_or-set_same pending n (Some v) None (let size = h.size in omega (arith, size, lt)) ∙ ap (λ v. Some v) (is ∙ ap (λ m. number_in 0 m (drawn_word seed (n + 1))) most))
    | inr ne ↦ get_or-set_other pending n i (Some v) None ne ∙ h.nodes i (omega (arith, below, ne))
  ];
  others = λ i past. ap (λ (xs : List (Option ℕ)). slice_index_or xs i None) set_is ∙ (get_or-set_other pending n i (Some v) None (λ e. absurd (omega (arith, e, past))) ∙ h.others i (omega (arith, past)));
}

pub first_all : (s : Shape) (t : Timing) (seed : ℕ) (pending : List (Option ℕ)) → HasFirst t seed (node_count s + chan_count s) (node_count s) pending → (place : ℕ) → place < node_count s + chan_count s → slice_index_or pending place None ≡ pending_at s (beginning s t seed) place
first_all s t seed pending h place within = elim (cases_lt place (node_count s)) [
  | inl node ↦ h.nodes place node ∙ sym (pending-node s (beginning s t seed) place node)
  | inr past ↦
      let there : place ≡ node_count s + (place - node_count s) = omega (arith, past) in
      h.others place past ∙ sym (ap (pending_at s (beginning s t seed)) there ∙ pending-chan s (beginning s t seed) (place - node_count s))
]
