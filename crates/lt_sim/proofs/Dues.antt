-- What happens next.
use Rattle.std.proofs.Common.{◌≡◌, ℕ, ◌+◌, ◌-◌, ◌<◌, ◌≤◌, ◌⊎◌, inl, inr, Some, refl, sym, ◌∙◌, ap, subst, arith, lt-ltb, le-ltb}
use Rattle.std.proofs.Math.Nat.{add-sub_cancel_left}
use Rattle.std.proofs.lemmas.Bool.{cases_lt}
use Rattle.lt_arch.specs.declared.event.Event.TheVariants.{Act, Del}
use Rattle.lt_arch.specs.declared.shape.Shape.{Shape}
use Rattle.lt_arch.specs.Readers.{node_count, chan_count}
use Rattle.lt_arch.specs.Deadline.{IsFirst}
use Rattle.lt_arch.proofs.Winners.{least_below-first}
use Rattle.lt_sim.specs.Drawn.{Draw, pending_at, next_due, due_event}

pub pending-node : (s : Shape) (d : Draw) (n : ℕ) → n < node_count s → pending_at s d n ≡ Some (d.activation n)
unfolding pending_at
pending-node s d n lt = rw (lt-ltb n (node_count s) lt) refl

pub pending-chan : (s : Shape) (d : Draw) (c : ℕ) → pending_at s d (node_count s + c) ≡ d.delivery c
unfolding pending_at
pending-chan s d c = rw (le-ltb (node_count s + c) (node_count s) (omega arith), add-sub_cancel_left (node_count s) c) refl

-- a node is activated
pub record IsActivation (s : Shape) (d : Draw) (due : ℕ × ℕ) (n : ℕ) : Type 0 where
  pub place : due.1 ≡ n
  pub within : n < node_count s
  pub at : d.activation n ≡ due.0
  pub event : due_event s due ≡ Act n due.0

-- or a channel delivers
pub record IsDelivery (s : Shape) (d : Draw) (due : ℕ × ℕ) (c : ℕ) : Type 0 where
  pub place : due.1 ≡ node_count s + c
  pub within : c < chan_count s
  pub at : d.delivery c ≡ Some due.0
  pub event : due_event s due ≡ Del c due.0

some_is : (a b : ℕ) → Some a ≡ Some b → a ≡ b
some_is a b h = cc

module _ (s : Shape) (d : Draw) (due : ℕ × ℕ) (is : next_due s d ≡ Some due) where
  pub first : IsFirst (pending_at s d) (node_count s + chan_count s) (Some due)
  first = subst (IsFirst (pending_at s d) (node_count s + chan_count s)) is (least_below-first (pending_at s d) (node_count s + chan_count s))

  pub least : (place at : ℕ) → place < node_count s + chan_count s → pending_at s d place ≡ Some at → due.0 ≤ at
  least place at lt pending = elim (first.2 place at lt pending) [ inl h ↦ omega (arith, h) | inr h ↦ omega (arith, h.0) ]

  pub which : ((n : ℕ) × IsActivation s d due n) ⊎ ((c : ℕ) × IsDelivery s d due c)
  which = elim (cases_lt due.1 (node_count s)) [
    | inl node ↦ inl (
      due.1,
      record {
        place = refl;
        within = node;
        at = some_is (d.activation due.1) due.0 (sym (pending-node s d due.1 node) ∙ first.1);
        event = rw (lt-ltb due.1 (node_count s) node) refl;
      },
    )
    | inr past ↦
        let c = due.1 - node_count s in
        let place : due.1 ≡ node_count s + c = omega (arith, past) in
        let lt : due.1 < node_count s + chan_count s = first.0 in
        inr (
          c,
          record {
            place = place;
            within = omega (arith, lt, place);
            at = sym (pending-chan s d c) ∙ ap (pending_at s d) (sym place) ∙ first.1;
            event = rw (le-ltb due.1 (node_count s) past) refl;
          },
        )
  ]
