-- What an event over links that lose messages changes.
use Rattle.std.proofs.Common.{◌≡◌, ◌≢◌, ℕ, Option, Some, None, Bool, true, false, nat_lt, refl, sym, subst, inl, inr, if◌then◌else◌, eq-eqb, ne_eqb}
use Rattle.lt_arch.specs.declared.event.Event.{Event}
use Rattle.lt_arch.specs.declared.event.Event.TheVariants.{Act, Del, End}
use Rattle.lt_arch.specs.declared.event.Offence.{Offence}
use Rattle.lt_arch.specs.declared.timing.Timing.{Timing}
use Rattle.lt_arch.specs.declared.shape.Shape.{Shape}
use Rattle.lt_arch.specs.State.{NodeState}
use Rattle.lt_arch.specs.Readers.{from_of}
use Rattle.lt_arch.specs.Step.{offence_of, updated, woken}
use Rattle.lt_arch.proofs.Changes.{same_or_not, updated-here, updated-other}
use Rattle.lt_lossy.specs.declared.event.LossyEvent.TheVariants.{Plain, Lose}
use Rattle.lt_lossy.specs.declared.event.LossyOffence.{LossyOffence}
use Rattle.lt_lossy.specs.declared.event.LossyOffence.TheVariants.{TooManyLost}
use Rattle.lt_lossy.specs.State.{LinkState, LossyState, plain_of, number_on}
use Rattle.lt_lossy.specs.Step.{at_any_time, too_many_lost, common_or, lossy_offence, lossy_after, link_with_message, link_delivered, link_lost}

-- a function changed at one number, at any number
pub at_place : {A : Type 0} (Q : A → Type 0) (f : ℕ → A) (at : ℕ) (v : A) (i : ℕ) → (i ≡ at → Q v) → (i ≢ at → Q (f i)) → Q (updated f at v i)
at_place Q f at v i here there = elim (same_or_not i at) [
  | inl e ↦ subst Q (sym (updated-here f at v i e)) (here e)
  | inr ne ↦ subst Q (sym (updated-other f at v i ne)) (there ne)
]

-- Events without an offence.

pub none_common : (o : Option Offence) (later : Option LossyOffence) → common_or o later ≡ None → (o ≡ None) × (later ≡ None)
none_common None later h = (refl, h)
none_common (Some o) later h = absurd cc

-- one that loses nothing has none without losses
pub plain_clear : (s : Shape) (t : Timing) (limit : ℕ) (st : LossyState) (e : Event) → lossy_offence s t limit st (Plain e) ≡ None → offence_of s t (plain_of st) e ≡ None
unfolding lossy_offence
plain_clear s t limit st e h = (none_common (offence_of s t (plain_of st) e) None h).0

few_lost : (limit c losses : ℕ) → too_many_lost limit c losses ≡ None → losses ≢ limit
few_lost limit c losses h e = let h' : (if true then Some (TooManyLost c) else None) ≡ None = subst (λ b. (if b then Some (TooManyLost c) else None) ≡ None) (eq-eqb losses limit e) h in absurd cc

-- one that loses a message comes before the last loss in a row
pub loss_clear : (s : Shape) (t : Timing) (limit : ℕ) (st : LossyState) (c at : ℕ) → lossy_offence s t limit st (Lose c at) ≡ None → (st.link c).losses ≢ limit
unfolding lossy_offence
loss_clear s t limit st c at h = few_lost limit c (st.link c).losses (none_common (at_any_time (offence_of s t (plain_of st) (Del c at))) (too_many_lost limit c (st.link c).losses) h).1

-- An activation.

module _ (s : Shape) (t : Timing) (rows : ℕ) (st : LossyState) (n at : ℕ) where
  pub node-act : (Q : NodeState → Type 0) (i : ℕ) → (i ≡ n → Q (woken s t rows (plain_of st) n at)) → (i ≢ n → Q (st.node i)) → Q ((lossy_after s t rows st (Plain (Act n at))).node i)
  unfolding lossy_after
  node-act Q i here there = at_place Q st.node n (woken s t rows (plain_of st) n at) i here there

  pub link-act_from : (c : ℕ) → from_of s c ≡ n → (lossy_after s t rows st (Plain (Act n at))).link c ≡ link_with_message (nat_lt 0 (number_on s (woken s t rows (plain_of st) n at) c)) (number_on s (woken s t rows (plain_of st) n at) c) at (st.link c)
  unfolding lossy_after
  link-act_from c e = rw (eq-eqb (from_of s c) n e) refl

  pub link-act_other : (c : ℕ) → from_of s c ≢ n → (lossy_after s t rows st (Plain (Act n at))).link c ≡ st.link c
  unfolding lossy_after
  link-act_other c ne = rw (ne_eqb (from_of s c) n ne) refl

  pub node-act_here : (i : ℕ) → i ≡ n → (lossy_after s t rows st (Plain (Act n at))).node i ≡ woken s t rows (plain_of st) n at
  unfolding lossy_after
  node-act_here i e = updated-here st.node n (woken s t rows (plain_of st) n at) i e

  pub node-act_other : (i : ℕ) → i ≢ n → (lossy_after s t rows st (Plain (Act n at))).node i ≡ st.node i
  unfolding lossy_after
  node-act_other i ne = updated-other st.node n (woken s t rows (plain_of st) n at) i ne

-- sending changes the transit alone
pub with_message-newest : (b : Bool) (number at : ℕ) (link : LinkState) → (link_with_message b number at link).newest ≡ link.newest
with_message-newest true number at link = refl
with_message-newest false number at link = refl

pub with_message-losses : (b : Bool) (number at : ℕ) (link : LinkState) → (link_with_message b number at link).losses ≡ link.losses
with_message-losses true number at link = refl
with_message-losses false number at link = refl

module _ (s : Shape) (t : Timing) (rows : ℕ) (st : LossyState) (n at c : ℕ) where
  pub newest-act : ((lossy_after s t rows st (Plain (Act n at))).link c).newest ≡ (st.link c).newest
  newest-act = elim (same_or_not (from_of s c) n) [
    | inl e ↦ rw (link-act_from s t rows st n at c e) (with_message-newest _ _ at (st.link c))
    | inr ne ↦ rw (link-act_other s t rows st n at c ne) refl
  ]

  pub losses-act : ((lossy_after s t rows st (Plain (Act n at))).link c).losses ≡ (st.link c).losses
  losses-act = elim (same_or_not (from_of s c) n) [
    | inl e ↦ rw (link-act_from s t rows st n at c e) (with_message-losses _ _ at (st.link c))
    | inr ne ↦ rw (link-act_other s t rows st n at c ne) refl
  ]

-- A delivery and a loss.

module _ (s : Shape) (t : Timing) (rows : ℕ) (st : LossyState) (c at : ℕ) where
  pub link-del : (Q : LinkState → Type 0) (i : ℕ) → (i ≡ c → Q (link_delivered (st.link c) (st.link c).transit)) → (i ≢ c → Q (st.link i)) → Q ((lossy_after s t rows st (Plain (Del c at))).link i)
  unfolding lossy_after
  link-del Q i here there = at_place Q st.link c (link_delivered (st.link c) (st.link c).transit) i here there

  pub link-lose : (Q : LinkState → Type 0) (i : ℕ) → (i ≡ c → Q (link_lost (st.link c) (st.link c).transit)) → (i ≢ c → Q (st.link i)) → Q ((lossy_after s t rows st (Lose c at)).link i)
  unfolding lossy_after
  link-lose Q i here there = at_place Q st.link c (link_lost (st.link c) (st.link c).transit) i here there

  pub node-del : (i : ℕ) → (lossy_after s t rows st (Plain (Del c at))).node i ≡ st.node i
  unfolding lossy_after
  node-del i = refl

  pub node-lose : (i : ℕ) → (lossy_after s t rows st (Lose c at)).node i ≡ st.node i
  unfolding lossy_after
  node-lose i = refl

module _ (s : Shape) (t : Timing) (rows : ℕ) (st : LossyState) (at i : ℕ) where
  pub node-end : (lossy_after s t rows st (Plain (End at))).node i ≡ st.node i
  unfolding lossy_after
  node-end = refl

  pub link-end : (lossy_after s t rows st (Plain (End at))).link i ≡ st.link i
  unfolding lossy_after
  link-end = refl
