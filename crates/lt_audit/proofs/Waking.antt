-- A node that is activated: what it executes and sends, and its next phase.
use Rattle.std.proofs.Common.{◌≡◌, ◌⊎◌, ℕ, ◌+◌, ◌-◌, ◌≤◌, ◌==◌, ◌&&◌, ◌||◌, Bool, true, false, if◌then◌else◌, refl, sym, ◌∙◌, subst, arith, inl, inr}
use Rattle.lt_arch.specs.declared.event.Deed.{Deed}
use Rattle.lt_arch.specs.declared.event.Deed.TheVariants.{Nothing, Execute, Send}
use Rattle.lt_arch.specs.declared.timing.Timing.{Timing}
use Rattle.lt_arch.specs.declared.timing.Protocol.{Protocol}
use Rattle.lt_arch.specs.declared.timing.Protocol.TheVariants.{BackPressure, TimeBased}
use Rattle.lt_arch.specs.Readers.{send_of, execute_of}
use Rattle.lt_arch.specs.State.{Phase, Wait, Ready, First, Sending, Executing, unsent}
use Rattle.lt_arch.specs.Deeds.{deed_of, phase_after}
use Rattle.lt_arch.specs.Step.{is_execute, is_send}
use Rattle.lt_audit.specs.declared.hearing.Heard.{Heard}
use Rattle.lt_audit.specs.Audit.{MemberState}
use Rattle.lt_audit.specs.Acts.{MemberWakes}
use Rattle.lt_audit.specs.Standing.{IsConfigured}

either_way : (test more : Bool) → (if test && more then Execute else Nothing) ≡ Execute → more ≡ true
either_way true true is = refl
either_way true false is = cc
either_way false true is = refl
either_way false false is = cc

sends_or_not : (test : Bool) → (if test then Send else Nothing) ≡ Execute → ⊥
sends_or_not true is = cc
sends_or_not false is = cc

-- only with more rows of inputs an instant is executed
pub executes_with_more : (p : Phase) (all_in any_in all_ack more : Bool) → deed_of p all_in any_in all_ack more ≡ Execute → more ≡ true
executes_with_more Wait all_in any_in all_ack more is = either_way all_in more is
executes_with_more Ready all_in any_in all_ack more is = absurd (sends_or_not all_ack is)
executes_with_more First all_in any_in all_ack more is = either_way true more is
executes_with_more (Sending left) all_in any_in all_ack more is = absurd (sends_or_not ((left == 1) || any_in) is)
executes_with_more (Executing left) all_in any_in all_ack more is = either_way (left == 1) more is

-- which deeds a phase has
abbrev Has : Phase → Deed → Type 0
Has Wait Send = ⊥
Has Wait _ = Unit {0}
Has Ready Execute = ⊥
Has Ready _ = Unit {0}
Has First Send = ⊥
Has First _ = Unit {0}
Has (Sending left) Execute = ⊥
Has (Sending left) _ = Unit {0}
Has (Executing left) Send = ⊥
Has (Executing left) _ = Unit {0}

deed_had : (p : Phase) (all_in any_in all_ack more : Bool) → Has p (deed_of p all_in any_in all_ack more)
deed_had Wait all_in any_in all_ack more = by (all_in && more)
  where
    by : (test : Bool) → Has Wait (if test then Execute else Nothing)
    by true = tt
    by false = tt
deed_had Ready all_in any_in all_ack more = by all_ack
  where
    by : (test : Bool) → Has Ready (if test then Send else Nothing)
    by true = tt
    by false = tt
deed_had First all_in any_in all_ack more = by more
  where
    by : (test : Bool) → Has First (if test then Execute else Nothing)
    by true = tt
    by false = tt
deed_had (Sending left) all_in any_in all_ack more = by ((left == 1) || any_in)
  where
    by : (test : Bool) → Has (Sending left) (if test then Send else Nothing)
    by true = tt
    by false = tt
deed_had (Executing left) all_in any_in all_ack more = by ((left == 1) && more)
  where
    by : (test : Bool) → Has (Executing left) (if test then Execute else Nothing)
    by true = tt
    by false = tt

-- one, or none
abbrev pub one_if : Bool → ℕ
one_if true = 1
one_if false = 0

-- how often a node has sent, after a deed
pub record Counts (executed : ℕ) (p q : Phase) (deed : Deed) : Type 0 where
  pub unsent_after : unsent q ≤ (if is_execute deed then executed + 1 else executed)
  pub sent_after : (if is_execute deed then executed + 1 else executed) - unsent q ≡ (executed - unsent p) + one_if (is_send deed)

still_executing : (test : Bool) (left : ℕ) → unsent (if test then Executing 1 else Executing left) ≡ 0
still_executing true left = refl
still_executing false left = refl

counts_had : (executed send execute : ℕ) (p : Phase) (deed : Deed) → unsent p ≤ executed → Has p deed → Counts executed p (phase_after send execute p deed) deed
counts_had e a b Wait Nothing le had = record { unsent_after = omega arith; sent_after = omega arith }
counts_had e a b Wait Execute le had = record { unsent_after = omega arith; sent_after = omega arith }
counts_had e a b Wait Send le had = absurd had
counts_had e a b Ready Nothing le had = record { unsent_after = le; sent_after = omega arith }
counts_had e a b Ready Execute le had = absurd had
counts_had e a b Ready Send le had = record { unsent_after = omega arith; sent_after = omega (arith, le) }
counts_had e a b First Nothing le had = record { unsent_after = omega arith; sent_after = omega arith }
counts_had e a b First Execute le had = record { unsent_after = omega arith; sent_after = omega arith }
counts_had e a b First Send le had = absurd had
counts_had e a b (Sending left) Nothing le had = record { unsent_after = le; sent_after = omega arith }
counts_had e a b (Sending left) Execute le had = absurd had
counts_had e a b (Sending left) Send le had = record { unsent_after = omega arith; sent_after = omega (arith, le) }
counts_had e a b (Executing left) Nothing le had =
    let z = still_executing (left == 1) (left - 1) in record { unsent_after = omega (arith, z); sent_after = omega (arith, z) }
counts_had e a b (Executing left) Execute le had = record { unsent_after = omega arith; sent_after = omega arith }
counts_had e a b (Executing left) Send le had = absurd had

pub wake_counts : (old new : MemberState) (heard : Heard) (rows : ℕ) (deed : Deed) → MemberWakes old new heard rows deed → unsent old.phase ≤ old.executed →
    (unsent new.phase ≤ new.executed) × (new.executed - unsent new.phase ≡ (old.executed - unsent old.phase) + one_if (is_send deed))
wake_counts old new heard rows deed wakes le =
    let had : Has old.phase deed = subst (λ (d : Deed). Has old.phase d) (sym wakes.deed_is) (deed_had old.phase heard.all_in heard.any_in heard.all_ack _) in
    let counts = counts_had old.executed old.send old.execute old.phase deed le had in (
      subst (λ (q : Phase). unsent q ≤ new.executed) (sym wakes.phase) (subst (λ (e : ℕ). unsent (phase_after old.send old.execute old.phase deed) ≤ e) (sym wakes.executed) counts.unsent_after),
      (λ i. wakes.executed i - unsent (wakes.phase i)) ∙ counts.sent_after,
    )

-- The next phase, by the timing's countdowns.

pressed_next : (a b : ℕ) (p : Phase) (d : Deed) → (p ≡ Wait) ⊎ (p ≡ Ready) → (phase_after a b p d ≡ Wait) ⊎ (phase_after a b p d ≡ Ready)
pressed_next a b p d (inl is) = subst (λ (q : Phase). (phase_after a b q d ≡ Wait) ⊎ (phase_after a b q d ≡ Ready)) (sym is) (by d)
  where
    by : (d : Deed) → (phase_after a b Wait d ≡ Wait) ⊎ (phase_after a b Wait d ≡ Ready)
    by Nothing = inl refl
    by Execute = inr refl
    by Send = inl refl
pressed_next a b p d (inr is) = subst (λ (q : Phase). (phase_after a b q d ≡ Wait) ⊎ (phase_after a b q d ≡ Ready)) (sym is) (by d)
  where
    by : (d : Deed) → (phase_after a b Ready d ≡ Wait) ⊎ (phase_after a b Ready d ≡ Ready)
    by Nothing = inr refl
    by Execute = inr refl
    by Send = inl refl

pressed_same : (a b c e : ℕ) (p : Phase) (d : Deed) → (p ≡ Wait) ⊎ (p ≡ Ready) → phase_after a b p d ≡ phase_after c e p d
pressed_same a b c e p d (inl is) = subst (λ (q : Phase). phase_after a b q d ≡ phase_after c e q d) (sym is) (by d)
  where
    by : (d : Deed) → phase_after a b Wait d ≡ phase_after c e Wait d
    by Nothing = refl
    by Execute = refl
    by Send = refl
pressed_same a b c e p d (inr is) = subst (λ (q : Phase). phase_after a b q d ≡ phase_after c e q d) (sym is) (by d)
  where
    by : (d : Deed) → phase_after a b Ready d ≡ phase_after c e Ready d
    by Nothing = refl
    by Execute = refl
    by Send = refl

next_by : (p : Protocol) (t : Timing) (m : MemberState) (n : ℕ) (d : Deed) → p ≡ t.protocol → IsConfigured m t n → phase_after m.send m.execute m.phase d ≡ phase_after (send_of t n) (execute_of t n) m.phase d
next_by BackPressure t m n d is has = pressed_same m.send m.execute (send_of t n) (execute_of t n) m.phase d (has.pressure (sym is))
next_by TimeBased t m n d is has = λ i. phase_after (has.send (sym is) i) (has.execute (sym is) i) m.phase d

module _ (old new : MemberState) (heard : Heard) (rows : ℕ) (deed : Deed) (wakes : MemberWakes old new heard rows deed) (t : Timing) (n : ℕ) (has : IsConfigured old t n) where
  pub next_phase : new.phase ≡ phase_after (send_of t n) (execute_of t n) old.phase deed
  next_phase = wakes.phase ∙ next_by t.protocol t old n deed refl has

  pub configured_still : IsConfigured new t n
  configured_still = record {
    protocol = wakes.protocol ∙ has.protocol;
    send = λ by_time. wakes.send ∙ has.send by_time;
    execute = λ by_time. wakes.execute ∙ has.execute by_time;
    pressure = λ by_pressure. subst (λ (q : Phase). (q ≡ Wait) ⊎ (q ≡ Ready)) (sym wakes.phase) (pressed_next old.send old.execute old.phase deed (has.pressure by_pressure));
  }
