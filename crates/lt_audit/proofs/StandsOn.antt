-- After an event without an offence an auditor stands for the longer list.
use Rattle.std.proofs.Common.{◌≡◌, ◌⊎◌, ◌∙◌, ℕ, ◌+◌, ◌-◌, ◌^◌, ◌<◌, ◌≤◌, min, List, [], ◌∷◌, ◌++◌, length, length-append, Option, Some, None, sym, ap, subst, arith, inl, inr}
use Rattle.std.proofs.lemmas.Bool.{cases_lt}
use Rattle.std.proofs.Math.Nat.{min-eq_left, min-eq_right}
use Rattle.lt_arch.specs.declared.event.Event.{Event}
use Rattle.lt_arch.specs.declared.event.Event.TheVariants.{Act, Del, End}
use Rattle.lt_arch.specs.declared.timing.Timing.{Timing}
use Rattle.lt_arch.specs.declared.shape.Shape.{Shape}
use Rattle.lt_arch.specs.State.{State, start}
use Rattle.lt_arch.specs.Schedule.{IsPlacedIn, reached}
use Rattle.lt_arch.specs.Step.{after, offence_of}
use Rattle.lt_audit.specs.declared.miss.Miss.{Miss}
use Rattle.lt_audit.specs.Misses.{Misses, FirstMiss}
use Rattle.lt_audit.specs.Audit.{AuditState, IsKeptAudit}
use Rattle.lt_audit.specs.Acts.{AuditTakes, next_number}
use Rattle.lt_audit.specs.Standing.{HasState, AuditStands}
use Rattle.lt_audit.proofs.Longer.{after_push, free_push}
use Rattle.lt_audit.proofs.NextState.{after_act, after_delivery, after_end, deed_is}
use Rattle.lt_audit.proofs.FirstFound.{found_still, none_still, notes}

least_is : (x y : ℕ) → ((x ≤ y) × (min x y ≡ x)) ⊎ ((y < x) × (min x y ≡ y))
least_is x y = elim (cases_lt y x) [
  | inl lt ↦ inr (lt, min-eq_right (omega (arith, lt)))
  | inr le ↦ inl (le, min-eq_left le)
]

-- how many events were taken, with one more
next_taken : (k l taken : ℕ) → k ≡ l + 1 → taken ≡ min l (2 ^ 32 - 1) → next_number taken ≡ min k (2 ^ 32 - 1)
next_taken k l taken one is = elim (least_is l (2 ^ 32 - 1)) [
  | inl h ↦ let e : taken ≡ l = is ∙ h.1 in (λ i. min (e i + 1) (2 ^ 32 - 1)) ∙ ap (λ m. min m (2 ^ 32 - 1)) (sym one)
  | inr h ↦
      let e : taken ≡ 2 ^ 32 - 1 = is ∙ h.1 in
      let le : 2 ^ 32 - 1 ≤ k = omega (arith, h.0, one) in
      (λ i. min (e i + 1) (2 ^ 32 - 1)) ∙ sym (min-eq_right le)
]

-- a number that is within its range is that of the event
number_is : (l taken : ℕ) → taken ≡ min l (2 ^ 32 - 1) → next_number taken < 2 ^ 32 - 1 → (taken < 2 ^ 32 - 1) × (next_number taken ≡ l + 1)
number_is l taken is lt = elim (least_is (taken + 1) (2 ^ 32 - 1)) [
  | inl h ↦ elim (least_is l (2 ^ 32 - 1)) [
    | inl g ↦ let e : taken ≡ l = is ∙ g.1 in (omega (arith, h.0), h.1 ∙ ap (λ m. m + 1) e)
    | inr g ↦ let e : taken ≡ 2 ^ 32 - 1 = is ∙ g.1 in absurd (omega (arith, h.0, e))
  ]
  | inr h ↦ absurd (omega (arith, h.1, lt))
]

module _ (a b : AuditState) (t : Timing) (es : List Event) (kept : IsKeptAudit a) (stands : AuditStands a a.shape t a.rows es) where
  abbrev st : State
  st = reached a.shape t a.rows es

  state_on : (e : Event) → IsPlacedIn a.shape e → AuditTakes a b e → HasState b a.shape t (after a.shape t a.rows st e)
  state_on (Act n at) placed acts = after_act a b t st kept stands.state n at placed acts
  state_on (Del c at) placed delivers = after_delivery a b t st kept stands.state c at placed delivers
  state_on (End at) placed is = after_end a b t st kept stands.state at is

  rows_on : (e : Event) → AuditTakes a b e → b.rows ≡ a.rows
  rows_on (Act n at) acts = acts.rows
  rows_on (Del c at) delivers = delivers.rows
  rows_on (End at) is = ap (λ (k : AuditState). k.rows) is

  -- no node executes at another event
  other_still : (e : Event) → (Misses a.shape a.rows st e → ⊥) → (before now : Option Miss) → now ≡ before → FirstMiss a.shape t a.rows es before → FirstMiss a.shape t a.rows (es ++ e ∷ []) now
  other_still e none None now is first = subst (λ (o : Option Miss). FirstMiss a.shape t a.rows (es ++ e ∷ []) o) (sym is) (none_still a.shape t a.rows es e first none)
  other_still e none (Some m) now is first = subst (λ (o : Option Miss). FirstMiss a.shape t a.rows (es ++ e ∷ []) o) (sym is) (found_still a.shape t a.rows es e m first)

  first_on : (e : Event) → IsPlacedIn a.shape e → AuditTakes a b e → next_number a.taken ≡ length es + 1 → FirstMiss a.shape t a.rows es a.first → FirstMiss a.shape t a.rows (es ++ e ∷ []) b.first
  first_on (Act n at) placed acts numbered first =
      notes a t es stands.state n placed at (next_number a.taken) numbered a.first b.first acts.deed (deed_is a b t st kept stands.state n at placed acts) acts.first first
  first_on (Del c at) placed delivers numbered first = other_still (Del c at) (λ miss. miss.executes) a.first b.first delivers.first first
  first_on (End at) placed is numbered first = other_still (End at) (λ miss. miss.executes) a.first b.first (ap (λ (k : AuditState). k.first) is) first

  pub stands_here : (e : Event) → IsPlacedIn a.shape e → offence_of a.shape t st e ≡ None → AuditTakes a b e → b.taken ≡ next_number a.taken → AuditStands b a.shape t a.rows (es ++ e ∷ [])
  stands_here e placed none takes counts = record {
    rows_are = rows_on e takes;
    free = free_push a.shape t a.rows (start t.protocol) es e stands.free none;
    state = subst (λ (k : State). HasState b a.shape t k) (sym (after_push a.shape t a.rows (start t.protocol) es e)) (state_on e placed takes);
    taken_is = counts ∙ next_taken (length (es ++ e ∷ [])) (length es) a.taken (length-append es (e ∷ [])) stands.taken_is;
    first_is = λ lt.
        let number = number_is (length es) a.taken stands.taken_is (subst (λ (k : ℕ). k < 2 ^ 32 - 1) counts lt) in
        first_on e placed takes number.1 (stands.first_is number.0);
  }

-- what was taken, whatever count of events is kept
pub retaken : (a b : AuditState) (k : ℕ) (e : Event) → AuditTakes a b e → AuditTakes a (record b { taken = k }) e
retaken a b k (Act n at) acts = record {
  shape = acts.shape;
  protocol = acts.protocol;
  rows = acts.rows;
  deed = acts.deed;
  woken = acts.woken;
  wakes = acts.wakes;
  members = acts.members;
  chan_length = acts.chan_length;
  chan = acts.chan;
  sends = acts.sends;
  watch = acts.watch;
  send_length = acts.send_length;
  oldest_are = acts.oldest_are;
  first = acts.first;
}
retaken a b k (Del c at) d = record { shape = d.shape; protocol = d.protocol; rows = d.rows; members = d.members; chans = d.chans; watch = d.watch; first = d.first }
retaken a b k (End at) is = ap (λ (x : AuditState). record x { taken = k }) is

pub stands_on : (a b : AuditState) (s : Shape) (t : Timing) (rows : ℕ) (es : List Event) (e : Event) → IsKeptAudit a → AuditStands a s t rows es → IsPlacedIn a.shape e → offence_of s t (reached s t rows es) e ≡ None → AuditTakes a b e → b.taken ≡ next_number a.taken →
    AuditStands b s t rows (es ++ e ∷ [])
stands_on a b s t rows es e kept stands placed none takes counts =
    let here : AuditStands a a.shape t a.rows es = subst (λ (k : ℕ). AuditStands a a.shape t k es) (sym stands.rows_are) (subst (λ (q : Shape). AuditStands a q t rows es) (sym stands.state.shape) stands) in
    let none_here : offence_of a.shape t (reached a.shape t a.rows es) e ≡ None =
    subst (λ (k : ℕ). offence_of a.shape t (reached a.shape t k es) e ≡ None) (sym stands.rows_are) (subst (λ (q : Shape). offence_of q t (reached q t rows es) e ≡ None) (sym stands.state.shape) none) in
    subst (λ (k : ℕ). AuditStands b s t k (es ++ e ∷ [])) stands.rows_are
    (subst (λ (q : Shape). AuditStands b q t a.rows (es ++ e ∷ [])) stands.state.shape (stands_here a b t es kept here e placed none_here takes counts))
