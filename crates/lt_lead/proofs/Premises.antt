-- The premises of rounds, where a node leads.
use Rattle.std.proofs.Common.{◌≡◌, ◌≢◌, ℕ, suc, zero, ◌+◌, ◌*◌, ◌<◌, ◌≤◌, inl, inr, ◌==◌, if◌then◌else◌, length, sym, ap, ◌∙◌, subst, arith, eq-eqb, ne_eqb, mul-suc}
use Rattle.lt_arch.specs.declared.limits.TheConstants.{GREATEST_TIME, GREATEST_COUNTDOWN}
use Rattle.lt_arch.specs.declared.timing.Timing.{Timing}
use Rattle.lt_arch.specs.declared.shape.Shape.{Shape}
use Rattle.lt_arch.specs.Readers.{node_count, tmin_of, tmax_of, send_of, execute_of, dmin_of, dmax_of}
use Rattle.lt_arch.specs.Shapes.{IsLinked, HaveSameNodes}
use Rattle.lt_arch.proofs.Changes.{same_or_not}
use Rattle.lt_arch.proofs.Ranges.{tmin-some}
use Rattle.lt_timing.specs.Accepts.{count_of, answer_time, Accepts, MeetsEach}
use Rattle.lt_tb.specs.Rounds.{MayPace, IsRoundShape, IsPaced}
use Rattle.lt_tb.proofs.Accepted.{answers, rounds_apart, each}
use Rattle.lt_arch.specs.Paced.{IsLed}
use Rattle.lt_lead.specs.Shapes.{IsLeaderShape}

long : (limit send tmin : ℕ) → limit < send → 1 ≤ tmin → limit < send * tmin
long limit send zero h one = absurd (omega arith)
long limit send (suc k) h one = rw mul-suc (omega arith)

module _ (s : Shape) (t : Timing) (leader : ℕ) (same_nodes : HaveSameNodes s t) (led : IsLed t leader) where
  within_time : (i : ℕ) → i < node_count s → i < count_of t
  within_time i within = subst (λ n. i < n) (sym same_nodes) within

  -- no countdown of another node ends in the range of times
  pub late : (i : ℕ) → i < node_count s → i ≢ leader → GREATEST_TIME < send_of t i * tmin_of t i
  late i within other =
      let send : send_of t i ≡ GREATEST_COUNTDOWN = led.follows i (within_time i within) other in
      long GREATEST_TIME (send_of t i) (tmin_of t i) (omega (arith, send)) (tmin-some t i)

  pub only_leader : (i : ℕ) → i < node_count s → MayPace t GREATEST_TIME i → i ≡ leader
  only_leader i within may = elim (same_or_not i leader) [
    | inl e ↦ e
    | inr ne ↦ let far : GREATEST_TIME < send_of t i * tmin_of t i = late i within ne in absurd (omega arith)
  ]

  pub leader_shape : IsLeaderShape s leader → IsRoundShape s t GREATEST_TIME
  leader_shape f = record {
    only_data = f.only_data;
    linked = λ i j iw jw other. elim (same_or_not i leader) [
      | inl e ↦ inl (subst (λ k. IsLinked s k j) (sym e) (f.linked j jw (λ h. other (e ∙ h))))
      | inr ne ↦ inr (late i iw ne)
    ];
  }

-- what a leader asks of each node: to answer its message within one period
abbrev pub lead_reach : Timing → (leader j : ℕ) → ℕ
lead_reach t leader j = if j == leader then tmax_of t j else tmax_of t j + dmax_of t leader j

less_than : (a b d x : ℕ) → a ≤ b → b + d < x → a + d < x
less_than a b d x h k = omega arith

pub reach_other : (t : Timing) (leader j : ℕ) → leader ≢ j → lead_reach t leader j ≡ tmax_of t j + dmax_of t leader j
reach_other t leader j other = rw (ne_eqb j leader (λ e. other (sym e)))

module _ (s : Shape) (t : Timing) (leader : ℕ) (same_nodes : HaveSameNodes s t) (led : IsLed t leader) (m : MeetsEach t (send_of t) (execute_of t)) where
  reach_by : (j : ℕ) → lead_reach t leader j ≤ answer_time t j
  reach_by j = elim (same_or_not j leader) [
    | inl e ↦ rw (eq-eqb j leader e) (omega arith)
    | inr ne ↦ rw (ne_eqb j leader ne) (answers t m leader j led.leader_in (λ h. ne (sym h)))
  ]

  pub reaches : (i j : ℕ) → i < node_count s → j < node_count s → i ≢ j → MayPace t GREATEST_TIME i → tmax_of t j + dmax_of t i j ≤ lead_reach t leader j
  reaches i j iw jw other may =
      let same : i ≡ leader = only_leader s t leader same_nodes led i iw may in
      let is : lead_reach t leader j ≡ tmax_of t j + dmax_of t leader j = reach_other t leader j (λ h. other (same ∙ h)) in
      let d : dmax_of t i j ≡ dmax_of t leader j = ap (λ k. dmax_of t k j) same in
      omega arith

  pub executes : (i j : ℕ) → i < node_count s → j < node_count s → i ≢ j → lead_reach t leader i + dmax_of t i j < execute_of t j * tmin_of t j
  executes i j iw jw other =
      less_than (lead_reach t leader i) (answer_time t i) (dmax_of t i j) (execute_of t j * tmin_of t j) (reach_by i)
      (m.execute i j (within_time s t leader same_nodes led i iw) (within_time s t leader same_nodes led j jw) other)

  pub sends : (k i j : ℕ) → k < node_count s → i < node_count s → j < node_count s → i ≢ j → lead_reach t leader j + execute_of t j * tmax_of t j < (send_of t k + execute_of t k) * tmin_of t k + dmin_of t i j
  sends k i j kw iw jw other =
      less_than (lead_reach t leader j) (answer_time t j) _ _ (reach_by j)
      (m.send k i j (within_time s t leader same_nodes led k kw) (within_time s t leader same_nodes led i iw) (within_time s t leader same_nodes led j jw) other)

  pub apart : (k i j : ℕ) → k < node_count s → i < node_count s → j < node_count s → i ≢ j → lead_reach t leader i + dmax_of t i j < (send_of t k + execute_of t k) * tmin_of t k
  apart k i j kw iw jw other =
      less_than (lead_reach t leader i) (answer_time t i) _ _ (reach_by i)
      (rounds_apart t m k i j (within_time s t leader same_nodes led k kw) (within_time s t leader same_nodes led i iw) (within_time s t leader same_nodes led j jw) other)

  pub first : (k i j : ℕ) → k < node_count s → i < node_count s → j < node_count s → i ≢ j → tmax_of t j < send_of t k * tmin_of t k + dmin_of t i j
  first k i j kw iw jw other = m.first k i j (within_time s t leader same_nodes led k kw) (within_time s t leader same_nodes led i iw) (within_time s t leader same_nodes led j jw) other

  -- an accepted timing keeps rounds
  abbrev pub lead_paced : IsPaced s t GREATEST_TIME
  lead_paced = record { reach = lead_reach t leader; reaches = reaches; execute = executes; send = sends; apart = apart; first = first }
