-- The least countdowns are accepted, and no accepted ones are smaller.
use Rattle.std.proofs.Common.{◌≡◌, ℕ, ◌+◌, ◌-◌, ◌*◌, ◌/◌, ◌<◌, ◌≤◌, inl, inr, arith, subst, lt-ltb, le-ltb}
use Rattle.std.proofs.lemmas.Bool.{cases_lt}
use Rattle.std.proofs.lemmas.Nat.{div_below}
use Rattle.std.proofs.Math.Nat.{mul-le-mul_right, lt-mul-div-succ}
use Rattle.lt_arch.specs.declared.timing.Timing.{Timing}
use Rattle.lt_arch.specs.Readers.{tmin_of, tmax_of, time_at}
use Rattle.lt_timing.specs.declared.fault.Which.TheVariants.{Execute, Send, First}
use Rattle.lt_timing.specs.Accepts.{count_of, answer_time, gather_time, dmin_to, least_cycle, least_first_send, InequalityHolds, Meets}
use Rattle.lt_timing.specs.Least.{least_above, execute_among, cycle_need, first_send_need, send_among, least_execute, least_send, AreSome, AreLeastCountdowns}
use Rattle.lt_timing.proofs.Folds.{greatest-above, greatest-some, least-below, least-some}

pub least_above-right : (a b : ℕ) → 1 ≤ b → a < least_above a b * b
least_above-right a b h = let k : a < b * (a / b + 1) = lt-mul-div-succ a (omega arith) in omega (arith, k)

pub least_above-least : (a b m : ℕ) → 1 ≤ b → a < m * b → least_above a b ≤ m
least_above-least a b m h k = let d : a / b < m = div_below a b m (omega arith) k in omega (arith, d)

pub tick : (t : Timing) (i : ℕ) → 1 ≤ tmin_of t i
unfolding tmin_of
tick t i = let x = time_at t i in x.period.0

-- a product of two that are at least 1
positive : (a b : ℕ) → 1 ≤ a → 1 ≤ b → 1 ≤ a * b
positive a b h k = let m : 1 * b ≤ a * b = mul-le-mul_right b h in omega (arith, m)

module _ (t : Timing) where
  pub several_execute : 2 ≤ count_of t → (j : ℕ) → least_execute t j ≡ execute_among t j
  several_execute two j = rw (le-ltb (count_of t) 2 two)

  pub several_send : 2 ≤ count_of t → (j : ℕ) → least_send t j ≡ send_among t j
  several_send two j = rw (le-ltb (count_of t) 2 two)

  pub single_execute : count_of t < 2 → (j : ℕ) → least_execute t j ≡ 1
  single_execute one j = rw (lt-ltb (count_of t) 2 one)

  pub single_send : count_of t < 2 → (j : ℕ) → least_send t j ≡ 1
  single_send one j = rw (lt-ltb (count_of t) 2 one)

  some_sends : AreSome (count_of t) (least_send t)
  some_sends i h = elim (cases_lt (count_of t) 2) [
    | inl one ↦ omega (arith, single_send one i)
    | inr two ↦ rw (several_send two i) (omega arith)
  ]

  some_executes : AreSome (count_of t) (least_execute t)
  some_executes i h = elim (cases_lt (count_of t) 2) [
    | inl one ↦ omega (arith, single_execute one i)
    | inr two ↦ rw (several_execute two i) (omega arith)
  ]

  accepted-send : 2 ≤ count_of t → (j : ℕ) → j < count_of t → InequalityHolds Send t (least_send t) (least_execute t) j
  accepted-send two j h =
      let m = least-some (λ i. (least_send t i + least_execute t i) * tmin_of t i) (count_of t) (omega arith) in
      let i = m.0 in
      let is : (least_send t i + least_execute t i) * tmin_of t i ≡ least_cycle t (least_send t) (least_execute t) = m.2 in
      let is' : (send_among t i + execute_among t i) * tmin_of t i ≡ least_cycle t (least_send t) (least_execute t) = rw (several_send two i, several_execute two i) at is in
      let need : answer_time t j + execute_among t j * tmax_of t j - dmin_to t j ≤ cycle_need t = greatest-above (λ k. answer_time t k + execute_among t k * tmax_of t k - dmin_to t k) (count_of t) j h in
      let over : cycle_need t < least_above (cycle_need t) (tmin_of t i) * tmin_of t i = least_above-right (cycle_need t) (tmin_of t i) (tick t i) in
      let up : least_above (cycle_need t) (tmin_of t i) * tmin_of t i ≤ (send_among t i + execute_among t i) * tmin_of t i = mul-le-mul_right (tmin_of t i) (omega arith) in
      rw (several_execute two j) (omega (arith, is', need, over, up))

  accepted-first : 2 ≤ count_of t → (j : ℕ) → j < count_of t → InequalityHolds First t (least_send t) (least_execute t) j
  accepted-first two j h =
      let m = least-some (λ i. least_send t i * tmin_of t i) (count_of t) (omega arith) in
      let i = m.0 in
      let is : least_send t i * tmin_of t i ≡ least_first_send t (least_send t) = m.2 in
      let is' : send_among t i * tmin_of t i ≡ least_first_send t (least_send t) = rw (several_send two i) at is in
      let need : tmax_of t j - dmin_to t j ≤ first_send_need t = greatest-above (λ k. tmax_of t k - dmin_to t k) (count_of t) j h in
      let over : first_send_need t < least_above (first_send_need t) (tmin_of t i) * tmin_of t i = least_above-right (first_send_need t) (tmin_of t i) (tick t i) in
      let up : least_above (first_send_need t) (tmin_of t i) * tmin_of t i ≤ send_among t i * tmin_of t i = mul-le-mul_right (tmin_of t i) (omega arith) in
      omega (arith, is', need, over, up)

  accepted : Meets t (least_send t) (least_execute t)
  accepted two Execute j h = rw (several_execute two j) (least_above-right (gather_time t j) (tmin_of t j) (tick t j))
  accepted two Send j h = accepted-send two j h
  accepted two First j h = accepted-first two j h

  least-executes : (p q : ℕ → ℕ) → AreSome (count_of t) q → Meets t p q → (j : ℕ) → j < count_of t → least_execute t j ≤ q j
  least-executes p q some meets j h = elim (cases_lt (count_of t) 2) [
    | inl one ↦ let s = some j h in omega (arith, single_execute one j, s)
    | inr two ↦ rw (several_execute two j) (least_above-least (gather_time t j) (tmin_of t j) (q j) (tick t j) (meets two Execute j h))
  ]

  module _ (p : ℕ → ℕ) (some : AreSome (count_of t) p) (meets : Meets t p (least_execute t)) (two : 2 ≤ count_of t) (i : ℕ) (h : i < count_of t) where
    least-opening : least_above (first_send_need t) (tmin_of t i) ≤ p i
    least-opening =
        let m = greatest-some (λ k. tmax_of t k - dmin_to t k) (count_of t) (omega arith) in
        let j = m.0 in
        let is : tmax_of t j - dmin_to t j ≡ first_send_need t = m.2 in
        let held : tmax_of t j < least_first_send t p + dmin_to t j = meets two First j m.1 in
        let low : least_first_send t p ≤ p i * tmin_of t i = least-below (λ k. p k * tmin_of t k) (count_of t) i h in
        let pos : 1 ≤ p i * tmin_of t i = positive (p i) (tmin_of t i) (some i h) (tick t i) in
        least_above-least (first_send_need t) (tmin_of t i) (p i) (tick t i) (omega (arith, is, held, low, pos))

    least-round : least_above (cycle_need t) (tmin_of t i) ≤ p i + execute_among t i
    least-round =
        let m = greatest-some (λ k. answer_time t k + execute_among t k * tmax_of t k - dmin_to t k) (count_of t) (omega arith) in
        let j = m.0 in
        let is : answer_time t j + execute_among t j * tmax_of t j - dmin_to t j ≡ cycle_need t = m.2 in
        let held : answer_time t j + least_execute t j * tmax_of t j < least_cycle t p (least_execute t) + dmin_to t j = meets two Send j m.1 in
        let held' : answer_time t j + execute_among t j * tmax_of t j < least_cycle t p (least_execute t) + dmin_to t j = subst (λ x. answer_time t j + x * tmax_of t j < least_cycle t p (least_execute t) + dmin_to t j) (several_execute two j) held in
        let low : least_cycle t p (least_execute t) ≤ (p i + least_execute t i) * tmin_of t i = least-below (λ k. (p k + least_execute t k) * tmin_of t k) (count_of t) i h in
        let low' : least_cycle t p (least_execute t) ≤ (p i + execute_among t i) * tmin_of t i = subst (λ x. least_cycle t p (least_execute t) ≤ (p i + x) * tmin_of t i) (several_execute two i) low in
        let pos : 1 ≤ (p i + execute_among t i) * tmin_of t i = positive (p i + execute_among t i) (tmin_of t i) (omega arith) (tick t i) in
        least_above-least (cycle_need t) (tmin_of t i) (p i + execute_among t i) (tick t i) (omega (arith, is, held', low', pos))

    least-send : send_among t i ≤ p i
    least-send = let a = least-opening in let b = least-round in omega (arith, a, b)

  least-sends : (p : ℕ → ℕ) → AreSome (count_of t) p → Meets t p (least_execute t) → (i : ℕ) → i < count_of t → least_send t i ≤ p i
  least-sends p some meets i h = elim (cases_lt (count_of t) 2) [
    | inl one ↦ let s = some i h in omega (arith, single_send one i, s)
    | inr two ↦ rw (several_send two i) (least-send p some meets two i h)
  ]

pub law : AreLeastCountdowns
law t = record {
  some_sends = some_sends t;
  some_executes = some_executes t;
  accepted = accepted t;
  execute = λ p q some_p some_q meets j h. least-executes t p q some_q meets j h;
  send = λ p some meets i h. least-sends t p some meets i h;
}
