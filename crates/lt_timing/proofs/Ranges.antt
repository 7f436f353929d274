-- The least countdowns are in the range of a countdown.
use Rattle.std.proofs.Common.{ℕ, zero, suc, ◌+◌, ◌-◌, ◌*◌, ◌/◌, ◌≤◌, inl, inr, arith}
use Rattle.std.proofs.lemmas.Bool.{cases_lt}
use Rattle.std.proofs.lemmas.Nat.{mul-le}
use Rattle.std.proofs.Math.Nat.{div-le_self}
use Rattle.lt_arch.specs.declared.timing.Timing.{Timing}
use Rattle.lt_arch.specs.Readers.{tmin_of, tmax_of, dmax_of, time_at, pair_at}
use Rattle.lt_arch.specs.Greatest.{greatest}
use Rattle.lt_timing.specs.Greatest.{greatest_but}
use Rattle.lt_timing.specs.Accepts.{count_of, answer_time, gather_time, dmin_to}
use Rattle.lt_timing.specs.Least.{execute_among, cycle_need, first_send_need, send_among, least_execute, least_send}
use Rattle.lt_timing.proofs.Folds.{same_or_not, greatest_but-same, greatest_but-next}
use Rattle.lt_timing.proofs.LeastRight.{several_execute, several_send, single_execute, single_send}

greatest_but-within : (f : ℕ → ℕ) (m : ℕ) → ((i : ℕ) → f i ≤ m) → (j n : ℕ) → greatest_but f j n ≤ m
greatest_but-within f m h j zero = omega arith
greatest_but-within f m h j (suc n) = let k : greatest_but f j n ≤ m = greatest_but-within f m h j n in elim (same_or_not n j) [
  | inl e ↦ rw (greatest_but-same f j n e) k
  | inr ne ↦ rw (greatest_but-next f j n ne) (let w = h n in omega (arith, k, w))
]

greatest-within : (f : ℕ → ℕ) (m : ℕ) → ((i : ℕ) → f i ≤ m) → (n : ℕ) → greatest f n ≤ m
greatest-within f m h zero = omega arith
greatest-within f m h (suc n) = let k : greatest f n ≤ m = greatest-within f m h n in let w = h n in omega (arith, k, w)

module _ (t : Timing) where
  tmax-range : (i : ℕ) → tmax_of t i ≤ 1000000000
  unfolding tmax_of
  tmax-range i = (time_at t i).period.2

  dmax-range : (i j : ℕ) → dmax_of t i j ≤ 1000000000
  unfolding dmax_of
  dmax-range i j = (pair_at t i j).delay.1

  reach-range : (i : ℕ) → answer_time t i ≤ 2000000000
  reach-range i = let a = tmax-range i in let b = greatest_but-within (λ j. dmax_of t j i) 1000000000 (λ j. dmax-range j i) i (count_of t) in omega (arith, a, b)

  arrival-range : (j : ℕ) → gather_time t j ≤ 3000000000
  arrival-range j = greatest_but-within (λ i. answer_time t i + dmax_of t i j) 3000000000 (λ i. let a = reach-range i in let b = dmax-range i j in omega (arith, a, b)) j (count_of t)

  execute-range : (j : ℕ) → execute_among t j ≤ 3000000001
  execute-range j = let a = arrival-range j in let b : gather_time t j / tmin_of t j ≤ gather_time t j = div-le_self (gather_time t j) (tmin_of t j) in omega (arith, a, b)

  round-range : cycle_need t ≤ 3000000003000000000
  round-range = greatest-within (λ j. answer_time t j + execute_among t j * tmax_of t j - dmin_to t j) 3000000003000000000
      (λ j. let a = reach-range j in let p : execute_among t j * tmax_of t j ≤ 3000000001 * 1000000000 = mul-le (execute_among t j) (tmax_of t j) 3000000001 1000000000 (execute-range j) (tmax-range j) in omega (arith, a, p)) (count_of t)

  opening-range : first_send_need t ≤ 1000000000
  opening-range = greatest-within (λ j. tmax_of t j - dmin_to t j) 1000000000 (λ j. let a = tmax-range j in omega (arith, a)) (count_of t)

  pub least_execute-range : (j : ℕ) → least_execute t j ≤ 4000000000000000000
  least_execute-range j = elim (cases_lt (count_of t) 2) [
    | inl one ↦ omega (arith, single_execute t one j)
    | inr two ↦ rw (several_execute t two j) (let a = execute-range j in omega (arith, a))
  ]

  send_at-range : (j : ℕ) → send_among t j ≤ 4000000000000000000
  send_at-range j =
      let a = round-range in let b = opening-range in
      let c : cycle_need t / tmin_of t j ≤ cycle_need t = div-le_self (cycle_need t) (tmin_of t j) in
      let d : first_send_need t / tmin_of t j ≤ first_send_need t = div-le_self (first_send_need t) (tmin_of t j) in
      omega (arith, a, b, c, d)

  pub least_send-range : (j : ℕ) → least_send t j ≤ 4000000000000000000
  least_send-range j = elim (cases_lt (count_of t) 2) [
    | inl one ↦ omega (arith, single_send t one j)
    | inr two ↦ rw (several_send t two j) (send_at-range j)
  ]
