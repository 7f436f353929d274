-- The least countdowns.
use Rattle.std.specs.Prelude.{◌≡◌, ◌≢◌, ℕ, ◌+◌, ◌-◌, ◌*◌, ◌/◌, ◌<◌, ◌≤◌, max, nat_lt, if◌then◌else◌}
use Rattle.lt_arch.specs.declared.timing.Timing.{Timing}
use Rattle.lt_arch.specs.declared.timing.Protocol.TheVariants.{TimeBased}
use Rattle.lt_arch.specs.Greatest.{greatest}
use Rattle.lt_arch.specs.Readers.{tmin_of, tmax_of, send_of, execute_of, dmin_of, dmax_of}
use Rattle.lt_timing.specs.Accepts.{count_of, answer_time, gather_time, dmin_to, Meets, Accepts}

-- the least number whose product with b is above a
abbrev pub least_above : (a b : ℕ) → ℕ
least_above a b = a / b + 1

-- the least execute of node j among several
abbrev pub execute_among : Timing → (j : ℕ) → ℕ
execute_among t j = least_above (gather_time t j) (tmin_of t j)

-- what each node's least cycle, with the least executes, and each node's least time to its first send have to be above
abbrev pub cycle_need : Timing → ℕ
cycle_need t = greatest (λ j. answer_time t j + execute_among t j * tmax_of t j - dmin_to t j) (count_of t)

abbrev pub first_send_need : Timing → ℕ
first_send_need t = greatest (λ j. tmax_of t j - dmin_to t j) (count_of t)

-- the least send of node i among several
abbrev pub send_among : Timing → (i : ℕ) → ℕ
send_among t i = max (least_above (first_send_need t) (tmin_of t i)) (least_above (cycle_need t) (tmin_of t i) - execute_among t i)

-- 1 and 1 for one node
abbrev pub least_execute : Timing → (j : ℕ) → ℕ
least_execute t j = if nat_lt (count_of t) 2 then 1 else execute_among t j

abbrev pub least_send : Timing → (i : ℕ) → ℕ
least_send t i = if nat_lt (count_of t) 2 then 1 else send_among t i

-- What the words mean.

-- countdowns are at least 1
abbrev pub AreSome : (n : ℕ) (p : ℕ → ℕ) → Type 0
AreSome n p = (i : ℕ) → i < n → 1 ≤ p i

-- together they are accepted, no accepted countdowns have a smaller execute, and none with these executes a smaller send
pub record AreLeast (t : Timing) (p q : ℕ → ℕ) : Type 0 where
  pub some_sends : AreSome (count_of t) p
  pub some_executes : AreSome (count_of t) q
  pub accepted : Meets t p q
  pub execute : (p' q' : ℕ → ℕ) → AreSome (count_of t) p' → AreSome (count_of t) q' → Meets t p' q' → (j : ℕ) → j < count_of t → q j ≤ q' j
  pub send : (p' : ℕ → ℕ) → AreSome (count_of t) p' → Meets t p' q → (i : ℕ) → i < count_of t → p i ≤ p' i

abbrev pub AreLeastCountdowns : Type 0
AreLeastCountdowns = (t : Timing) → AreLeast t (least_send t) (least_execute t)

-- the same bounds, with any countdowns
pub record HasBoundsOf (t u : Timing) : Type 0 where
  pub count : count_of u ≡ count_of t
  pub tmin : (i : ℕ) → i < count_of t → tmin_of u i ≡ tmin_of t i
  pub tmax : (i : ℕ) → i < count_of t → tmax_of u i ≡ tmax_of t i
  pub dmin : (i j : ℕ) → i < count_of t → j < count_of t → i ≢ j → dmin_of u i j ≡ dmin_of t i j
  pub dmax : (i j : ℕ) → i < count_of t → j < count_of t → i ≢ j → dmax_of u i j ≡ dmax_of t i j

-- a setup with these bounds and the least countdowns is accepted; no accepted setup with these bounds has a smaller
-- execute at any node, and none with the least executes has a smaller send
pub record AreLeastOfSetups (t : Timing) : Type 0 where
  pub accepted : (u : Timing) → HasBoundsOf t u → u.protocol ≡ TimeBased → ((i : ℕ) → i < count_of t → (send_of u i ≡ least_send t i) × (execute_of u i ≡ least_execute t i)) → Accepts u
  pub execute : (u : Timing) → HasBoundsOf t u → u.protocol ≡ TimeBased → Accepts u → (j : ℕ) → j < count_of t → least_execute t j ≤ execute_of u j
  pub send : (u : Timing) → HasBoundsOf t u → u.protocol ≡ TimeBased → Accepts u → ((i : ℕ) → i < count_of t → execute_of u i ≡ least_execute t i) → (i : ℕ) → i < count_of t → least_send t i ≤ send_of u i

-- and there is such a setup
pub record HasLeastSetup (t : Timing) : Type 0 where
  pub setup : Timing
  pub bounds : HasBoundsOf t setup
  pub time_based : setup.protocol ≡ TimeBased
  pub sends : (i : ℕ) → i < count_of t → send_of setup i ≡ least_send t i
  pub executes : (i : ℕ) → i < count_of t → execute_of setup i ≡ least_execute t i
  pub accepted : Accepts setup
