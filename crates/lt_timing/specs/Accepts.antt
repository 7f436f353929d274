-- When a timing is accepted, and the first inequality that fails. Here p and q are countdowns of the nodes: how many
-- activations node i waits at most before it sends is p i, and before it executes q i.
use Rattle.std.specs.Prelude.{◌≡◌, ◌≢◌, ℕ, ◌+◌, ◌*◌, ◌<◌, ◌≤◌, length}
use Rattle.lt_arch.specs.declared.timing.Timing.{Timing}
use Rattle.lt_arch.specs.declared.timing.Protocol.TheVariants.{TimeBased}
use Rattle.lt_arch.specs.Readers.{tmin_of, tmax_of, send_of, execute_of, dmin_of, dmax_of}
use Rattle.lt_timing.specs.declared.fault.Which.{Which}
use Rattle.lt_timing.specs.declared.fault.Which.TheVariants.{Execute, Send, First}
use Rattle.lt_timing.specs.declared.fault.TimingFault.{TimingFault}
use Rattle.lt_timing.specs.Greatest.{greatest_but, least_but, least}

abbrev pub count_of : Timing → ℕ
count_of t = length t.nodes

-- the greatest upper delay, and the least lower delay, to node j from another
abbrev pub dmax_to : Timing → (j : ℕ) → ℕ
dmax_to t j = greatest_but (λ i. dmax_of t i j) j (count_of t)

abbrev pub dmin_to : Timing → (j : ℕ) → ℕ
dmin_to t j = least_but (λ i. dmin_of t i j) j (count_of t)

-- within so long after the first send of a round node i has its message, is activated and sends
abbrev pub answer_time : Timing → (i : ℕ) → ℕ
answer_time t i = tmax_of t i + dmax_to t i

-- and within so long every message of the round has reached node j
abbrev pub gather_time : Timing → (j : ℕ) → ℕ
gather_time t j = greatest_but (λ i. answer_time t i + dmax_of t i j) j (count_of t)

-- the first send of the next round comes no earlier than this after that of a round
abbrev pub least_cycle : Timing → (p q : ℕ → ℕ) → ℕ
least_cycle t p q = least (λ i. (p i + q i) * tmin_of t i) (count_of t)

-- the first send of all comes no earlier than this
abbrev pub least_first_send : Timing → (p : ℕ → ℕ) → ℕ
least_first_send t p = least (λ i. p i * tmin_of t i) (count_of t)

-- The two sides of each inequality at node j:
-- Execute: it executes the next instant no earlier than this, and every message of the round is there by then;
-- Send: no message of the next round is there earlier than this, and it has executed its next instant by then;
-- First: no message is there earlier than this, and it has executed its first instant by then.
abbrev pub left_side : Which → Timing → (p q : ℕ → ℕ) → (j : ℕ) → ℕ
left_side Execute t p q j = q j * tmin_of t j
left_side Send t p q j = least_cycle t p q + dmin_to t j
left_side First t p q j = least_first_send t p + dmin_to t j

abbrev pub right_side : Which → Timing → (q : ℕ → ℕ) → (j : ℕ) → ℕ
right_side Execute t q j = gather_time t j
right_side Send t q j = answer_time t j + q j * tmax_of t j
right_side First t q j = tmax_of t j

-- strictly, since events of one tick may stand in either order
abbrev pub InequalityHolds : Which → Timing → (p q : ℕ → ℕ) → (j : ℕ) → Type 0
InequalityHolds w t p q j = right_side w t q j < left_side w t p q j

-- with these countdowns the bounds are accepted as a time-based setup; one node alone always is
abbrev pub Meets : Timing → (p q : ℕ → ℕ) → Type 0
Meets t p q = 2 ≤ count_of t → (w : Which) (j : ℕ) → j < count_of t → InequalityHolds w t p q j

-- back-pressure always is
abbrev pub Accepts : Timing → Type 0
Accepts t = t.protocol ≡ TimeBased → Meets t (send_of t) (execute_of t)

-- the inequalities in their order
abbrev pub inequality_rank : Which → ℕ
inequality_rank Execute = 0
inequality_rank Send = 1
inequality_rank First = 2

-- this inequality fails at the fault's node and at none before it, with these two sides
pub record IsFaultOf (w : Which) (t : Timing) (f : TimingFault) : Type 0 where
  pub which : f.which ≡ w
  pub node_in : f.node < count_of t
  pub left : f.left ≡ left_side w t (send_of t) (execute_of t) f.node
  pub right : f.right ≡ right_side w t (execute_of t) f.node
  pub fails : f.left ≤ f.right
  pub lower : (j : ℕ) → j < f.node → InequalityHolds w t (send_of t) (execute_of t) j

-- and each inequality before it holds of every node
pub record IsFirstTimingFault (t : Timing) (f : TimingFault) : Type 0 where
  pub time_based : t.protocol ≡ TimeBased
  pub several : 2 ≤ count_of t
  pub fault : IsFaultOf f.which t f
  pub before : (w : Which) (j : ℕ) → inequality_rank w < inequality_rank f.which → j < count_of t → InequalityHolds w t (send_of t) (execute_of t) j

-- a timing with a first fault is not accepted, and there is at most one
pub record AreFaults (t : Timing) : Type 0 where
  pub refuses : (f : TimingFault) → IsFirstTimingFault t f → Accepts t → ⊥
  pub one : (f g : TimingFault) → IsFirstTimingFault t f → IsFirstTimingFault t g → (f.which ≡ g.which) × (f.node ≡ g.node) × (f.left ≡ g.left) × (f.right ≡ g.right)

-- the inequalities for each node and each pair
pub record MeetsEach (t : Timing) (p q : ℕ → ℕ) : Type 0 where
  pub execute : (i j : ℕ) → i < count_of t → j < count_of t → i ≢ j → answer_time t i + dmax_of t i j < q j * tmin_of t j
  pub send : (k i j : ℕ) → k < count_of t → i < count_of t → j < count_of t → i ≢ j → answer_time t j + q j * tmax_of t j < (p k + q k) * tmin_of t k + dmin_of t i j
  pub first : (k i j : ℕ) → k < count_of t → i < count_of t → j < count_of t → i ≢ j → tmax_of t j < p k * tmin_of t k + dmin_of t i j

-- by greatest and least, or for each: the same
abbrev pub AreSidesOfEach : Type 0
AreSidesOfEach = (t : Timing) (p q : ℕ → ℕ) → (Meets t p q → MeetsEach t p q) × (MeetsEach t p q → Meets t p q)
