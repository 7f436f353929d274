-- The setup with the least countdowns.
use Rattle.std.proofs.Common.{◌≡◌, ℕ, zero, suc, ◌+◌, ◌^◌, ◌<◌, ◌≤◌, List, [], ◌∷◌, length, slice_index_or, inl, inr, refl, sym, ◌∙◌, ap, subst, arith}
use Rattle.std.proofs.lemmas.Bool.{cases_lt}
use Rattle.lt_arch.specs.declared.timing.Timing.{Timing}
use Rattle.lt_arch.specs.declared.times.NodeTime.{NodeTime}
use Rattle.lt_arch.specs.declared.timing.Protocol.TheVariants.{TimeBased}
use Rattle.lt_arch.specs.Readers.{tmin_of, tmax_of, send_of, execute_of, dmin_of, dmax_of, no_time, no_pair, pair_place}
use Rattle.lt_arch.specs.Pairs.{ends_of, ordered_pairs}
use Rattle.lt_timing.specs.Accepts.{count_of}
use Rattle.lt_timing.specs.Least.{least_execute, least_send, HasBoundsOf, HasLeastSetup}
use Rattle.lt_timing.proofs.LeastRight.{several_execute, several_send, single_execute, single_send}
use Rattle.lt_timing.proofs.Ranges.{least_send-range, least_execute-range}
use Rattle.lt_timing.proofs.SameBounds.{law as setups}

send-some : (t : Timing) (i : ℕ) → 1 ≤ least_send t i
send-some t i = elim (cases_lt (count_of t) 2) [ inl one ↦ omega (arith, single_send t one i) | inr two ↦ rw (several_send t two i) (omega arith) ]

execute-some : (t : Timing) (i : ℕ) → 1 ≤ least_execute t i
execute-some t i = elim (cases_lt (count_of t) 2) [ inl one ↦ omega (arith, single_execute t one i) | inr two ↦ rw (several_execute t two i) (omega arith) ]

-- the node number k with its least countdowns
abbrev node_with : Timing → ℕ → NodeTime → NodeTime
node_with t k x = record { tmin = x.tmin; tmax = x.tmax; send = least_send t k; execute = least_execute t k; period = x.period; sends = (send-some t k, least_send-range t k); executes = (execute-some t k, least_execute-range t k) }

abbrev nodes_with : Timing → ℕ → List NodeTime → List NodeTime
nodes_with t k [] = []
nodes_with t k (x ∷ xs) = node_with t k x ∷ nodes_with t (suc k) xs

same_length : (t : Timing) (k : ℕ) (xs : List NodeTime) → length (nodes_with t k xs) ≡ length xs
same_length t k [] = refl
same_length t k (x ∷ xs) = ap suc (same_length t (suc k) xs)

node-at : (t : Timing) (k : ℕ) (xs : List NodeTime) (i : ℕ) → i < length xs → slice_index_or (nodes_with t k xs) i no_time ≡ node_with t (k + i) (slice_index_or xs i no_time)
node-at t k [] i h = absurd (omega arith)
node-at t k (x ∷ xs) zero h = let e : k ≡ k + 0 = omega arith in ap (λ n. node_with t n x) e
node-at t k (x ∷ xs) (suc i) h = let e : suc k + i ≡ k + suc i = omega arith in node-at t (suc k) xs i (omega arith) ∙ ap (λ n. node_with t n (slice_index_or xs i no_time)) e

abbrev setup_of : Timing → Timing
setup_of t = record {
  nodes = nodes_with t 0 t.nodes;
  pairs = t.pairs;
  most = t.most;
  protocol = TimeBased;
  pairs_are = subst (λ n. ends_of t.pairs ≡ ordered_pairs n) (sym (same_length t 0 t.nodes)) t.pairs_are;
  none_above = t.none_above;
  most_range = t.most_range;
  numbered = subst (λ n. n < 2 ^ 32) (sym (same_length t 0 t.nodes)) t.numbered;
}

tmin-same : (t : Timing) (i : ℕ) → i < count_of t → tmin_of (setup_of t) i ≡ tmin_of t i
unfolding tmin_of
tmin-same t i h = ap (λ x. x.tmin) (node-at t 0 t.nodes i h)

tmax-same : (t : Timing) (i : ℕ) → i < count_of t → tmax_of (setup_of t) i ≡ tmax_of t i
unfolding tmax_of
tmax-same t i h = ap (λ x. x.tmax) (node-at t 0 t.nodes i h)

start-zero : (i : ℕ) → 0 + i ≡ i
start-zero i = omega arith

send-is : (t : Timing) (i : ℕ) → i < count_of t → send_of (setup_of t) i ≡ least_send t i
unfolding send_of
send-is t i h = ap (λ x. x.send) (node-at t 0 t.nodes i h) ∙ ap (λ n. least_send t n) (start-zero i)

execute-is : (t : Timing) (i : ℕ) → i < count_of t → execute_of (setup_of t) i ≡ least_execute t i
unfolding execute_of
execute-is t i h = ap (λ x. x.execute) (node-at t 0 t.nodes i h) ∙ ap (λ n. least_execute t n) (start-zero i)

dmin-same : (t : Timing) (i j : ℕ) → dmin_of (setup_of t) i j ≡ dmin_of t i j
unfolding dmin_of
dmin-same t i j = ap (λ n. (slice_index_or t.pairs (pair_place n i j) no_pair).dmin) (same_length t 0 t.nodes)

dmax-same : (t : Timing) (i j : ℕ) → dmax_of (setup_of t) i j ≡ dmax_of t i j
unfolding dmax_of
dmax-same t i j = ap (λ n. (slice_index_or t.pairs (pair_place n i j) no_pair).dmax) (same_length t 0 t.nodes)

bounds_kept : (t : Timing) → HasBoundsOf t (setup_of t)
bounds_kept t = record {
  count = same_length t 0 t.nodes;
  tmin = tmin-same t;
  tmax = tmax-same t;
  dmin = λ i j h w ne. dmin-same t i j;
  dmax = λ i j h w ne. dmax-same t i j;
}

pub law : (t : Timing) → HasLeastSetup t
law t = record {
  setup = setup_of t;
  bounds = bounds_kept t;
  time_based = refl;
  sends = send-is t;
  executes = execute-is t;
  accepted = (setups t).accepted (setup_of t) (bounds_kept t) refl (λ i h. (send-is t i h, execute-is t i h));
}
