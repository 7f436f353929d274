-- Timings whose periods are drawn from a part of their intervals.
use Rattle.std.specs.Prelude.{◌≡◌, ℕ, ◌+◌, ◌-◌, ◌*◌, ◌/◌, ◌<◌, ◌≤◌, List, length, slice_index_or}
use Rattle.lt_arch.specs.declared.times.NodeTime.{NodeTime}
use Rattle.lt_arch.specs.declared.timing.Timing.{Timing}
use Rattle.lt_arch.specs.Readers.{tmin_of, tmax_of, send_of, execute_of, dmin_of, dmax_of, no_time}

-- so much is taken off each end of an interval of this width, so that about so many thousandths of it are left around its middle
abbrev pub trim : (jitter width : ℕ) → ℕ
trim jitter width = width * (1000 - jitter) / 2000

-- how wide node n's periods are
abbrev pub width_of : Timing → (n : ℕ) → ℕ
width_of t n = tmax_of t n - tmin_of t n

-- the second timing is the first one with each interval of periods narrowed to so many thousandths
pub record IsNarrowed (jitter : ℕ) (t narrow : Timing) : Type 0 where
  pub protocol : narrow.protocol ≡ t.protocol
  pub most : narrow.most ≡ t.most
  pub pairs : narrow.pairs ≡ t.pairs
  pub count : length narrow.nodes ≡ length t.nodes
  pub least : (n : ℕ) → n < length t.nodes → tmin_of narrow n ≡ tmin_of t n + trim jitter (width_of t n)
  pub greatest : (n : ℕ) → n < length t.nodes → tmax_of narrow n ≡ tmax_of t n - trim jitter (width_of t n)
  pub send : (n : ℕ) → n < length t.nodes → send_of narrow n ≡ send_of t n
  pub execute : (n : ℕ) → n < length t.nodes → execute_of narrow n ≡ execute_of t n

-- each bound of the second timing is within those of the first, with the same protocol and the same countdowns
pub record HasBoundsWithin (t narrow : Timing) : Type 0 where
  pub protocol : narrow.protocol ≡ t.protocol
  pub count : length narrow.nodes ≡ length t.nodes
  pub send : (n : ℕ) → send_of narrow n ≡ send_of t n
  pub execute : (n : ℕ) → execute_of narrow n ≡ execute_of t n
  pub least : (n : ℕ) → tmin_of t n ≤ tmin_of narrow n
  pub greatest : (n : ℕ) → tmax_of narrow n ≤ tmax_of t n
  pub shortest : (i j : ℕ) → dmin_of t i j ≤ dmin_of narrow i j
  pub longest : (i j : ℕ) → dmax_of narrow i j ≤ dmax_of t i j

-- these are node n's times with its periods narrowed
pub record IsNarrowedTime (jitter : ℕ) (t : Timing) (n : ℕ) (time : NodeTime) : Type 0 where
  pub least : time.tmin ≡ tmin_of t n + trim jitter (width_of t n)
  pub greatest : time.tmax ≡ tmax_of t n - trim jitter (width_of t n)
  pub send : time.send ≡ send_of t n
  pub execute : time.execute ≡ execute_of t n

-- and so those of each of so many nodes
pub record AreNarrowed (jitter : ℕ) (t : Timing) (count : ℕ) (times : List NodeTime) : Type 0 where
  pub size : length times ≡ count
  pub each : (n : ℕ) → n < count → IsNarrowedTime jitter t n (slice_index_or times n no_time)
