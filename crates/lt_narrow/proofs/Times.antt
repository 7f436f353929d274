-- The times of the nodes of a narrowed timing.
use Rattle.std.proofs.Common.{◌≡◌, ℕ, ◌+◌, ◌-◌, ◌<◌, ◌≤◌, inl, inr, List, [], ◌∷◌, ◌++◌, length, sym, ◌∙◌, ap, subst, arith, length-append}
use Rattle.std.specs.Prelude.{slice_index_or}
use Rattle.std.proofs.lemmas.Bool.{cases_lt}
use Rattle.std.proofs.lemmas.List.{get_or_past, get_or_push, get_or_default}
use Rattle.std.proofs.Math.ListN.{get_or-append}
use Rattle.lt_arch.specs.declared.times.NodeTime.{NodeTime}
use Rattle.lt_arch.specs.declared.timing.Timing.{Timing}
use Rattle.lt_arch.specs.Readers.{no_time, no_pair, time_at, pair_place, tmin_of, tmax_of, send_of, execute_of, dmin_of, dmax_of}
use Rattle.lt_narrow.specs.Narrow.{trim, IsNarrowed, IsNarrowedTime, AreNarrowed, HasBoundsWithin}

pub none_yet : (jitter : ℕ) (t : Timing) (times : List NodeTime) → times ≡ [] → AreNarrowed jitter t 0 times
none_yet jitter t times is = record { size = ap length is; each = λ n lt. absurd (omega arith) }

-- the entry of a node is its times
pub entry : (t : Timing) (n : ℕ) (times : List NodeTime) (v : NodeTime) → times ≡ t.nodes → v ≡ slice_index_or times n v → n < length t.nodes → v ≡ time_at t n
entry t n times v same is lt = is ∙ (ap (λ (xs : List NodeTime). slice_index_or xs n v) same ∙ get_or_default t.nodes n v no_time lt)

pub narrowed_is : (jitter : ℕ) (t : Timing) (n : ℕ) (v : NodeTime) (cut : ℕ) (new : NodeTime) → v ≡ time_at t n → cut ≡ trim jitter (v.tmax - v.tmin) → new.tmin ≡ v.tmin + cut → new.tmax ≡ v.tmax - cut → new.send ≡ v.send → new.execute ≡ v.execute
    → IsNarrowedTime jitter t n new
unfolding tmin_of tmax_of send_of execute_of
narrowed_is jitter t n v cut new here is tmin tmax send execute =
    let trimmed : cut ≡ trim jitter ((time_at t n).tmax - (time_at t n).tmin) = is ∙ ap (λ (x : NodeTime). trim jitter (x.tmax - x.tmin)) here in
    record {
      least = tmin ∙ (λ i. (here i).tmin + trimmed i);
      greatest = tmax ∙ (λ i. (here i).tmax - trimmed i);
      send = send ∙ ap (λ (x : NodeTime). x.send) here;
      execute = execute ∙ ap (λ (x : NodeTime). x.execute) here;
    }

pub one_more : (jitter : ℕ) (t : Timing) (n : ℕ) (times new : List NodeTime) (time : NodeTime) → AreNarrowed jitter t n times → IsNarrowedTime jitter t n time → new ≡ times ++ time ∷ [] → AreNarrowed jitter t (n + 1) new
one_more jitter t n times new time are is here =
    let size = are.size in
    let more = ap length here ∙ length-append times (time ∷ []) in
    record {
      size = omega (arith, more, size);
      each = λ k lt. subst (λ (xs : List NodeTime). IsNarrowedTime jitter t k (slice_index_or xs k no_time)) (sym here) (elim (cases_lt k n) [
        | inl less ↦ subst (IsNarrowedTime jitter t k) (sym (get_or-append times (time ∷ []) no_time k (omega (arith, less, size)))) (are.each k less)
        | inr past ↦
            let same : k ≡ n = omega (arith, lt, past) in
            subst (IsNarrowedTime jitter t k) (sym (get_or_push times time no_time k (omega (arith, size, same)))) (subst (λ (m : ℕ). IsNarrowedTime jitter t m time) (sym same) is)
      ]);
    }

pub narrowed_by : (jitter : ℕ) (t narrow : Timing) → AreNarrowed jitter t (length t.nodes) narrow.nodes → narrow.pairs ≡ t.pairs → narrow.most ≡ t.most → narrow.protocol ≡ t.protocol → IsNarrowed jitter t narrow
unfolding tmin_of tmax_of send_of execute_of
narrowed_by jitter t narrow are pairs most protocol = record {
  protocol = protocol;
  most = most;
  pairs = pairs;
  count = are.size;
  least = λ n lt. (are.each n lt).least;
  greatest = λ n lt. (are.each n lt).greatest;
  send = λ n lt. (are.each n lt).send;
  execute = λ n lt. (are.each n lt).execute;
}

-- past the last node nothing is said of either
no_node : (t narrow : Timing) (n : ℕ) → length narrow.nodes ≡ length t.nodes → length t.nodes ≤ n → time_at narrow n ≡ time_at t n
no_node t narrow n count past = get_or_past narrow.nodes n no_time (omega (arith, count, past)) ∙ sym (get_or_past t.nodes n no_time past)

module _ (jitter : ℕ) (t narrow : Timing) (h : IsNarrowed jitter t narrow) where
  sends : (n : ℕ) → send_of narrow n ≡ send_of t n
  unfolding send_of
  sends n = elim (cases_lt n (length t.nodes)) [ inl lt ↦ h.send n lt | inr past ↦ ap (λ (x : NodeTime). x.send) (no_node t narrow n h.count past) ]

  executes : (n : ℕ) → execute_of narrow n ≡ execute_of t n
  unfolding execute_of
  executes n = elim (cases_lt n (length t.nodes)) [ inl lt ↦ h.execute n lt | inr past ↦ ap (λ (x : NodeTime). x.execute) (no_node t narrow n h.count past) ]

  leasts : (n : ℕ) → tmin_of t n ≤ tmin_of narrow n
  unfolding tmin_of
  leasts n = elim (cases_lt n (length t.nodes)) [
    | inl lt ↦ let e = h.least n lt in omega (arith, e)
    | inr past ↦ let e : (time_at narrow n).tmin ≡ (time_at t n).tmin = ap (λ (x : NodeTime). x.tmin) (no_node t narrow n h.count past) in omega (arith, e)
  ]

  greatests : (n : ℕ) → tmax_of narrow n ≤ tmax_of t n
  unfolding tmax_of
  greatests n = elim (cases_lt n (length t.nodes)) [
    | inl lt ↦ let e = h.greatest n lt in omega (arith, e)
    | inr past ↦ let e : (time_at narrow n).tmax ≡ (time_at t n).tmax = ap (λ (x : NodeTime). x.tmax) (no_node t narrow n h.count past) in omega (arith, e)
  ]

  shortests : (i j : ℕ) → dmin_of narrow i j ≡ dmin_of t i j
  unfolding dmin_of
  shortests i j = λ k. (slice_index_or (h.pairs k) (pair_place (h.count k) i j) no_pair).dmin

  longests : (i j : ℕ) → dmax_of narrow i j ≡ dmax_of t i j
  unfolding dmax_of
  longests i j = λ k. (slice_index_or (h.pairs k) (pair_place (h.count k) i j) no_pair).dmax

  pub within : HasBoundsWithin t narrow
  within = record {
    protocol = h.protocol;
    count = h.count;
    send = sends;
    execute = executes;
    least = leasts;
    greatest = greatests;
    shortest = λ i j. let e = shortests i j in omega (arith, e);
    longest = λ i j. let e = longests i j in omega (arith, e);
  }
