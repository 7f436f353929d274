-- Over all time-based setups with the same bounds.
use Rattle.std.proofs.Common.{◌≡◌, ◌≢◌, ℕ, zero, suc, ◌+◌, ◌*◌, ◌<◌, ◌≤◌, inl, inr, refl, sym, ◌∙◌, ap, subst, arith}
use Rattle.lt_arch.specs.declared.timing.Timing.{Timing}
use Rattle.lt_arch.specs.Readers.{tmin_of, tmax_of, send_of, execute_of, dmin_of, dmax_of, time_at}
use Rattle.lt_timing.specs.Greatest.{greatest_but}
use Rattle.lt_timing.specs.Accepts.{count_of, dmax_to, answer_time, Meets, MeetsEach}
use Rattle.lt_timing.specs.Least.{least_execute, least_send, HasBoundsOf, AreLeastOfSetups}
use Rattle.lt_timing.proofs.Folds.{same_or_not, greatest_but-same, greatest_but-next}
use Rattle.lt_timing.proofs.EachPair.{law as each_pair}
use Rattle.lt_timing.proofs.LeastRight.{law as least_right}

greatest_but-cong : (f g : ℕ → ℕ) (j n : ℕ) → ((i : ℕ) → i < n → i ≢ j → f i ≡ g i) → greatest_but f j n ≡ greatest_but g j n
greatest_but-cong f g j zero e = refl
greatest_but-cong f g j (suc n) e = let h : greatest_but f j n ≡ greatest_but g j n = greatest_but-cong f g j n (λ i w ne. e i (omega arith) ne) in elim (same_or_not n j) [
  | inl s ↦ rw (greatest_but-same f j n s, greatest_but-same g j n s) h
  | inr ne ↦ rw (greatest_but-next f j n ne, greatest_but-next g j n ne) (let k = e n (omega arith) ne in rw (h, k))
]

pub sends-some : (t : Timing) (i : ℕ) → 1 ≤ send_of t i
unfolding send_of
sends-some t i = (time_at t i).sends.0

pub executes-some : (t : Timing) (i : ℕ) → 1 ≤ execute_of t i
unfolding execute_of
executes-some t i = (time_at t i).executes.0

module _ (t u : Timing) (b : HasBoundsOf t u) where
  inflow-same : (i : ℕ) → i < count_of t → dmax_to u i ≡ dmax_to t i
  inflow-same i h = greatest_but-cong (λ j. dmax_of u j i) (λ j. dmax_of t j i) i (count_of u) (λ j w ne. b.dmax j i (subst (λ n. j < n) b.count w) h ne) ∙ ap (λ n. greatest_but (λ j. dmax_of t j i) i n) b.count

  reach-same : (i : ℕ) → i < count_of t → answer_time u i ≡ answer_time t i
  reach-same i h = let a = inflow-same i h in let c = b.tmax i h in omega (arith, a, c)

  in_u : (i : ℕ) → i < count_of t → i < count_of u
  in_u i h = subst (λ n. i < n) (sym b.count) h

  module _ (p q p' q' : ℕ → ℕ) (ps : (i : ℕ) → i < count_of t → p i ≡ p' i) (qs : (i : ℕ) → i < count_of t → q i ≡ q' i) where
    pub each : MeetsEach u p q → MeetsEach t p' q'
    each m = record {
      execute = λ i j h w ne.
          let k : answer_time u i + dmax_of u i j < q j * tmin_of u j = m.execute i j (in_u i h) (in_u j w) ne in
          let r : answer_time u i ≡ answer_time t i = reach-same i h in
          let d : dmax_of u i j ≡ dmax_of t i j = b.dmax i j h w ne in
          let x : q j * tmin_of u j ≡ q' j * tmin_of t j = cc (qs j w, b.tmin j w) in
          omega (arith, k, r, d, x);
      send = λ k i j v h w ne.
          let f : answer_time u j + q j * tmax_of u j < (p k + q k) * tmin_of u k + dmin_of u i j = m.send k i j (in_u k v) (in_u i h) (in_u j w) ne in
          let r : answer_time u j ≡ answer_time t j = reach-same j w in
          let x : q j * tmax_of u j ≡ q' j * tmax_of t j = cc (qs j w, b.tmax j w) in
          let y : (p k + q k) * tmin_of u k ≡ (p' k + q' k) * tmin_of t k = cc (ps k v, qs k v, b.tmin k v) in
          let d : dmin_of u i j ≡ dmin_of t i j = b.dmin i j h w ne in
          omega (arith, f, r, x, y, d);
      first = λ k i j v h w ne.
          let f : tmax_of u j < p k * tmin_of u k + dmin_of u i j = m.first k i j (in_u k v) (in_u i h) (in_u j w) ne in
          let x : tmax_of u j ≡ tmax_of t j = b.tmax j w in
          let y : p k * tmin_of u k ≡ p' k * tmin_of t k = cc (ps k v, b.tmin k v) in
          let d : dmin_of u i j ≡ dmin_of t i j = b.dmin i j h w ne in
          omega (arith, f, x, y, d);
    }

    pub meets : Meets u p q → Meets t p' q'
    meets m = (each_pair t p' q').1 (each ((each_pair u p q).0 m))

  pub turned : HasBoundsOf u t
  turned = record {
    count = sym b.count;
    tmin = λ i h. sym (b.tmin i (subst (λ n. i < n) b.count h));
    tmax = λ i h. sym (b.tmax i (subst (λ n. i < n) b.count h));
    dmin = λ i j h w ne. sym (b.dmin i j (subst (λ n. i < n) b.count h) (subst (λ n. j < n) b.count w) ne);
    dmax = λ i j h w ne. sym (b.dmax i j (subst (λ n. i < n) b.count h) (subst (λ n. j < n) b.count w) ne);
  }

pub law : (t : Timing) → AreLeastOfSetups t
law t = record {
  accepted = λ u b tb are _. meets u t (turned t u b) (least_send t) (least_execute t) (send_of u) (execute_of u)
      (λ i h. sym (are i (subst (λ n. i < n) b.count h)).0) (λ i h. sym (are i (subst (λ n. i < n) b.count h)).1) (least_right t).accepted;
  execute = λ u b tb a j h. (least_right t).execute (send_of u) (execute_of u) (λ i w. sends-some u i) (λ i w. executes-some u i)
      (meets t u b (send_of u) (execute_of u) (send_of u) (execute_of u) (λ i w. refl) (λ i w. refl) (a tb)) j h;
  send = λ u b tb a these i h. (least_right t).send (send_of u) (λ i w. sends-some u i)
      (meets t u b (send_of u) (execute_of u) (send_of u) (least_execute t) (λ i w. refl) these (a tb)) i h;
}
