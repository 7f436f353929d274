-- The inequalities by their sides are those of every pair.
use Rattle.std.proofs.Common.{◌≡◌, ◌≢◌, ℕ, ◌+◌, ◌*◌, ◌<◌, ◌≤◌, arith, subst}
use Rattle.lt_arch.specs.declared.timing.Timing.{Timing}
use Rattle.lt_arch.specs.Readers.{tmin_of, tmax_of, dmin_of, dmax_of}
use Rattle.lt_timing.specs.declared.fault.Which.TheVariants.{Execute, Send, First}
use Rattle.lt_timing.specs.Accepts.{count_of, answer_time, gather_time, dmin_to, least_cycle, least_first_send, Meets, MeetsEach, AreSidesOfEach}
use Rattle.lt_timing.proofs.Folds.{greatest_but-above, greatest_but-some, least_but-below, least_but-some, least-below, least-some}

module _ (t : Timing) (p q : ℕ → ℕ) where
  two : (i j : ℕ) → i < count_of t → j < count_of t → i ≢ j → 2 ≤ count_of t
  two i j h w ne = omega arith

  to_each : Meets t p q → MeetsEach t p q
  to_each m = record {
    execute = λ i j h w ne.
        let g : answer_time t i + dmax_of t i j ≤ gather_time t j = greatest_but-above (λ x. answer_time t x + dmax_of t x j) j (count_of t) i h ne in
        let lt : gather_time t j < q j * tmin_of t j = m (two i j h w ne) Execute j w in
        omega (arith, g, lt);
    send = λ k i j u h w ne.
        let l : least_cycle t p q ≤ (p k + q k) * tmin_of t k = least-below (λ x. (p x + q x) * tmin_of t x) (count_of t) k u in
        let d : dmin_to t j ≤ dmin_of t i j = least_but-below (λ x. dmin_of t x j) j (count_of t) i h ne in
        let lt : answer_time t j + q j * tmax_of t j < least_cycle t p q + dmin_to t j = m (two i j h w ne) Send j w in
        omega (arith, l, d, lt);
    first = λ k i j u h w ne.
        let l : least_first_send t p ≤ p k * tmin_of t k = least-below (λ x. p x * tmin_of t x) (count_of t) k u in
        let d : dmin_to t j ≤ dmin_of t i j = least_but-below (λ x. dmin_of t x j) j (count_of t) i h ne in
        let lt : tmax_of t j < least_first_send t p + dmin_to t j = m (two i j h w ne) First j w in
        omega (arith, l, d, lt);
  }

  from_each : MeetsEach t p q → Meets t p q
  from_each m several Execute j w =
      let g = greatest_but-some (λ x. answer_time t x + dmax_of t x j) j (count_of t) several in
      let lt : answer_time t g.0 + dmax_of t g.0 j < q j * tmin_of t j = m.execute g.0 j g.1 w g.2 in
      subst (λ x. x < q j * tmin_of t j) g.3 lt
  from_each m several Send j w =
      let l = least-some (λ x. (p x + q x) * tmin_of t x) (count_of t) (omega arith) in
      let d = least_but-some (λ x. dmin_of t x j) j (count_of t) several in
      let lt : answer_time t j + q j * tmax_of t j < (p l.0 + q l.0) * tmin_of t l.0 + dmin_of t d.0 j = m.send l.0 d.0 j l.1 d.1 w d.2 in
      let a : (p l.0 + q l.0) * tmin_of t l.0 ≡ least_cycle t p q = l.2 in
      let b : dmin_of t d.0 j ≡ dmin_to t j = d.3 in
      omega (arith, lt, a, b)
  from_each m several First j w =
      let l = least-some (λ x. p x * tmin_of t x) (count_of t) (omega arith) in
      let d = least_but-some (λ x. dmin_of t x j) j (count_of t) several in
      let lt : tmax_of t j < p l.0 * tmin_of t l.0 + dmin_of t d.0 j = m.first l.0 d.0 j l.1 d.1 w d.2 in
      let a : p l.0 * tmin_of t l.0 ≡ least_first_send t p = l.2 in
      let b : dmin_of t d.0 j ≡ dmin_to t j = d.3 in
      omega (arith, lt, a, b)

pub law : AreSidesOfEach
law t p q = (to_each t p q, from_each t p q)
