-- How many right sides still wait, with those within them.
use Rattle.std.proofs.Common.{◌≡◌, ℕ, zero, suc, ◌+◌, ◌<◌, true, false, List, [], ◌∷◌, ◌++◌, drop, Some, refl, ap, ◌∙◌, arith}
use Rattle.std.specs.Prelude.{slice_get}
use Rattle.lt_base.specs.declared.value.Value.TheVariants.{Bool as Truth}
use Rattle.lt_base.specs.Expression.{Expression, literal, variable, unary, binary, imported, choose, sampled, merged, delayed, follow, arrow, call, Arguments, no_arguments, argument}
use Rattle.lt_base.specs.Meaning.{ClockPairs, outer}
use Rattle.lt_base.specs.Sizes.{cost, arguments_cost}
use Rattle.lt_meaning.specs.Lift.{Wait, first_wait, delays_in, arguments_delays}

-- a delay for each, and those within it
abbrev pub within : Expression → ℕ
within e = cost 1 (λ _. 0) e

abbrev pub weight : List Wait → ℕ
weight [] = 0
weight (w ∷ ws) = 1 + within w.right + weight ws

weight_append : (xs ys : List Wait) → weight (xs ++ ys) ≡ weight xs + weight ys
weight_append [] ys = omega arith
weight_append (x ∷ xs) ys = let h = weight_append xs ys in omega (arith, h)

two : (xs ys : List Wait) (n m : ℕ) → weight xs ≡ n → weight ys ≡ m → weight (xs ++ ys) ≡ n + m
two xs ys n m p q = weight_append xs ys ∙ (λ i. p i + q i)

mutual
  weight_is : (e : Expression) (ck : ClockPairs) → weight (delays_in e ck) ≡ within e
  weight_is (literal v) ck = refl
  weight_is (variable x) ck = refl
  weight_is (unary o a) ck = weight_is a ck
  weight_is (binary o a b) ck = two (delays_in a ck) (delays_in b ck) _ _ (weight_is a ck) (weight_is b ck)
  weight_is (imported o a b) ck = two (delays_in a ck) (delays_in b ck) _ _ (weight_is a ck) (weight_is b ck)
  weight_is (choose c a b) ck = two (delays_in c ck ++ delays_in a ck) (delays_in b ck) _ _ (two (delays_in c ck) (delays_in a ck) _ _ (weight_is c ck) (weight_is a ck)) (weight_is b ck)
  weight_is (sampled e c b) ck = weight_is e (outer ck)
  weight_is (merged c a b) ck = two (delays_in a ((c, true) ∷ ck)) (delays_in b ((c, false) ∷ ck)) _ _ (weight_is a ((c, true) ∷ ck)) (weight_is b ((c, false) ∷ ck))
  weight_is (delayed v e) ck = omega arith
  weight_is (follow a b) ck =
      let h = weight_is a ck in
      let t = weight_append (delays_in a ck) (first_wait ck ∷ record { clock = ck; first = Truth true; right = b } ∷ []) in
      omega (arith, h, t)
  weight_is (arrow a b) ck =
      let h = two (delays_in a ck) (delays_in b ck) _ _ (weight_is a ck) (weight_is b ck) in
      let t = weight_append (delays_in a ck ++ delays_in b ck) (first_wait ck ∷ []) in
      omega (arith, h, t)
  weight_is (call g args) ck = let h = arguments_weight args ck in omega (arith, h)

  arguments_weight : (args : Arguments) (ck : ClockPairs) → weight (arguments_delays args ck) ≡ arguments_cost 1 (λ _. 0) args
  arguments_weight no_arguments ck = refl
  arguments_weight (argument e args) ck = two (delays_in e ck) (arguments_delays args ck) _ _ (weight_is e ck) (arguments_weight args ck)

drop_weight : (ws more : List Wait) (j : ℕ) (w : Wait) → slice_get ws j ≡ Some w → weight (drop (suc j) (ws ++ more)) + (1 + within w.right) ≡ weight (drop j ws) + weight more
drop_weight [] more j w h = absurd (cc)
drop_weight (v ∷ ws) more zero w h = let same : v ≡ w = cc in let e = ap (λ (w : Wait). within w.right) same in let t = weight_append ws more in omega (arith, e, t)
drop_weight (v ∷ ws) more (suc j) w h = drop_weight ws more j w h

-- one less waits after the next one is lifted
pub weight_falls : (ws : List Wait) (j k : ℕ) (w : Wait) → k ≡ suc j → slice_get ws j ≡ Some w → weight (drop k (ws ++ delays_in w.right w.clock)) < weight (drop j ws)
weight_falls ws j k w e h =
    let d = drop_weight ws (delays_in w.right w.clock) j w h in
    let m = weight_is w.right w.clock in
    let same : weight (drop k (ws ++ delays_in w.right w.clock)) ≡ weight (drop (suc j) (ws ++ delays_in w.right w.clock)) = ap (λ n. weight (drop n (ws ++ delays_in w.right w.clock))) e in
    omega (arith, d, m, same)
