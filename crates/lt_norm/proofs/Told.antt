-- The lifted form tells what the expression tells.
use Rattle.std.proofs.Common.{◌≡◌, ℕ, suc, ◌+◌, true, false, List, [], ◌∷◌, ◌++◌, length, refl, subst, arith, length-append}
use Rattle.lt_base.specs.Expression.{Expression, literal, variable, unary, binary, imported, choose, sampled, merged, delayed, follow, arrow, call}
use Rattle.lt_base.specs.Program.{Function}
use Rattle.lt_base.specs.Meaning.{ClockPairs, Environment, Row, Callee, present, outer}
use Rattle.lt_base.specs.Solution.{Solves}
use Rattle.lt_base.specs.Tells.{Tells}
use Rattle.lt_base.proofs.Solution.{and_left}
use Rattle.lt_base.proofs.Tells.{at_each_map, TellsAt, tells_same, tells_unary, tells_binary, tells_imported, tells_choose, tells_merged, tells_delayed, tells_lifted}
use Rattle.lt_norm.specs.Lift.{delays, lifted, Delay, lifted_delays, right_lifted, right_fresh, Stand}

-- ---- as many variables as delays

three : {A : Type 0} (xs ys zs : List A) (a b c : ℕ) → length xs ≡ a → length ys ≡ b → length zs ≡ c → length (xs ++ (ys ++ zs)) ≡ a + (b + c)
three xs ys zs a b c p q r =
    let l = length-append xs (ys ++ zs) in
    let m = length-append ys zs in
    omega (arith, l, m, p, q, r)

pub two : {A : Type 0} (xs ys : List A) (a b : ℕ) → length xs ≡ a → length ys ≡ b → length (xs ++ ys) ≡ a + b
two xs ys a b p q = let l = length-append xs ys in omega (arith, l, p, q)

pub fresh_length : (n : ℕ) (ck : ClockPairs) (e : Expression) → length (lifted_delays n ck e) ≡ delays e
fresh_length n ck (literal v) = refl
fresh_length n ck (variable x) = refl
fresh_length n ck (unary o a) = fresh_length n ck a
fresh_length n ck (binary o a b) = two _ _ _ _ (fresh_length n ck a) (fresh_length (n + delays a) ck b)
fresh_length n ck (imported o a b) = two _ _ _ _ (fresh_length n ck a) (fresh_length (n + delays a) ck b)
fresh_length n ck (choose c a b) = three _ _ _ _ _ _ (fresh_length n ck c) (fresh_length (n + delays c) ck a) (fresh_length ((n + delays c) + delays a) ck b)
fresh_length n ck (sampled e c b) = fresh_length n (outer ck) e
fresh_length n ck (merged c a b) = two _ _ _ _ (fresh_length n ((c, true) ∷ ck) a) (fresh_length (n + delays a) ((c, false) ∷ ck) b)
fresh_length n ck (delayed v e) = two _ _ _ 1 (fresh_length n ck e) refl
fresh_length n ck (follow a b) = refl
fresh_length n ck (arrow a b) = refl
fresh_length n ck (call g args) = refl

-- ---- what stands

module _ (F : Function) where
  pub stand_left : (n : ℕ) (xs ys : List Delay) → Stand F n (xs ++ ys) → Stand F n xs
  stand_left n [] ys s = tt
  stand_left n (x ∷ xs) ys s = (s.0, s.1, s.2, s.3, stand_left (suc n) xs ys s.4)

  pub stand_right : (n k : ℕ) (xs ys : List Delay) → length xs ≡ k → Stand F n (xs ++ ys) → Stand F (n + k) ys
  stand_right n k xs ys e s = subst (λ m. Stand F m ys) (omega (arith, e)) (go n xs s)
    where
      go : (n : ℕ) (xs : List Delay) → Stand F n (xs ++ ys) → Stand F (length xs + n) ys
      go n [] s = subst (λ m. Stand F m ys) (omega arith) s
      go n (x ∷ xs) s = subst (λ m. Stand F m ys) (omega arith) (go (suc n) xs s.4)

  -- where the second of two parts stands
  pub stand_next : (n : ℕ) (ck : ClockPairs) (a : Expression) (ys : List Delay) → Stand F n (lifted_delays n ck a ++ ys) → Stand F (n + delays a) ys
  stand_next n ck a ys s = stand_right n (delays a) (lifted_delays n ck a) ys (fresh_length n ck a) s

module _ (callee : Callee) (F : Function) (es : List Environment) (rows : List Row) (solves : Solves callee F es rows) where
  -- along a solution the lifted form has the value of the expression
  pub told : (e : Expression) (n : ℕ) (ck : ClockPairs) → Stand F n (lifted_delays n ck e) → Tells callee es ck e (lifted n e)
  told (literal v) n ck s = tells_same callee ck (literal v) es
  told (variable x) n ck s = tells_same callee ck (variable x) es
  told (unary o a) n ck s = tells_unary callee ck o a (lifted n a) es (told a n ck s)
  told (binary o a b) n ck s =
      let x = told a n ck (stand_left F n (lifted_delays n ck a) (lifted_delays (n + delays a) ck b) s) in
      let y = told b (n + delays a) ck (stand_next F n ck a (lifted_delays (n + delays a) ck b) s) in
      tells_binary callee ck o a (lifted n a) b (lifted (n + delays a) b) es x y
  told (imported o a b) n ck s =
      let x = told a n ck (stand_left F n (lifted_delays n ck a) (lifted_delays (n + delays a) ck b) s) in
      let y = told b (n + delays a) ck (stand_next F n ck a (lifted_delays (n + delays a) ck b) s) in
      tells_imported callee ck o a (lifted n a) b (lifted (n + delays a) b) es x y
  told (choose c a b) n ck s =
      let x = told c n ck (stand_left F n (lifted_delays n ck c) (lifted_delays (n + delays c) ck a ++ lifted_delays ((n + delays c) + delays a) ck b) s) in
      let s' = stand_next F n ck c (lifted_delays (n + delays c) ck a ++ lifted_delays ((n + delays c) + delays a) ck b) s in
      let y = told a (n + delays c) ck (stand_left F (n + delays c) (lifted_delays (n + delays c) ck a) (lifted_delays ((n + delays c) + delays a) ck b) s') in
      let z = told b ((n + delays c) + delays a) ck (stand_next F (n + delays c) ck a (lifted_delays ((n + delays c) + delays a) ck b) s') in
      tells_choose callee ck c (lifted n c) a (lifted (n + delays c) a) b (lifted ((n + delays c) + delays a) b) es x y z
  told (sampled e c b) n ck s =
      let x = told e n (outer ck) s in
      at_each_map (TellsAt callee (outer ck) e (lifted n e)) (TellsAt callee ck (sampled e c b) (sampled (lifted n e) c b)) (λ past env h p. h (outer_present env ck p)) es x
    where
      outer_present : (env : Environment) (ck : ClockPairs) → present env ck ≡ true → present env (outer ck) ≡ true
      outer_present env [] p = p
      outer_present env (q ∷ ck) p = and_left _ _ p
  told (merged c a b) n ck s =
      let x = told a n ((c, true) ∷ ck) (stand_left F n (lifted_delays n ((c, true) ∷ ck) a) (lifted_delays (n + delays a) ((c, false) ∷ ck) b) s) in
      let y = told b (n + delays a) ((c, false) ∷ ck) (stand_next F n ((c, true) ∷ ck) a (lifted_delays (n + delays a) ((c, false) ∷ ck) b) s) in
      tells_merged callee ck c a (lifted n a) b (lifted (n + delays a) b) es x y
  told (delayed v e) n ck s =
      let x = told e n ck (stand_left F n (lifted_delays n ck e) ((ck, v, lifted n e) ∷ []) s) in
      let r = stand_next F n ck e ((ck, v, lifted n e) ∷ []) s in
      tells_lifted callee F (n + delays e) (delayed v e) (delayed v (lifted n e)) ck r.3 r.1 r.0 es rows solves (tells_delayed callee ck v e (lifted n e) es x)
  told (follow a b) n ck s = tells_same callee ck (follow a b) es
  told (arrow a b) n ck s = tells_same callee ck (arrow a b) es
  told (call g args) n ck s = tells_same callee ck (call g args) es

  -- and so has a right side, in which a delay stays
  pub told_right : (e : Expression) (n : ℕ) (ck : ClockPairs) → Stand F n (right_fresh n ck e) → Tells callee es ck e (right_lifted n e)
  told_right (delayed v e) n ck s = tells_delayed callee ck v e (lifted n e) es (told e n ck s)
  told_right (literal v) n ck s = told (literal v) n ck s
  told_right (variable x) n ck s = told (variable x) n ck s
  told_right (unary o a) n ck s = told (unary o a) n ck s
  told_right (binary o a b) n ck s = told (binary o a b) n ck s
  told_right (imported o a b) n ck s = told (imported o a b) n ck s
  told_right (choose c a b) n ck s = told (choose c a b) n ck s
  told_right (sampled e c b) n ck s = told (sampled e c b) n ck s
  told_right (merged c a b) n ck s = told (merged c a b) n ck s
  told_right (follow a b) n ck s = told (follow a b) n ck s
  told_right (arrow a b) n ck s = told (arrow a b) n ck s
  told_right (call g args) n ck s = told (call g args) n ck s
