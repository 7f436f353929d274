-- With its delays lifted a clocked function is clocked, and it is flat.
use Rattle.std.proofs.Common.{◌≡◌, ℕ, suc, ◌+◌, ◌<◌, ◌≤◌, Bool, true, false, List, [], ◌∷◌, ◌++◌, length, All, ◌∙◌, arith}
use Rattle.lt_base.specs.declared.value.Value.{Value}
use Rattle.lt_base.specs.declared.function.Decl.{Decl}
use Rattle.lt_base.specs.Expression.{Expression, literal, variable, unary, binary, imported, choose, sampled, merged, delayed, follow, arrow, call}
use Rattle.lt_base.specs.Program.{Function}
use Rattle.lt_base.specs.Meaning.{ClockPairs, clock_of, outer}
use Rattle.lt_base.specs.Clocking.{WellFormed, Clocked}
use Rattle.lt_norm.specs.Plain.{Simple}
use Rattle.lt_norm.specs.Lift.{delays, lifted, Delay, lifted_delays, right_delays, right_lifted, right_fresh, equations_fresh, Stand}
use Rattle.lt_norm.specs.Flat.{Direct, FlatRight}
use Rattle.lt_norm.proofs.Told.{stand_left, stand_right, stand_next}
use Rattle.lt_norm.proofs.Stands.{right_length, Rows, rows_append}

-- ---- flat

pub lifted_direct : (e : Expression) (n : ℕ) → Simple e → Direct (lifted n e)
lifted_direct (literal v) n c = tt
lifted_direct (variable x) n c = tt
lifted_direct (unary o a) n c = lifted_direct a n c
lifted_direct (binary o a b) n c = (lifted_direct a n c.0, lifted_direct b (n + delays a) c.1)
lifted_direct (imported o a b) n c = (lifted_direct a n c.0, lifted_direct b (n + delays a) c.1)
lifted_direct (choose d a b) n c = (lifted_direct d n c.0, lifted_direct a (n + delays d) c.1, lifted_direct b ((n + delays d) + delays a) c.2)
lifted_direct (sampled e x b) n c = lifted_direct e n c
lifted_direct (merged x a b) n c = (lifted_direct a n c.0, lifted_direct b (n + delays a) c.1)
lifted_direct (delayed v e) n c = tt
lifted_direct (follow a b) n c = elim c [ ]
lifted_direct (arrow a b) n c = elim c [ ]
lifted_direct (call g args) n c = elim c [ ]

pub right_flat : (e : Expression) (n : ℕ) → Simple e → FlatRight (right_lifted n e)
right_flat (delayed v e) n c = lifted_direct e n c
right_flat (literal v) n c = tt
right_flat (variable x) n c = tt
right_flat (unary o a) n c = lifted_direct (unary o a) n c
right_flat (binary o a b) n c = lifted_direct (binary o a b) n c
right_flat (imported o a b) n c = lifted_direct (imported o a b) n c
right_flat (choose d a b) n c = lifted_direct (choose d a b) n c
right_flat (sampled e x b) n c = lifted_direct (sampled e x b) n c
right_flat (merged x a b) n c = lifted_direct (merged x a b) n c
right_flat (follow a b) n c = elim c [ ]
right_flat (arrow a b) n c = elim c [ ]
right_flat (call g args) n c = elim c [ ]

-- ---- a fact of each row, from one of each expression at its clock

-- facts of expressions at clocks that go down to their parts
pub record Inherited (At : ClockPairs → Expression → Type 0) : Type 0 where
  pub one : (o : _) (ck : ClockPairs) (a : Expression) → At ck (unary o a) → At ck a
  pub two : (o : _) (ck : ClockPairs) (a b : Expression) → At ck (binary o a b) → At ck a × At ck b
  pub outside : (o : _) (ck : ClockPairs) (a b : Expression) → At ck (imported o a b) → At ck a × At ck b
  pub three : (ck : ClockPairs) (c a b : Expression) → At ck (choose c a b) → At ck c × At ck a × At ck b
  pub up : (ck : ClockPairs) (e : Expression) (c : ℕ) (b : Bool) → At ck (sampled e c b) → At (outer ck) e
  pub down : (ck : ClockPairs) (c : ℕ) (a b : Expression) → At ck (merged c a b) → At ((c, true) ∷ ck) a × At ((c, false) ∷ ck) b
  pub late : (ck : ClockPairs) (v : Value) (e : Expression) → At ck (delayed v e) → At ck e

module _ (F : Function) (At : ClockPairs → Expression → Type 0) (inherited : Inherited At) (P : Delay → Type 0) (row : (ck : ClockPairs) (v : Value) (e : Expression) (n : ℕ) → At ck (delayed v e) → Stand F n (lifted_delays n ck e) → P (ck, v, lifted n e)) where
  pub each_row : (e : Expression) (n : ℕ) (ck : ClockPairs) → At ck e → Stand F n (lifted_delays n ck e) → Rows P (lifted_delays n ck e)
  each_row (literal v) n ck h s = tt
  each_row (variable x) n ck h s = tt
  each_row (unary o a) n ck h s = each_row a n ck (inherited.one o ck a h) s
  each_row (binary o a b) n ck h s =
      let k = inherited.two o ck a b h in
      rows_append P (lifted_delays n ck a) _ (each_row a n ck k.0 (stand_left F n (lifted_delays n ck a) _ s)) (each_row b (n + delays a) ck k.1 (stand_next F n ck a _ s))
  each_row (imported o a b) n ck h s =
      let k = inherited.outside o ck a b h in
      rows_append P (lifted_delays n ck a) _ (each_row a n ck k.0 (stand_left F n (lifted_delays n ck a) _ s)) (each_row b (n + delays a) ck k.1 (stand_next F n ck a _ s))
  each_row (choose c a b) n ck h s =
      let k = inherited.three ck c a b h in
      let s' = stand_next F n ck c (lifted_delays (n + delays c) ck a ++ lifted_delays ((n + delays c) + delays a) ck b) s in
      rows_append P (lifted_delays n ck c) (lifted_delays (n + delays c) ck a ++ lifted_delays ((n + delays c) + delays a) ck b) (each_row c n ck k.0 (stand_left F n (lifted_delays n ck c) (lifted_delays (n + delays c) ck a ++ lifted_delays ((n + delays c) + delays a) ck b) s)) (rows_append P (lifted_delays (n + delays c) ck a) (lifted_delays ((n + delays c) + delays a) ck b) (each_row a (n + delays c) ck k.1 (stand_left F (n + delays c) (lifted_delays (n + delays c) ck a) (lifted_delays ((n + delays c) + delays a) ck b) s')) (each_row b ((n + delays c) + delays a) ck k.2 (stand_next F (n + delays c) ck a (lifted_delays ((n + delays c) + delays a) ck b) s')))
  each_row (sampled e c b) n ck h s = each_row e n (outer ck) (inherited.up ck e c b h) s
  each_row (merged c a b) n ck h s =
      let k = inherited.down ck c a b h in
      rows_append P (lifted_delays n ((c, true) ∷ ck) a) _ (each_row a n ((c, true) ∷ ck) k.0 (stand_left F n (lifted_delays n ((c, true) ∷ ck) a) _ s)) (each_row b (n + delays a) ((c, false) ∷ ck) k.1 (stand_next F n ((c, true) ∷ ck) a _ s))
  each_row (delayed v e) n ck h s =
      let s' = stand_left F n (lifted_delays n ck e) _ s in
      rows_append P (lifted_delays n ck e) _ (each_row e n ck (inherited.late ck v e h) s') (row ck v e n h s', tt)
  each_row (follow a b) n ck h s = tt
  each_row (arrow a b) n ck h s = tt
  each_row (call g args) n ck h s = tt

  pub each_right_row : (e : Expression) (n : ℕ) (ck : ClockPairs) → At ck e → Stand F n (right_fresh n ck e) → Rows P (right_fresh n ck e)
  each_right_row (delayed v e) n ck h s = each_row e n ck (inherited.late ck v e h) s
  each_right_row (literal v) n ck h s = tt
  each_right_row (variable x) n ck h s = tt
  each_right_row (unary o a) n ck h s = each_row (unary o a) n ck h s
  each_right_row (binary o a b) n ck h s = each_row (binary o a b) n ck h s
  each_right_row (imported o a b) n ck h s = each_row (imported o a b) n ck h s
  each_right_row (choose c a b) n ck h s = each_row (choose c a b) n ck h s
  each_right_row (sampled e c b) n ck h s = each_row (sampled e c b) n ck h s
  each_right_row (merged c a b) n ck h s = each_row (merged c a b) n ck h s
  each_right_row (follow a b) n ck h s = tt
  each_right_row (arrow a b) n ck h s = tt
  each_right_row (call g args) n ck h s = tt

  pub each_equation_row : (ds : List Decl) (n : ℕ) (qs : List (ℕ × Expression)) → All (λ q. At (clock_of ds q.0) q.1) qs → Stand F n (equations_fresh ds n qs) → Rows P (equations_fresh ds n qs)
  each_equation_row ds n [] h s = tt
  each_equation_row ds n (q ∷ qs) h s =
      rows_append P (right_fresh n (clock_of ds q.0) q.1) _
      (each_right_row q.1 n (clock_of ds q.0) (h 0 q (omega arith)) (stand_left F n (right_fresh n (clock_of ds q.0) q.1) _ s))
      (each_equation_row ds (n + right_delays q.1) qs (λ i d l. h (suc i) d (omega arith)) (stand_right F n (right_delays q.1) (right_fresh n (clock_of ds q.0) q.1) _ (right_length n (clock_of ds q.0) q.1) s))

-- what a lifted delay's operand is: simple before, direct afterwards
pub simple_inherited : Inherited (λ ck e. Simple e)
simple_inherited = record {
  one = λ o ck a h. h;
  two = λ o ck a b h. h;
  outside = λ o ck a b h. h;
  three = λ ck c a b h. h;
  up = λ ck e c b h. h;
  down = λ ck c a b h. h;
  late = λ ck v e h. h;
}

-- ---- clocked

module _ (f : Function) (F : Function) (low : length f.decls ≤ length F.decls) (kept : (x : ℕ) → x < length f.decls → clock_of F.decls x ≡ clock_of f.decls x) where
  pub well_more : (ck : ClockPairs) → WellFormed f.decls ck → WellFormed F.decls ck
  well_more [] w = tt
  well_more ((c, b) ∷ ck) w = (omega (arith, w.0, low), kept c w.0 ∙ w.1, well_more ck w.2)

  pub lifted_clocked : (e : Expression) (n : ℕ) (ck : ClockPairs) → Simple e → Clocked [] f.decls e ck → Stand F n (lifted_delays n ck e) → Clocked [] F.decls (lifted n e) ck
  lifted_clocked (literal v) n ck z k s = tt
  lifted_clocked (variable x) n ck z k s = (omega (arith, k.0, low), kept x k.0 ∙ k.1)
  lifted_clocked (unary o a) n ck z k s = lifted_clocked a n ck z k s
  lifted_clocked (binary o a b) n ck z k s =
      (lifted_clocked a n ck z.0 k.0 (stand_left F n (lifted_delays n ck a) _ s), lifted_clocked b (n + delays a) ck z.1 k.1 (stand_next F n ck a _ s))
  lifted_clocked (imported o a b) n ck z k s =
      (lifted_clocked a n ck z.0 k.0 (stand_left F n (lifted_delays n ck a) _ s), lifted_clocked b (n + delays a) ck z.1 k.1 (stand_next F n ck a _ s))
  lifted_clocked (choose c a b) n ck z k s =
      let s' = stand_next F n ck c (lifted_delays (n + delays c) ck a ++ lifted_delays ((n + delays c) + delays a) ck b) s in (
        lifted_clocked c n ck z.0 k.0 (stand_left F n (lifted_delays n ck c) (lifted_delays (n + delays c) ck a ++ lifted_delays ((n + delays c) + delays a) ck b) s),
        lifted_clocked a (n + delays c) ck z.1 k.1 (stand_left F (n + delays c) (lifted_delays (n + delays c) ck a) (lifted_delays ((n + delays c) + delays a) ck b) s'),
        lifted_clocked b ((n + delays c) + delays a) ck z.2 k.2 (stand_next F (n + delays c) ck a (lifted_delays ((n + delays c) + delays a) ck b) s'),
      )
  lifted_clocked (sampled e c b) n [] z k s = elim k [ ]
  lifted_clocked (sampled e c b) n ((d, a) ∷ ck) z k s = (k.0, k.1, (omega (arith, k.2.0, low), kept c k.2.0 ∙ k.2.1, lifted_clocked e n ck z k.2.2 s))
  lifted_clocked (merged c a b) n ck z k s = (
    omega (arith, k.0, low),
    kept c k.0 ∙ k.1,
    lifted_clocked a n ((c, true) ∷ ck) z.0 k.2 (stand_left F n (lifted_delays n ((c, true) ∷ ck) a) _ s),
    lifted_clocked b (n + delays a) ((c, false) ∷ ck) z.1 k.3 (stand_next F n ((c, true) ∷ ck) a _ s),
  )
  lifted_clocked (delayed v e) n ck z k s = let r = stand_next F n ck e _ s in (r.0, r.1)
  lifted_clocked (follow a b) n ck z k s = elim z [ ]
  lifted_clocked (arrow a b) n ck z k s = elim z [ ]
  lifted_clocked (call g args) n ck z k s = elim z [ ]

  pub right_clocked : (e : Expression) (n : ℕ) (ck : ClockPairs) → Simple e → Clocked [] f.decls e ck → Stand F n (right_fresh n ck e) → Clocked [] F.decls (right_lifted n e) ck
  right_clocked (delayed v e) n ck z k s = lifted_clocked e n ck z k s
  right_clocked (literal v) n ck z k s = tt
  right_clocked (variable x) n ck z k s = lifted_clocked (variable x) n ck z k s
  right_clocked (unary o a) n ck z k s = lifted_clocked (unary o a) n ck z k s
  right_clocked (binary o a b) n ck z k s = lifted_clocked (binary o a b) n ck z k s
  right_clocked (imported o a b) n ck z k s = lifted_clocked (imported o a b) n ck z k s
  right_clocked (choose c a b) n ck z k s = lifted_clocked (choose c a b) n ck z k s
  right_clocked (sampled e c b) n ck z k s = lifted_clocked (sampled e c b) n ck z k s
  right_clocked (merged c a b) n ck z k s = lifted_clocked (merged c a b) n ck z k s
  right_clocked (follow a b) n ck z k s = elim z [ ]
  right_clocked (arrow a b) n ck z k s = elim z [ ]
  right_clocked (call g args) n ck z k s = elim z [ ]

outer_well : (ds : List Decl) (ck : ClockPairs) → WellFormed ds ck → WellFormed ds (outer ck)
outer_well ds [] w = tt
outer_well ds ((c, b) ∷ ck) w = w.2

-- simple, and clocked at a well-formed clock
abbrev pub AtClock : List Decl → ClockPairs → Expression → Type 0
AtClock ds ck e = Simple e × WellFormed ds ck × Clocked [] ds e ck

sampled_clocked : (ds : List Decl) (ck : ClockPairs) (e : Expression) (c : ℕ) (b : Bool) → Clocked [] ds (sampled e c b) ck → Clocked [] ds e (outer ck)
sampled_clocked ds [] e c b k = elim k [ ]
sampled_clocked ds ((d, a) ∷ ck) e c b k = k.2.2

pub clock_inherited : (ds : List Decl) → Inherited (AtClock ds)
clock_inherited ds = record {
  one = λ o ck a h. h;
  two = λ o ck a b h. ((h.0.0, h.1, h.2.0), (h.0.1, h.1, h.2.1));
  outside = λ o ck a b h. ((h.0.0, h.1, h.2.0), (h.0.1, h.1, h.2.1));
  three = λ ck c a b h. ((h.0.0, h.1, h.2.0), (h.0.1, h.1, h.2.1), (h.0.2, h.1, h.2.2));
  up = λ ck e c b h. (h.0, outer_well ds ck h.1, sampled_clocked ds ck e c b h.2);
  down = λ ck c a b h. ((h.0.0, (h.2.0, h.2.1, h.1), h.2.2), (h.0.1, (h.2.0, h.2.1, h.1), h.2.3));
  late = λ ck v e h. h;
}
