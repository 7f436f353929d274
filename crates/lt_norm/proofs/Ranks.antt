-- With its delays lifted a causal function is causal.
use Rattle.std.proofs.Common.{◌≡◌, ℕ, suc, ◌+◌, ◌<◌, ◌≤◌, true, false, List, [], ◌∷◌, ◌++◌, length, Some, sym, ap, ◌∙◌, subst, arith}
use Rattle.std.specs.Prelude.{nat_lt, nat_le, if◌then◌else◌}
use Rattle.std.proofs.lemmas.Bool.Decides.{nat_tests}
use Rattle.lt_base.specs.declared.function.Decl.{Decl}
use Rattle.lt_base.specs.Expression.{Expression, literal, variable, unary, binary, imported, choose, sampled, merged, delayed, follow, arrow, call, Arguments, no_arguments, argument}
use Rattle.lt_base.specs.Program.{Function, GoodFunction, VarsBelow, ArgumentVarsBelow}
use Rattle.lt_base.specs.Meaning.{ClockPairs, clock_of, right_of, outer}
use Rattle.lt_base.specs.Clocking.{WellFormed, ClockedFunction}
use Rattle.lt_base.specs.Dependence.{Causal}
use Rattle.lt_base.specs.Order.{EachRead, EachArgumentRead, EachClockVar, Ranked, Ordered}
use Rattle.lt_base.proofs.Reading.{each_clock_map}
use Rattle.lt_base.proofs.Order.{place_of, ordered, causal_from_ranks}
use Rattle.lt_base.proofs.Lookups.{right_all}
use Rattle.lt_norm.specs.Plain.{Simple}
use Rattle.lt_norm.specs.Lift.{delays, lifted, Delay, lifted_delays, right_lifted, right_fresh, lift_function, Stand}
use Rattle.lt_norm.proofs.Told.{stand_left, stand_next}
use Rattle.lt_norm.proofs.Stands.{Rows, rows, each_equation, lift_clocks}

-- ---- a number above those of a clock's variables

larger : ℕ → ℕ → ℕ
larger a b = if nat_le a b then b else a

larger_left : (a b : ℕ) → a ≤ larger a b
unfolding larger
larger_left a b = grind (arith, nat_tests)

larger_right : (a b : ℕ) → b ≤ larger a b
unfolding larger
larger_right a b = grind (arith, nat_tests)

larger_least : (a b m : ℕ) → a ≤ m → b ≤ m → larger a b ≤ m
unfolding larger
larger_least a b m p q = grind (arith, nat_tests)

abbrev over : (ℕ → ℕ) → ClockPairs → ℕ
over r [] = 0
over r ((c, b) ∷ ck) = larger (suc (r c)) (over r ck)

over_all : (r : ℕ → ℕ) (ck : ClockPairs) (m : ℕ) → over r ck ≤ m → EachClockVar (λ c. r c < m) ck
over_all r [] m h = tt
over_all r ((c, b) ∷ ck) m h =
    let p = larger_left (suc (r c)) (over r ck) in
    let q = larger_right (suc (r c)) (over r ck) in
    (omega (arith, p, h), over_all r ck m (omega (arith, q, h)))

over_least : (r : ℕ → ℕ) (ck : ClockPairs) (m : ℕ) → EachClockVar (λ c. suc (r c) ≤ m) ck → over r ck ≤ m
over_least r [] m h = omega arith
over_least r ((c, b) ∷ ck) m h = larger_least (suc (r c)) (over r ck) m h.0 (over_least r ck m h.1)

-- ---- two facts of each variable

mutual
  both_reads : (P : ℕ → Type 0) (n : ℕ) (e : Expression) → EachRead P e → VarsBelow n e → EachRead (λ y. (y < n) × P y) e
  both_reads P n (literal v) r b = tt
  both_reads P n (variable x) r b = (b, r)
  both_reads P n (unary o a) r b = both_reads P n a r b
  both_reads P n (binary o a c) r b = (both_reads P n a r.0 b.0, both_reads P n c r.1 b.1)
  both_reads P n (imported o a c) r b = (both_reads P n a r.0 b.0, both_reads P n c r.1 b.1)
  both_reads P n (choose d a c) r b = (both_reads P n d r.0 b.0, both_reads P n a r.1 b.1, both_reads P n c r.2 b.2)
  both_reads P n (sampled e c t) r b = (both_reads P n e r.0 b.0, (b.1, r.1))
  both_reads P n (merged c d a) r b = ((b.0, r.0), both_reads P n d r.1 b.1, both_reads P n a r.2 b.2)
  both_reads P n (delayed v e) r b = tt
  both_reads P n (follow a c) r b = both_reads P n a r b.0
  both_reads P n (arrow a c) r b = (both_reads P n a r.0 b.0, both_reads P n c r.1 b.1)
  both_reads P n (call g args) r b = both_arguments P n args r b

  both_arguments : (P : ℕ → Type 0) (n : ℕ) (args : Arguments) → EachArgumentRead P args → ArgumentVarsBelow n args → EachArgumentRead (λ y. (y < n) × P y) args
  both_arguments P n no_arguments r b = tt
  both_arguments P n (argument e args) r b = (both_reads P n e r.0 b.0, both_arguments P n args r.1 b.1)

both_clocks : (P Q : ℕ → Type 0) (ck : ClockPairs) → EachClockVar P ck → EachClockVar Q ck → EachClockVar (λ c. P c × Q c) ck
both_clocks P Q [] p q = tt
both_clocks P Q ((c, b) ∷ ck) p q = ((p.0, q.0), both_clocks P Q ck p.1 q.1)

pub well_below : (ds : List Decl) (ck : ClockPairs) → WellFormed ds ck → EachClockVar (λ c. c < length ds) ck
well_below ds [] w = tt
well_below ds ((c, b) ∷ ck) w = (w.0, well_below ds ck w.2)

outer_each : (P : ℕ → Type 0) (ck : ClockPairs) → EachClockVar P ck → EachClockVar P (outer ck)
outer_each P [] k = tt
outer_each P ((c, b) ∷ ck) k = k.1

-- ---- what a lifted form reads

module _ (F : Function) (N : ℕ) (Old P : ℕ → Type 0) (hold : (y : ℕ) → Old y → P y) (new : (z : ℕ) (ck : ClockPairs) → N ≤ z → clock_of F.decls z ≡ ck → EachClockVar Old ck → P z) where
  reads_lifted : (e : Expression) (n : ℕ) (ck : ClockPairs) → N ≤ n → Simple e → Stand F n (lifted_delays n ck e) → EachRead Old e → EachClockVar Old ck → EachRead P (lifted n e)
  reads_lifted (literal v) n ck l w s r k = tt
  reads_lifted (variable x) n ck l w s r k = hold x r
  reads_lifted (unary o a) n ck l w s r k = reads_lifted a n ck l w s r k
  reads_lifted (binary o a b) n ck l w s r k =
      (reads_lifted a n ck l w.0 (stand_left F n (lifted_delays n ck a) _ s) r.0 k, reads_lifted b (n + delays a) ck (omega arith) w.1 (stand_next F n ck a _ s) r.1 k)
  reads_lifted (imported o a b) n ck l w s r k =
      (reads_lifted a n ck l w.0 (stand_left F n (lifted_delays n ck a) _ s) r.0 k, reads_lifted b (n + delays a) ck (omega arith) w.1 (stand_next F n ck a _ s) r.1 k)
  reads_lifted (choose c a b) n ck l w s r k =
      let s' = stand_next F n ck c (lifted_delays (n + delays c) ck a ++ lifted_delays ((n + delays c) + delays a) ck b) s in (
        reads_lifted c n ck l w.0 (stand_left F n (lifted_delays n ck c) (lifted_delays (n + delays c) ck a ++ lifted_delays ((n + delays c) + delays a) ck b) s) r.0 k,
        reads_lifted a (n + delays c) ck (omega arith) w.1 (stand_left F (n + delays c) (lifted_delays (n + delays c) ck a) (lifted_delays ((n + delays c) + delays a) ck b) s') r.1 k,
        reads_lifted b ((n + delays c) + delays a) ck (omega arith) w.2 (stand_next F (n + delays c) ck a (lifted_delays ((n + delays c) + delays a) ck b) s') r.2 k,
      )
  reads_lifted (sampled e c b) n ck l w s r k = (reads_lifted e n (outer ck) l w s r.0 (outer_each Old ck k), hold c r.1)
  reads_lifted (merged c a b) n ck l w s r k = (
    hold c r.0,
    reads_lifted a n ((c, true) ∷ ck) l w.0 (stand_left F n (lifted_delays n ((c, true) ∷ ck) a) _ s) r.1 (r.0, k),
    reads_lifted b (n + delays a) ((c, false) ∷ ck) (omega arith) w.1 (stand_next F n ((c, true) ∷ ck) a _ s) r.2 (r.0, k),
  )
  reads_lifted (delayed v e) n ck l w s r k =
      let row = stand_next F n ck e _ s in
      new (n + delays e) ck (omega arith) row.1 k
  reads_lifted (follow a b) n ck l w s r k = elim w [ ]
  reads_lifted (arrow a b) n ck l w s r k = elim w [ ]
  reads_lifted (call g args) n ck l w s r k = elim w [ ]

  reads_right : (e : Expression) (n : ℕ) (ck : ClockPairs) → N ≤ n → Simple e → Stand F n (right_fresh n ck e) → EachRead Old e → EachClockVar Old ck → EachRead P (right_lifted n e)
  reads_right (delayed v e) n ck l w s r k = tt
  reads_right (literal v) n ck l w s r k = tt
  reads_right (variable x) n ck l w s r k = hold x r
  reads_right (unary o a) n ck l w s r k = reads_lifted (unary o a) n ck l w s r k
  reads_right (binary o a b) n ck l w s r k = reads_lifted (binary o a b) n ck l w s r k
  reads_right (imported o a b) n ck l w s r k = reads_lifted (imported o a b) n ck l w s r k
  reads_right (choose c a b) n ck l w s r k = reads_lifted (choose c a b) n ck l w s r k
  reads_right (sampled e c b) n ck l w s r k = reads_lifted (sampled e c b) n ck l w s r k
  reads_right (merged c a b) n ck l w s r k = reads_lifted (merged c a b) n ck l w s r k
  reads_right (follow a b) n ck l w s r k = elim w [ ]
  reads_right (arrow a b) n ck l w s r k = elim w [ ]
  reads_right (call g args) n ck l w s r k = elim w [ ]

-- ---- the ranks

module _ (f : Function) (good : GoodFunction f) (clocked : ClockedFunction [] f) (causal : Causal f) (simple : (x : ℕ) (e : Expression) → right_of f.eqs x ≡ Some e → Simple e) (wells : Rows (λ r. WellFormed f.decls r.0) (rows f good)) where
  abbrev N : ℕ
  N = length f.decls

  abbrev F : Function
  F = lift_function f

  abbrev place : ℕ → ℕ
  place = place_of f causal

  order : Ordered f place
  order = ordered f causal

  abbrev old_rank : ℕ → ℕ
  old_rank y = (place y + place y) + 1

  -- an old variable has an odd rank; a new one the least above those of its clock's variables
  rank : ℕ → ℕ
  rank y = if nat_lt y N then old_rank y else over old_rank (clock_of F.decls y)

  rank_old : (y : ℕ) → y < N → rank y ≡ old_rank y
  unfolding rank
  rank_old y h = ap (λ b. if b then old_rank y else over old_rank (clock_of F.decls y)) is_below
    where
      is_below : nat_lt y N ≡ true
      is_below = grind (arith, nat_tests)

  rank_new : (y : ℕ) → N ≤ y → rank y ≡ over old_rank (clock_of F.decls y)
  unfolding rank
  rank_new y h = ap (λ b. if b then old_rank y else over old_rank (clock_of F.decls y)) not_below
    where
      not_below : nat_lt y N ≡ false
      not_below = grind (arith, nat_tests)

  abbrev Old : ℕ → ℕ → Type 0
  Old x y = (y < N) × (place y < place x)

  hold : (x : ℕ) → x < N → (y : ℕ) → Old x y → rank y < rank x
  hold x d y o = let p = rank_old x d in let q = rank_old y o.0 in omega (arith, p, q, o.1)

  new : (x : ℕ) → x < N → (z : ℕ) (ck : ClockPairs) → N ≤ z → clock_of F.decls z ≡ ck → EachClockVar (Old x) ck → rank z < rank x
  new x d z ck l c k =
      let p = rank_old x d in
      let q = rank_new z l ∙ ap (over old_rank) c in
      let m = over_least old_rank ck (place x + place x) (each_clock_map (Old x) (λ y. suc (old_rank y) ≤ place x + place x) (λ y o. omega (arith, o.1)) ck k) in
      omega (arith, p, q, m)

  old_clocks : (x : ℕ) (e : Expression) → right_of f.eqs x ≡ Some e → EachClockVar (Old x) (clock_of f.decls x)
  old_clocks x e h =
      both_clocks (λ c. c < N) (λ c. place c < place x) (clock_of f.decls x) (well_below f.decls (clock_of f.decls x) (clocked.clocks x)) (order.ranked.clocks_before x e h)

  abbrev Facts : ℕ → Expression → Type 0
  Facts x e = EachRead (λ y. rank y < rank x) e × EachClockVar (λ y. rank y < rank x) (clock_of F.decls x)

  old_facts : (x : ℕ) (e : Expression) → x < N → right_of f.eqs x ≡ Some e → (n : ℕ) → N ≤ n → Stand F n (right_fresh n (clock_of f.decls x) e) → Facts x (right_lifted n e)
  old_facts x e d q n l s =
      let below = right_all (λ a. VarsBelow N a.1) f.eqs good.rights x e q in
      let r = both_reads (λ y. place y < place x) N e (order.ranked.reads_before x e q) below in (
        reads_right F N (Old x) (λ y. rank y < rank x) (hold x d) (new x d) e n (clock_of f.decls x) l (simple x e q) s r (old_clocks x e q),
        subst (EachClockVar (λ y. rank y < rank x)) (sym (lift_clocks f good x d)) (each_clock_map (Old x) (λ y. rank y < rank x) (hold x d) (clock_of f.decls x) (old_clocks x e q)),
      )

  new_facts : (z : ℕ) (r : Delay) → N ≤ z → WellFormed f.decls r.0 → clock_of F.decls z ≡ r.0 → EachClockVar (λ y. rank y < rank z) (clock_of F.decls z)
  new_facts z r l w c =
      let low = subst (EachClockVar (λ c. c < N)) (sym c) (well_below f.decls r.0 w) in
      let o = over_all old_rank (clock_of F.decls z) (rank z) (let p = rank_new z l in omega (arith, p)) in
      each_clock_map (λ c. (c < N) × (old_rank c < rank z)) (λ y. rank y < rank z) (λ y k. let p = rank_old y k.0 in omega (arith, p, k.1)) (clock_of F.decls z) (both_clocks (λ c. c < N) (λ c. old_rank c < rank z) (clock_of F.decls z) low o)

  facts : (x : ℕ) (e : Expression) → right_of F.eqs x ≡ Some e → Facts x e
  facts = each_equation f good Facts (λ r. WellFormed f.decls r.0) old_facts wells (λ z r l w c t. (tt, new_facts z r l w c))

  lift_ranked : Ranked F rank
  lift_ranked = record { reads_before = λ x e h. (facts x e h).0; clocks_before = λ x e h. (facts x e h).1 }

  pub lift_causal : Causal F
  lift_causal = causal_from_ranks F rank lift_ranked
