-- A function with copies of causal functions in place of its calls is causal.
use Rattle.std.proofs.Common.{◌≡◌, ℕ, zero, suc, ◌+◌, ◌-◌, ◌<◌, ◌≤◌, true, false, List, [], ◌∷◌, ◌++◌, length, All, Option, Some, None, refl, sym, ap, ◌∙◌, subst, arith, ⊎_elim}
use Rattle.std.specs.Prelude.{nat_lt, nat_le, if◌then◌else◌}
use Rattle.std.proofs.lemmas.List.Elements.{All-nil, All-cons}
use Rattle.std.proofs.lemmas.Bool.Decides.{nat_tests}
use Rattle.lt_base.specs.Expression.{Expression, call, Arguments, no_arguments, argument}
use Rattle.lt_base.specs.Program.{Function, GoodFunction, VarsBelow}
use Rattle.lt_base.specs.Meaning.{ClockPairs, clock_of, right_of}
use Rattle.lt_base.specs.Clocking.{ClockedFunction}
use Rattle.lt_base.specs.Dependence.{has, arguments_reads, clock_vars, Causal}
use Rattle.lt_base.specs.Order.{EachRead, EachArgumentRead, EachClockVar, Ordered}
use Rattle.lt_base.specs.Placed.{below}
use Rattle.lt_base.specs.Checked.{argument_count}
use Rattle.lt_base.proofs.Reading.{each_at, each_argument_at, each_clock_at, each_from, each_argument_from, each_clock_from, each_map, each_clock_map, has_front, has_back, has_cases, has_one, members_first, members_rest}
use Rattle.lt_base.proofs.Order.{place_of, ordered, causal_from_ranks}
use Rattle.lt_base.proofs.Lookups.{right_all, left_below}
use Rattle.lt_expand.proofs.Basics.{well_below}
use Rattle.lt_expand.specs.Copies.{raise, first_or_zero, Library, Copy, grown, arguments_grown, inlined, arguments_inlined, copies, arguments_copies, input_equations, equations_copies, with_copies}
use Rattle.lt_expand.proofs.Standing.{Each, Stands, Numbered}
use Rattle.lt_expand.proofs.Filled.{each_copy_map, each_both, numbered_low}
use Rattle.lt_expand.proofs.Counted.{Countable}
use Rattle.lt_expand.proofs.Told.{base_at}
use Rattle.lt_expand.proofs.Inherited.{each_equation_copy}
use Rattle.lt_expand.proofs.Opened.{opened_more, opened_numbers, opened_stand, opened_clocks}
use Rattle.lt_expand.proofs.Equations.{Fitted, Used, Equations, each_equation}
use Rattle.lt_expand.proofs.Clocks.{AtClock, ArgumentsAtClock, clock_inherited, at_clocks, CopyClocked, copies_clocked}
use Rattle.lt_expand.proofs.Pigeons.{equations_few}
use Rattle.lt_expand.proofs.Readings.{copy_reads, clocked_reads, clocked_arguments_reads, reads_inlined, arguments_reads_inlined}

-- ---- the least number above those of a list

larger : ℕ → ℕ → ℕ
larger a b = if nat_le a b then b else a

larger_left : (a b : ℕ) → a ≤ larger a b
unfolding larger
larger_left a b = grind (arith, nat_tests)

larger_right : (a b : ℕ) → b ≤ larger a b
unfolding larger
larger_right a b = grind (arith, nat_tests)

larger_least : (a b m : ℕ) → a ≤ m → b ≤ m → larger a b ≤ m
unfolding larger
larger_least a b m p q = grind (arith, nat_tests)

abbrev above : (ℕ → ℕ) → List ℕ → ℕ
above r [] = 0
above r (x ∷ xs) = larger (suc (r x)) (above r xs)

above_all : (r : ℕ → ℕ) (xs : List ℕ) (y : ℕ) → has y xs ≡ true → r y < above r xs
above_all r [] y h = absurd (cc)
above_all r (x ∷ xs) y h =
    let p = larger_left (suc (r x)) (above r xs) in
    let q = larger_right (suc (r x)) (above r xs) in
    has_one (λ z. r z < above r (x ∷ xs)) x xs y h (omega (arith, p)) (λ k. let l = above_all r xs y k in omega (arith, l, q))

above_least : (r : ℕ → ℕ) (xs : List ℕ) (m : ℕ) → ((y : ℕ) → has y xs ≡ true → r y < m) → above r xs ≤ m
above_least r [] m h = omega arith
above_least r (x ∷ xs) m h =
    larger_least (suc (r x)) (above r xs) m (let l = members_first (λ y. r y < m) x xs h in omega (arith, l)) (above_least r xs m (members_rest (λ y. r y < m) x xs h))

above_same : (r r' : ℕ → ℕ) (xs : List ℕ) → ((y : ℕ) → has y xs ≡ true → r y ≡ r' y) → above r xs ≡ above r' xs
above_same r r' [] h = refl
above_same r r' (x ∷ xs) h =
    let p = members_first (λ y. r y ≡ r' y) x xs h in
    let q = above_same r r' xs (members_rest (λ y. r y ≡ r' y) x xs h) in
    λ i. larger (suc (p i)) (q i)

-- ---- the ranks in a copy

-- what its inputs and its clock read
abbrev copy_reads_of : Copy → List ℕ
copy_reads_of c = arguments_reads c.inputs ++ clock_vars c.clock

abbrev top : (ℕ → ℕ) → Copy → ℕ
top r c = above r (copy_reads_of c)

abbrev offset_by : Option Expression → ℕ → ℕ
offset_by None p = 0
offset_by (Some e) p = p

-- an input is at the top, any other variable as far from it as its place is
abbrev offset : Copy → (ℕ → ℕ) → ℕ → ℕ
offset c place v = offset_by (right_of c.source.eqs v) (place v)

-- a source with an order of its equations
record Placing (c : Copy) : Type 0 where
  pub place : ℕ → ℕ
  pub order : Ordered c.source place

offset_le : (c : Copy) (p : Placing c) (v : ℕ) → offset c p.place v ≤ length c.source.eqs
offset_le c p v = go (right_of c.source.eqs v) refl
  where
    go : (o : Option Expression) → right_of c.source.eqs v ≡ o → offset_by o (p.place v) ≤ length c.source.eqs
    go None e = omega arith
    go (Some a) e = p.order.within v a e

offset_at_most : (c : Copy) (p : Placing c) (v : ℕ) → offset c p.place v ≤ p.place v
offset_at_most c p v = go (right_of c.source.eqs v)
  where
    go : (o : Option Expression) → offset_by o (p.place v) ≤ p.place v
    go None = omega arith
    go (Some a) = omega arith

offset_is : (c : Copy) (p : Placing c) (v : ℕ) (e : Expression) → right_of c.source.eqs v ≡ Some e → offset c p.place v ≡ p.place v
offset_is c p v e h = ap (λ o. offset_by o (p.place v)) h

-- ---- ranks of all variables, copy by copy

abbrev in_copy : (ℕ → ℕ) → (c : Copy) → Placing c → ℕ → ℕ
in_copy r c p z = if nat_lt z c.from then r z else top r c + offset c p.place (z - c.from)

abbrev ranks : (ℕ → ℕ) → (cs : List Copy) → Each Placing cs → ℕ → ℕ
ranks r [] ps = r
ranks r (c ∷ cs) ps = ranks (in_copy r c ps.0) cs ps.1

in_below : (r : ℕ → ℕ) (c : Copy) (p : Placing c) (z : ℕ) → z < c.from → in_copy r c p z ≡ r z
in_below r c p z h = ap (λ b. if b then r z else top r c + offset c p.place (z - c.from)) is_below
  where
    is_below : nat_lt z c.from ≡ true
    is_below = grind (arith, nat_tests)

in_above : (r : ℕ → ℕ) (c : Copy) (p : Placing c) (v : ℕ) → in_copy r c p (v + c.from) ≡ top r c + offset c p.place v
in_above r c p v =
    ap (λ b. if b then r (v + c.from) else top r c + offset c p.place ((v + c.from) - c.from)) not_below ∙ ap (λ k. top r c + offset c p.place k) (omega arith)
  where
    not_below : nat_lt (v + c.from) c.from ≡ false
    not_below = grind (arith, nat_tests)

ranks_before : (r : ℕ → ℕ) (cs : List Copy) (ps : Each Placing cs) (n z : ℕ) → Numbered n cs → z < n → ranks r cs ps z ≡ r z
ranks_before r [] ps n z m h = refl
ranks_before r (c ∷ cs) ps n z m h =
    ranks_before (in_copy r c ps.0) cs ps.1 (n + length c.source.decls) z m.1 (omega arith) ∙ in_below r c ps.0 z (let q = m.0 in omega (arith, q, h))

-- the variables of a copy have the ranks of its places, above all that its inputs and its clock read
record Topped (r : ℕ → ℕ) (c : Copy) : Type 0 where
  pub placing : Placing c
  pub are : (v : ℕ) → v < length c.source.decls → r (v + c.from) ≡ top r c + offset c placing.place v

-- what a copy reads comes before it
abbrev ReadsBefore : Copy → Type 0
ReadsBefore c = (y : ℕ) → has y (copy_reads_of c) ≡ true → y < c.from

all_topped : (r : ℕ → ℕ) (cs : List Copy) (ps : Each Placing cs) (n : ℕ) → Numbered n cs → Each ReadsBefore cs → Each (Topped (ranks r cs ps)) cs
all_topped r [] ps n m b = tt
all_topped r (c ∷ cs) ps n m b =
    let r' = in_copy r c ps.0 in
    let q = m.0 in
    let same : (y : ℕ) → has y (copy_reads_of c) ≡ true → r y ≡ ranks r' cs ps.1 y =
    λ y h. let l = b.0 y h in sym (ranks_before r' cs ps.1 (n + length c.source.decls) y m.1 (omega (arith, q, l)) ∙ in_below r c ps.0 y l) in (
      record {
        placing = ps.0;
        are = λ v l. ranks_before r' cs ps.1 (n + length c.source.decls) (v + c.from) m.1 (omega (arith, q, l)) ∙ in_above r c ps.0 v ∙ ap (λ k. k + offset c ps.0.place v) (above_same r (ranks r' cs ps.1) (copy_reads_of c) same);
      },
      all_topped r' cs ps.1 (n + length c.source.decls) m.1 b.1,
    )

-- ---- multiples

abbrev times : ℕ → ℕ → ℕ
times M zero = 0
times M (suc k) = M + times M k

times_most : (M j k : ℕ) → j ≤ k → times M j ≤ times M k
times_most M zero k h = omega arith
times_most M (suc j) zero h = absurd (omega arith)
times_most M (suc j) (suc k) h = let l = times_most M j k (omega arith) in omega (arith, l)

-- ---- two facts of each read

both_reads : (P Q : ℕ → Type 0) (e : Expression) → EachRead P e → EachRead Q e → EachRead (λ y. P y × Q y) e
both_reads P Q e p q = each_from (λ y. P y × Q y) e (λ y m. (each_at P e p y m, each_at Q e q y m))

both_clocks : (P Q : ℕ → Type 0) (ck : ClockPairs) → EachClockVar P ck → EachClockVar Q ck → EachClockVar (λ c. P c × Q c) ck
both_clocks P Q [] p q = tt
both_clocks P Q ((c, b) ∷ ck) p q = ((p.0, q.0), both_clocks P Q ck p.1 q.1)

below_clock : (P : ℕ → Type 0) (m : ℕ) (k ck : ClockPairs) → EachClockVar (λ x. P (x + m)) k → EachClockVar P ck → EachClockVar P (below (raise m) k ck)
below_clock P m [] ck p q = q
below_clock P m ((c, b) ∷ k) ck p q = (p.0, below_clock P m k ck p.1 q)

-- ---- the function

module _ (lib : Library) (fs : List Function) (f : Function) (good : GoodFunction f) (clocked : ClockedFunction fs f) (causal : Causal f) (used : (x : ℕ) (e : Expression) → right_of f.eqs x ≡ Some e → Used fs lib e) (countable : Each Countable (equations_copies lib f.decls (length f.decls) f.eqs)) (fitted : Each (Fitted fs) (equations_copies lib f.decls (length f.decls) f.eqs)) where
  abbrev N : ℕ
  N = length f.decls

  abbrev F : Function
  F = with_copies lib f

  abbrev cs : List Copy
  cs = equations_copies lib f.decls N f.eqs

  abbrev M : ℕ
  M = suc (length F.decls + length F.decls)

  abbrev place : ℕ → ℕ
  place = place_of f causal

  order : Ordered f place
  order = ordered f causal

  placings : Each Placing cs
  placings = each_copy_map (Fitted fs) Placing (λ c k. record { place = place_of c.source k.fits.causal; order = ordered c.source k.fits.causal }) cs fitted

  abbrev old_rank : ℕ → ℕ
  old_rank y = times M (place y)

  rank : ℕ → ℕ
  rank = ranks old_rank cs placings

  numbers : Numbered N cs
  numbers = opened_numbers lib f good countable

  rank_old : (y : ℕ) → y < N → rank y ≡ old_rank y
  unfolding rank
  rank_old y h = ranks_before old_rank cs placings N y numbers h

  -- ---- what a copy reads comes before it

  abbrev Late : Copy → Type 0
  Late c = N ≤ c.from

  late : Each Late cs
  late = numbered_low N N cs (omega arith) numbers

  abbrev FittedLate : Copy → Type 0
  FittedLate c = Fitted fs c × Late c

  out_below : (c : Copy) (K : ℕ) → FittedLate c → EachArgumentRead (λ y. y < c.from) c.inputs → EachClockVar (λ y. y < N) c.clock → c.from + length c.source.decls ≤ K → first_or_zero c.source.outs + c.from < K
  out_below c K k r q h = let o = k.0.fits.out_declared in omega (arith, o, h)

  before_here : (ck : ClockPairs) (g : ℕ) (args : Arguments) (n : ℕ) → AtClock fs lib f.decls ck (call g args) → Each FittedLate (arguments_copies lib n ck args) → let c : Copy = record { from = n + arguments_grown lib args; clock = ck; source = lib g; inputs = arguments_inlined lib n args } in Late c → ReadsBefore c
  before_here ck g args n h s l =
      let m = n + arguments_grown lib args in
      let low = well_below f.decls ck h.1 in
      let r = arguments_reads_inlined lib FittedLate N (λ y. y < N) (λ K y. y < K) (λ c k. k.1) (λ K y a b. omega (arith, a, b)) out_below args n m ck l (omega arith) s (clocked_arguments_reads fs f.decls args ck h.2.1) low in
      λ y q. ⊎_elim (each_argument_at (λ y. y < m) (arguments_inlined lib n args) r y) (λ k. let b = each_clock_at (λ y. y < N) ck low y k in omega (arith, b, l)) (has_cases y (arguments_reads (arguments_inlined lib n args)) (clock_vars ck) q)

  before : Each ReadsBefore cs
  before =
      let facts = each_both (Fitted fs) Late cs fitted late in
      let b = each_equation_copy lib FittedLate (AtClock fs lib f.decls) (ArgumentsAtClock fs lib f.decls) (clock_inherited fs lib f.decls) (λ c. Late c → ReadsBefore c) before_here f.decls N f.eqs (at_clocks lib fs f good clocked used countable fitted) facts in
      each_copy_map (λ c. (Late c → ReadsBefore c) × Late c) ReadsBefore (λ c k. k.0 k.1) cs (each_both (λ c. Late c → ReadsBefore c) Late cs b late)

  topped : Each (Topped rank) cs
  unfolding rank
  topped = all_topped old_rank cs placings N numbers before

  -- ---- the ranks in copies are bounded by those of what is read outside

  abbrev Ready : Copy → Type 0
  Ready c = FittedLate c × Topped rank c

  ready : Each Ready cs
  ready = each_both FittedLate (Topped rank) cs (each_both (Fitted fs) Late cs fitted late) topped

  module _ (p : ℕ) where
    abbrev B : ℕ
    B = times M p

    abbrev Old : ℕ → Type 0
    Old y = (y < N) × (place y ≤ p)

    abbrev Bounded : ℕ → ℕ → Type 0
    Bounded K y = rank y ≤ B + (K + K)

    old_most : (y : ℕ) → Old y → rank y ≤ B
    old_most y o = let q = rank_old y o.0 in let l = times_most M (place y) p o.1 in omega (arith, q, l)

    hold : (K y : ℕ) → N ≤ K → Old y → Bounded K y
    hold K y l o = let b = old_most y o in omega (arith, b)

    top_most : (c : Copy) → EachArgumentRead (Bounded c.from) c.inputs → EachClockVar Old c.clock → top rank c ≤ suc (B + (c.from + c.from))
    top_most c r k =
        above_least rank (copy_reads_of c) (suc (B + (c.from + c.from)))
        (λ y h. ⊎_elim (λ q. let b = each_argument_at (Bounded c.from) c.inputs r y q in omega (arith, b)) (λ q. let b = old_most y (each_clock_at Old c.clock k y q) in omega (arith, b)) (has_cases y (arguments_reads c.inputs) (clock_vars c.clock) h))

    new : (c : Copy) (K : ℕ) → Ready c → EachArgumentRead (Bounded c.from) c.inputs → EachClockVar Old c.clock → c.from + length c.source.decls ≤ K → Bounded K (first_or_zero c.source.outs + c.from)
    new c K s r k h =
        let fits = s.0.0.fits in
        let o = fits.out_declared in
        let t = s.1.are (first_or_zero c.source.outs) o in
        let a = top_most c r k in
        let b = offset_le c s.1.placing (first_or_zero c.source.outs) in
        let e = equations_few c.source fits.good in
        omega (arith, t, a, b, e, o, h)

    reads_bounded : (e : Expression) (n : ℕ) (ck : ClockPairs) → N ≤ length F.decls → n + grown lib e ≤ length F.decls → Each Ready (copies lib n ck e) → EachRead Old e → EachClockVar Old ck → EachRead (Bounded (length F.decls)) (inlined lib n e)
    reads_bounded e n ck l m s r k = reads_inlined lib Ready N Old Bounded (λ c s. s.0.1) hold new e n (length F.decls) ck l m s r k

  -- ---- every equation

  abbrev Facts : ℕ → Expression → Type 0
  Facts x e = EachRead (λ y. rank y < rank x) e × EachClockVar (λ y. rank y < rank x) (clock_of F.decls x)

  low : N ≤ length F.decls
  low = let l = opened_more lib f good countable in omega (arith, l)

  old_facts : (x : ℕ) (e : Expression) → x < N → right_of f.eqs x ≡ Some e → (n : ℕ) → n + grown lib e ≤ length F.decls → Each Ready (copies lib n (clock_of f.decls x) e) → Facts x (inlined lib n e)
  old_facts x e d h n m s = go (place x) refl
    where
      go : (q : ℕ) → place x ≡ q → Facts x (inlined lib n e)
      go zero q = let l = order.later x e h in absurd (omega (arith, q, l))
      go (suc p) q =
          let own : rank x ≡ M + times M p = rank_old x d ∙ ap (times M) q in
          let r = each_map (λ y. (y < N) × (place y < place x)) (Old p) (λ y o. (o.0, omega (arith, o.1, q))) e (both_reads (λ y. y < N) (λ y. place y < place x) e (clocked_reads fs f.decls e (clock_of f.decls x) (clocked.rights x e h)) (order.ranked.reads_before x e h)) in
          let k = each_clock_map (λ y. (y < N) × (place y < place x)) (Old p) (λ y o. (o.0, omega (arith, o.1, q))) (clock_of f.decls x) (both_clocks (λ y. y < N) (λ y. place y < place x) (clock_of f.decls x) (well_below f.decls (clock_of f.decls x) (clocked.clocks x)) (order.ranked.clocks_before x e h)) in (
            each_map (Bounded p (length F.decls)) (λ y. rank y < rank x) (λ y b. omega (arith, b, own)) (inlined lib n e) (reads_bounded p e n (clock_of f.decls x) low m s r k),
            subst (EachClockVar (λ y. rank y < rank x)) (sym (opened_clocks lib f good countable x d)) (each_clock_map (Old p) (λ y. rank y < rank x) (λ y o. let b = old_most p y o in omega (arith, b, own)) (clock_of f.decls x) k),
          )

  abbrev Copied : Copy → Type 0
  Copied c = (Stands F c × Ready c) × CopyClocked lib fs f good clocked used countable fitted c

  copied : Each Copied cs
  copied =
      each_both (λ c. Stands F c × Ready c) (CopyClocked lib fs f good clocked used countable fitted) cs (each_both (Stands F) Ready cs (opened_stand lib f good countable) ready) (copies_clocked lib fs f good clocked used countable fitted)

  inputs_facts : (c : ℕ) (k : ClockPairs) (n : ℕ) (args : Arguments) → ((i : ℕ) → i < argument_count args → (clock_of F.decls (i + n) ≡ k) × (c ≤ rank (i + n))) → EachArgumentRead (λ y. rank y < c) args → EachClockVar (λ y. rank y < c) k → All (λ q. Facts q.0 q.1) (input_equations n args)
  inputs_facts c k n no_arguments h r v = All-nil (λ q. Facts q.0 q.1)
  inputs_facts c k n (argument e args) h r v =
      let own = h 0 (omega arith) in
      let same : clock_of F.decls n ≡ k = ap (clock_of F.decls) (omega arith) ∙ own.0 in
      let over : c ≤ rank n = subst (λ j. c ≤ rank j) (omega arith) own.1 in
      All-cons (λ q. Facts q.0 q.1) (n, e) (input_equations (suc n) args)
      (each_map (λ y. rank y < c) (λ y. rank y < rank n) (λ y b. omega (arith, b, over)) e r.0, subst (EachClockVar (λ y. rank y < rank n)) (sym same) (each_clock_map (λ y. rank y < c) (λ y. rank y < rank n) (λ y b. omega (arith, b, over)) k v))
      (inputs_facts c k (suc n) args (λ i l. let o = h (suc i) (omega (arith, l)) in (ap (clock_of F.decls) (omega arith) ∙ o.0, subst (λ j. c ≤ rank j) (omega arith) o.1)) r.1 v)

  copy_facts : (c : Copy) → Copied c → Equations Facts c
  copy_facts c k =
      let d = k.0.0.declared in
      let fits = k.0.1.0.0.fits in
      let t = k.0.1.1 in
      let p = t.placing in
      let i = fits.good.inputs in
      let a = fits.arity in
      let inner = above_all rank (copy_reads_of c) in
      let args = each_argument_from (λ y. rank y < top rank c) c.inputs (λ y m. inner y (has_front y (arguments_reads c.inputs) (clock_vars c.clock) m)) in
      let clk = each_clock_from (λ y. rank y < top rank c) c.clock (λ y m. inner y (has_back y (arguments_reads c.inputs) (clock_vars c.clock) m)) in
      record {
        good = fits.good;
        inputs = inputs_facts (top rank c) c.clock c.from c.inputs (λ j l. let b : j < length c.source.decls = omega (arith, l, i, a) in (d.clocks j b ∙ ap (λ z. below (raise c.from) z c.clock) (base_at c.source.decls c.source.n_in j fits.good.inputs_on_base (omega (arith, a, l))), let q = t.are j b in omega (arith, q))) args clk;
        rights = λ x e h.
            let b = left_below c.source fits.good x e h in
            let own = t.are x b in
            let off = offset_is c p x e h in
            let lower : (y : ℕ) → y < length c.source.decls → p.place y < p.place x → rank (y + c.from) < rank (x + c.from) = λ y l q. let r = t.are y l in let z = offset_at_most c p y in omega (arith, r, z, own, off, q) in (
              copy_reads (λ y. p.place y < p.place x) (λ y. rank y < rank (x + c.from)) (length c.source.decls) c.from lower e (right_all (λ q. VarsBelow (length c.source.decls) q.1) c.source.eqs fits.good.rights x e h) (p.order.ranked.reads_before x e h),
              subst (EachClockVar (λ y. rank y < rank (x + c.from))) (sym (d.clocks x b))
                  (below_clock (λ y. rank y < rank (x + c.from)) c.from (clock_of c.source.decls x) c.clock
                  (each_clock_map (λ y. (y < length c.source.decls) × (p.place y < p.place x)) (λ y. rank (y + c.from) < rank (x + c.from)) (λ y o. lower y o.0 o.1) (clock_of c.source.decls x) (both_clocks (λ y. y < length c.source.decls) (λ y. p.place y < p.place x) (clock_of c.source.decls x) (well_below c.source.decls (clock_of c.source.decls x) (fits.clocked.clocks x)) (p.order.ranked.clocks_before x e h)))
                  (each_clock_map (λ y. rank y < top rank c) (λ y. rank y < rank (x + c.from)) (λ y o. omega (arith, o, own)) c.clock clk)),
            );
      }

  facts : (x : ℕ) (e : Expression) → right_of F.eqs x ≡ Some e → Facts x e
  facts = each_equation lib f good countable Ready ready Facts old_facts (each_copy_map Copied (Equations Facts) copy_facts cs copied)

  pub opened_causal : Causal F
  opened_causal = causal_from_ranks F rank (record { reads_before = λ x e h. (facts x e h).0; clocks_before = λ x e h. (facts x e h).1 })
