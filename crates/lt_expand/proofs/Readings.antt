-- What an expression with copies reads.
use Rattle.std.proofs.Common.{ℕ, ◌+◌, ◌<◌, ◌≤◌, true, false, List, [], ◌∷◌, length, arith}
use Rattle.lt_base.specs.declared.function.Decl.{Decl}
use Rattle.lt_base.specs.Expression.{Expression, literal, variable, unary, binary, imported, choose, sampled, merged, delayed, follow, arrow, call, Arguments, no_arguments, argument}
use Rattle.lt_base.specs.Program.{Function, VarsBelow, ArgumentVarsBelow}
use Rattle.lt_base.specs.Meaning.{ClockPairs, outer}
use Rattle.lt_base.specs.Clocking.{Clocked, ArgumentsClocked}
use Rattle.lt_base.specs.Order.{EachRead, EachArgumentRead, EachClockVar}
use Rattle.lt_base.specs.Placed.{renamed, arguments_renamed}
use Rattle.lt_expand.specs.Copies.{raise, first_or_zero, Library, Copy, grown, arguments_grown, inlined, arguments_inlined, copies, arguments_copies}
use Rattle.lt_expand.proofs.Standing.{Each}
use Rattle.lt_expand.proofs.Filled.{each_left, each_right}

-- ---- under other numbers

mutual
  pub copy_reads : (Q P : ℕ → Type 0) (n m : ℕ) → ((y : ℕ) → y < n → Q y → P (y + m)) → (e : Expression) → VarsBelow n e → EachRead Q e → EachRead P (renamed (raise m) e)
  copy_reads Q P n m h (literal v) b r = tt
  copy_reads Q P n m h (variable x) b r = h x b r
  copy_reads Q P n m h (unary o a) b r = copy_reads Q P n m h a b r
  copy_reads Q P n m h (binary o a c) b r = (copy_reads Q P n m h a b.0 r.0, copy_reads Q P n m h c b.1 r.1)
  copy_reads Q P n m h (imported o a c) b r = (copy_reads Q P n m h a b.0 r.0, copy_reads Q P n m h c b.1 r.1)
  copy_reads Q P n m h (choose d a c) b r = (copy_reads Q P n m h d b.0 r.0, copy_reads Q P n m h a b.1 r.1, copy_reads Q P n m h c b.2 r.2)
  copy_reads Q P n m h (sampled e c t) b r = (copy_reads Q P n m h e b.0 r.0, h c b.1 r.1)
  copy_reads Q P n m h (merged c a d) b r = (h c b.0 r.0, copy_reads Q P n m h a b.1 r.1, copy_reads Q P n m h d b.2 r.2)
  copy_reads Q P n m h (delayed v e) b r = tt
  copy_reads Q P n m h (follow a c) b r = copy_reads Q P n m h a b.0 r
  copy_reads Q P n m h (arrow a c) b r = (copy_reads Q P n m h a b.0 r.0, copy_reads Q P n m h c b.1 r.1)
  copy_reads Q P n m h (call g args) b r = copy_arguments_reads Q P n m h args b r

  pub copy_arguments_reads : (Q P : ℕ → Type 0) (n m : ℕ) → ((y : ℕ) → y < n → Q y → P (y + m)) → (args : Arguments) → ArgumentVarsBelow n args → EachArgumentRead Q args → EachArgumentRead P (arguments_renamed (raise m) args)
  copy_arguments_reads Q P n m h no_arguments b r = tt
  copy_arguments_reads Q P n m h (argument e args) b r = (copy_reads Q P n m h e b.0 r.0, copy_arguments_reads Q P n m h args b.1 r.1)

-- ---- the variables of a clocked expression are declared

module _ (fs : List Function) (ds : List Decl) where
  mutual
    pub clocked_reads : (e : Expression) (ck : ClockPairs) → Clocked fs ds e ck → EachRead (λ y. y < length ds) e
    clocked_reads (literal v) ck k = tt
    clocked_reads (variable x) ck k = k.0
    clocked_reads (unary o a) ck k = clocked_reads a ck k
    clocked_reads (binary o a b) ck k = (clocked_reads a ck k.0, clocked_reads b ck k.1)
    clocked_reads (imported o a b) ck k = (clocked_reads a ck k.0, clocked_reads b ck k.1)
    clocked_reads (choose c a b) ck k = (clocked_reads c ck k.0, clocked_reads a ck k.1, clocked_reads b ck k.2)
    clocked_reads (sampled e c b) [] k = elim k [ ]
    clocked_reads (sampled e c b) ((d, a) ∷ ck) k = (clocked_reads e ck k.2.2, k.2.0)
    clocked_reads (merged c a b) ck k = (k.0, clocked_reads a ((c, true) ∷ ck) k.2, clocked_reads b ((c, false) ∷ ck) k.3)
    clocked_reads (delayed v e) ck k = tt
    clocked_reads (follow a b) ck k = clocked_reads a ck k.0
    clocked_reads (arrow a b) ck k = (clocked_reads a ck k.0, clocked_reads b ck k.1)
    clocked_reads (call g args) ck k = clocked_arguments_reads args ck k.1

    pub clocked_arguments_reads : (args : Arguments) (ck : ClockPairs) → ArgumentsClocked fs ds args ck → EachArgumentRead (λ y. y < length ds) args
    clocked_arguments_reads no_arguments ck k = tt
    clocked_arguments_reads (argument e args) ck k = (clocked_reads e ck k.0, clocked_arguments_reads args ck k.1)

-- ---- with copies

outer_each : (P : ℕ → Type 0) (ck : ClockPairs) → EachClockVar P ck → EachClockVar P (outer ck)
outer_each P [] k = tt
outer_each P ((c, b) ∷ ck) k = k.1

-- P K y: a fact of the variable y, weaker for a greater K; the copies that begin below number n have it for n
module _ (lib : Library) (S : Copy → Type 0) (N : ℕ) (Old : ℕ → Type 0) (P : ℕ → ℕ → Type 0) (low : (c : Copy) → S c → N ≤ c.from) (hold : (K y : ℕ) → N ≤ K → Old y → P K y) (new : (c : Copy) (K : ℕ) → S c → EachArgumentRead (P c.from) c.inputs → EachClockVar Old c.clock → c.from + length c.source.decls ≤ K → P K (first_or_zero c.source.outs + c.from)) where
  mutual
    pub reads_inlined : (e : Expression) (n K : ℕ) (ck : ClockPairs) → N ≤ K → n + grown lib e ≤ K → Each S (copies lib n ck e) → EachRead Old e → EachClockVar Old ck → EachRead (P K) (inlined lib n e)
    reads_inlined (literal v) n K ck l m s r k = tt
    reads_inlined (variable x) n K ck l m s r k = hold K x l r
    reads_inlined (unary o a) n K ck l m s r k = reads_inlined a n K ck l m s r k
    reads_inlined (binary o a b) n K ck l m s r k =
        (reads_inlined a n K ck l (omega arith) (each_left S (copies lib n ck a) _ s) r.0 k, reads_inlined b (n + grown lib a) K ck l (omega arith) (each_right S (copies lib n ck a) _ s) r.1 k)
    reads_inlined (imported o a b) n K ck l m s r k =
        (reads_inlined a n K ck l (omega arith) (each_left S (copies lib n ck a) _ s) r.0 k, reads_inlined b (n + grown lib a) K ck l (omega arith) (each_right S (copies lib n ck a) _ s) r.1 k)
    reads_inlined (choose c a b) n K ck l m s r k =
        let s' = each_right S (copies lib n ck c) _ s in (
          reads_inlined c n K ck l (omega arith) (each_left S (copies lib n ck c) _ s) r.0 k,
          reads_inlined a (n + grown lib c) K ck l (omega arith) (each_left S (copies lib (n + grown lib c) ck a) _ s') r.1 k,
          reads_inlined b ((n + grown lib c) + grown lib a) K ck l (omega arith) (each_right S (copies lib (n + grown lib c) ck a) _ s') r.2 k,
        )
    reads_inlined (sampled e c b) n K ck l m s r k = (reads_inlined e n K (outer ck) l m s r.0 (outer_each Old ck k), hold K c l r.1)
    reads_inlined (merged c a b) n K ck l m s r k = (
      hold K c l r.0,
      reads_inlined a n K ((c, true) ∷ ck) l (omega arith) (each_left S (copies lib n ((c, true) ∷ ck) a) _ s) r.1 (r.0, k),
      reads_inlined b (n + grown lib a) K ((c, false) ∷ ck) l (omega arith) (each_right S (copies lib n ((c, true) ∷ ck) a) _ s) r.2 (r.0, k),
    )
    reads_inlined (delayed v e) n K ck l m s r k = tt
    reads_inlined (follow a b) n K ck l m s r k = reads_inlined a n K ck l (omega arith) (each_left S (copies lib n ck a) _ s) r k
    reads_inlined (arrow a b) n K ck l m s r k =
        (reads_inlined a n K ck l (omega arith) (each_left S (copies lib n ck a) _ s) r.0 k, reads_inlined b (n + grown lib a) K ck l (omega arith) (each_right S (copies lib n ck a) _ s) r.1 k)
    reads_inlined (call g args) n K ck l m s r k =
        let c : Copy = record { from = n + arguments_grown lib args; clock = ck; source = lib g; inputs = arguments_inlined lib n args } in
        let own = (each_right S (arguments_copies lib n ck args) _ s).0 in
        new c K own (arguments_reads_inlined args n (n + arguments_grown lib args) ck (low c own) (omega arith) (each_left S (arguments_copies lib n ck args) _ s) r k) k (omega arith)

    pub arguments_reads_inlined : (args : Arguments) (n K : ℕ) (ck : ClockPairs) → N ≤ K → n + arguments_grown lib args ≤ K → Each S (arguments_copies lib n ck args) → EachArgumentRead Old args → EachClockVar Old ck → EachArgumentRead (P K) (arguments_inlined lib n args)
    arguments_reads_inlined no_arguments n K ck l m s r k = tt
    arguments_reads_inlined (argument e args) n K ck l m s r k =
        (reads_inlined e n K ck l (omega arith) (each_left S (copies lib n ck e) _ s) r.0 k, arguments_reads_inlined args (n + grown lib e) K ck l (omega arith) (each_right S (copies lib n ck e) _ s) r.1 k)
