-- What a function keeps with flags and delays in place of `->` and of every `fby` without a literal.
use Rattle.std.proofs.Common.{◌≡◌, ℕ, zero, suc, ◌+◌, ◌<◌, Bool, true, false, cond, List, [], ◌∷◌, length, All, Option, Some, None, refl, sym, ap, ◌∙◌, subst, arith}
use Rattle.std.specs.Prelude.{nat_eq, if◌then◌else◌}
use Rattle.std.specs.Option.{option_and_then}
use Rattle.std.proofs.lemmas.List.Elements.{All-nil, All-cons, All-head, All-tail}
use Rattle.lt_base.specs.declared.value.Ty.{Ty}
use Rattle.lt_base.specs.declared.value.Ty.TheVariants.{Int as IntTy, Bool as BoolTy}
use Rattle.lt_base.specs.declared.operators.Un.{Un}
use Rattle.lt_base.specs.declared.operators.Un.TheVariants.{Neg, Not}
use Rattle.lt_base.specs.declared.operators.Bin.{Bin}
use Rattle.lt_base.specs.declared.operators.Bin.TheVariants.{Add, Sub, Mul, Div, Mod, Eq, Ne, Lt, Le, Gt, Ge, And, Or, Xor, Implies}
use Rattle.lt_base.specs.declared.function.Decl.{Decl}
use Rattle.lt_base.specs.Value.{ty_of}
use Rattle.lt_base.specs.Expression.{Expression, literal, variable, unary, binary, imported, choose, sampled, merged, delayed, follow, arrow, call}
use Rattle.lt_base.specs.Program.{Function, GoodFunction, VarsBelow}
use Rattle.lt_base.specs.Meaning.{ClockPairs, Environment, Callee, clock_of, right_of, outer, present}
use Rattle.lt_base.specs.Typing.{ty_at, un_type, bin_type, ints_type, truths_type, imported_type, shared_type, both_types, under_bool, type_of, TypedFunction}
use Rattle.lt_base.specs.Clocking.{Clocked, ClockedFunction}
use Rattle.lt_base.specs.Dependence.{Causal}
use Rattle.lt_base.specs.Order.{EachRead, EachClockVar}
use Rattle.lt_base.specs.Equations.{left_count}
use Rattle.lt_base.specs.Kept.{Keeps}
use Rattle.lt_base.specs.Tells.{Tells}
use Rattle.lt_base.proofs.Solution.{and_left}
use Rattle.lt_base.proofs.Tells.{at_each_map, TellsAt, tells_same, tells_unary, tells_binary, tells_imported, tells_choose, tells_merged, tells_delayed, tells_follow, tells_arrow}
use Rattle.lt_base.proofs.First.{arrow_by_flag, follow_by_arrow}
use Rattle.lt_base.proofs.Order.{place_of, ordered, causal_from_ranks}
use Rattle.lt_base.proofs.Lookups.{left_below, lefts_cons}
use Rattle.lt_norm.specs.Plain.{declared_type, un_result, bin_result, kind, blank, first_flag, plain, plain_equations, plain_function, Simple}
use Rattle.lt_norm.proofs.Typings.{Has, both_has, under_has, un_has, shared_left, shared_both, shared_same}

-- ---- expressions

-- the value is the same
module _ (callee : Callee) (ds : List Decl) (es : List Environment) where
  outer_present : (env : Environment) (ck : ClockPairs) → present env ck ≡ true → present env (outer ck) ≡ true
  outer_present env [] p = p
  outer_present env (q ∷ ck) p = and_left _ _ p

  pub plain_tells : (e : Expression) (ck : ClockPairs) → Tells callee es ck e (plain ds e)
  plain_tells (literal v) ck = tells_same callee ck (literal v) es
  plain_tells (variable x) ck = tells_same callee ck (variable x) es
  plain_tells (unary o a) ck = tells_unary callee ck o a (plain ds a) es (plain_tells a ck)
  plain_tells (binary o a b) ck = tells_binary callee ck o a (plain ds a) b (plain ds b) es (plain_tells a ck) (plain_tells b ck)
  plain_tells (imported o a b) ck = tells_imported callee ck o a (plain ds a) b (plain ds b) es (plain_tells a ck) (plain_tells b ck)
  plain_tells (choose c a b) ck =
      tells_choose callee ck c (plain ds c) a (plain ds a) b (plain ds b) es (plain_tells c ck) (plain_tells a ck) (plain_tells b ck)
  plain_tells (sampled e c b) ck =
      at_each_map (TellsAt callee (outer ck) e (plain ds e)) (TellsAt callee ck (sampled e c b) (sampled (plain ds e) c b)) (λ past env h p. h (outer_present env ck p)) es (plain_tells e (outer ck))
  plain_tells (merged c a b) ck =
      tells_merged callee ck c a (plain ds a) b (plain ds b) es (plain_tells a ((c, true) ∷ ck)) (plain_tells b ((c, false) ∷ ck))
  plain_tells (delayed v e) ck = tells_delayed callee ck v e (plain ds e) es (plain_tells e ck)
  plain_tells (follow a b) ck =
      let v = blank (kind ds a) in
      let a' = plain ds a in
      let b' = plain ds b in
      at_each_map (TellsAt callee ck (follow a b) (follow a' b')) (TellsAt callee ck (follow a b) (choose first_flag a' (delayed v b'))) (λ past env h p. arrow_by_flag callee ck past env a' (delayed v b') ∙ sym (follow_by_arrow callee ck past env v a' b') ∙ h p) es (tells_follow callee ck a a' b b' es (plain_tells a ck) (plain_tells b ck))
  plain_tells (arrow a b) ck =
      let a' = plain ds a in
      let b' = plain ds b in
      at_each_map (TellsAt callee ck (arrow a b) (arrow a' b')) (TellsAt callee ck (arrow a b) (choose first_flag a' b')) (λ past env h p. arrow_by_flag callee ck past env a' b' ∙ h p) es (tells_arrow callee ck a a' b b' es (plain_tells a ck) (plain_tells b ck))
  plain_tells (call g args) ck = tells_same callee ck (call g args) es

-- nothing but delays with literals is left
pub plain_simple : (ds : List Decl) (e : Expression) (ck : ClockPairs) → Clocked [] ds e ck → Simple (plain ds e)
plain_simple ds (literal v) ck k = tt
plain_simple ds (variable x) ck k = tt
plain_simple ds (unary o a) ck k = plain_simple ds a ck k
plain_simple ds (binary o a b) ck k = (plain_simple ds a ck k.0, plain_simple ds b ck k.1)
plain_simple ds (imported o a b) ck k = (plain_simple ds a ck k.0, plain_simple ds b ck k.1)
plain_simple ds (choose c a b) ck k = (plain_simple ds c ck k.0, plain_simple ds a ck k.1, plain_simple ds b ck k.2)
plain_simple ds (sampled e c b) [] k = elim k [ ]
plain_simple ds (sampled e c b) ((d, a) ∷ ck) k = plain_simple ds e ck k.2.2
plain_simple ds (merged c a b) ck k = (plain_simple ds a ((c, true) ∷ ck) k.2, plain_simple ds b ((c, false) ∷ ck) k.3)
plain_simple ds (delayed v e) ck k = plain_simple ds e ck k
plain_simple ds (follow a b) ck k = (tt, plain_simple ds a ck k.0, plain_simple ds b ck k.1)
plain_simple ds (arrow a b) ck k = (tt, plain_simple ds a ck k.0, plain_simple ds b ck k.1)
plain_simple ds (call g args) ck k = elim k.0 [ ]

-- the clock is the same
pub plain_clocked : (ds : List Decl) (e : Expression) (ck : ClockPairs) → Clocked [] ds e ck → Clocked [] ds (plain ds e) ck
plain_clocked ds (literal v) ck k = tt
plain_clocked ds (variable x) ck k = k
plain_clocked ds (unary o a) ck k = plain_clocked ds a ck k
plain_clocked ds (binary o a b) ck k = (plain_clocked ds a ck k.0, plain_clocked ds b ck k.1)
plain_clocked ds (imported o a b) ck k = (plain_clocked ds a ck k.0, plain_clocked ds b ck k.1)
plain_clocked ds (choose c a b) ck k = (plain_clocked ds c ck k.0, plain_clocked ds a ck k.1, plain_clocked ds b ck k.2)
plain_clocked ds (sampled e c b) [] k = elim k [ ]
plain_clocked ds (sampled e c b) ((d, a) ∷ ck) k = (k.0, k.1, (k.2.0, k.2.1, plain_clocked ds e ck k.2.2))
plain_clocked ds (merged c a b) ck k = (k.0, k.1, plain_clocked ds a ((c, true) ∷ ck) k.2, plain_clocked ds b ((c, false) ∷ ck) k.3)
plain_clocked ds (delayed v e) ck k = plain_clocked ds e ck k
plain_clocked ds (follow a b) ck k = (tt, plain_clocked ds a ck k.0, plain_clocked ds b ck k.1)
plain_clocked ds (arrow a b) ck k = (tt, plain_clocked ds a ck k.0, plain_clocked ds b ck k.1)
plain_clocked ds (call g args) ck k = k

pub plain_below : (ds : List Decl) (n : ℕ) (e : Expression) → VarsBelow n e → VarsBelow n (plain ds e)
plain_below ds n (literal v) k = tt
plain_below ds n (variable x) k = k
plain_below ds n (unary o a) k = plain_below ds n a k
plain_below ds n (binary o a b) k = (plain_below ds n a k.0, plain_below ds n b k.1)
plain_below ds n (imported o a b) k = (plain_below ds n a k.0, plain_below ds n b k.1)
plain_below ds n (choose c a b) k = (plain_below ds n c k.0, plain_below ds n a k.1, plain_below ds n b k.2)
plain_below ds n (sampled e c b) k = (plain_below ds n e k.0, k.1)
plain_below ds n (merged c a b) k = (k.0, plain_below ds n a k.1, plain_below ds n b k.2)
plain_below ds n (delayed v e) k = plain_below ds n e k
plain_below ds n (follow a b) k = (tt, plain_below ds n a k.0, plain_below ds n b k.1)
plain_below ds n (arrow a b) k = (tt, plain_below ds n a k.0, plain_below ds n b k.1)
plain_below ds n (call g args) k = k

-- it reads no more within the instant
pub plain_reads : (P : ℕ → Type 0) (ds : List Decl) (e : Expression) → EachRead P e → EachRead P (plain ds e)
plain_reads P ds (literal v) r = tt
plain_reads P ds (variable x) r = r
plain_reads P ds (unary o a) r = plain_reads P ds a r
plain_reads P ds (binary o a b) r = (plain_reads P ds a r.0, plain_reads P ds b r.1)
plain_reads P ds (imported o a b) r = (plain_reads P ds a r.0, plain_reads P ds b r.1)
plain_reads P ds (choose c a b) r = (plain_reads P ds c r.0, plain_reads P ds a r.1, plain_reads P ds b r.2)
plain_reads P ds (sampled e c b) r = (plain_reads P ds e r.0, r.1)
plain_reads P ds (merged c a b) r = (r.0, plain_reads P ds a r.1, plain_reads P ds b r.2)
plain_reads P ds (delayed v e) r = tt
plain_reads P ds (follow a b) r = (tt, plain_reads P ds a r, tt)
plain_reads P ds (arrow a b) r = (tt, plain_reads P ds a r.0, plain_reads P ds b r.1)
plain_reads P ds (call g args) r = r

-- ---- types

declared_is : (ds : List Decl) (x : ℕ) (t : Ty) → ty_at ds x ≡ Some t → declared_type ds x ≡ t
declared_is [] x t h = absurd (cc)
declared_is (d ∷ ds) zero t h = cc
declared_is (d ∷ ds) (suc x) t h = declared_is ds x t h

un_is : (o : Un) (u : Option Ty) (t : Ty) → option_and_then (un_type o) u ≡ Some t → un_result o ≡ t
un_is o None t h = absurd (cc)
un_is Neg (Some IntTy) t h = cc
un_is Neg (Some BoolTy) t h = absurd (cc)
un_is Not (Some IntTy) t h = absurd (cc)
un_is Not (Some BoolTy) t h = cc

ints_is : (o : Bin) (t : Ty) → ints_type o ≡ Some t → bin_result o ≡ t
ints_is Add t h = cc
ints_is Sub t h = cc
ints_is Mul t h = cc
ints_is Div t h = cc
ints_is Mod t h = cc
ints_is Eq t h = cc
ints_is Ne t h = cc
ints_is Lt t h = cc
ints_is Le t h = cc
ints_is Gt t h = cc
ints_is Ge t h = cc
ints_is And t h = absurd (cc)
ints_is Or t h = absurd (cc)
ints_is Xor t h = absurd (cc)
ints_is Implies t h = absurd (cc)

truths_is : (o : Bin) (t : Ty) → truths_type o ≡ Some t → bin_result o ≡ t
truths_is Add t h = absurd (cc)
truths_is Sub t h = absurd (cc)
truths_is Mul t h = absurd (cc)
truths_is Div t h = absurd (cc)
truths_is Mod t h = absurd (cc)
truths_is Eq t h = cc
truths_is Ne t h = cc
truths_is Lt t h = absurd (cc)
truths_is Le t h = absurd (cc)
truths_is Gt t h = absurd (cc)
truths_is Ge t h = absurd (cc)
truths_is And t h = cc
truths_is Or t h = cc
truths_is Xor t h = cc
truths_is Implies t h = cc

bin_is : (o : Bin) (u v : Option Ty) (t : Ty) → both_types (bin_type o) u v ≡ Some t → bin_result o ≡ t
bin_is o None v t h = absurd (cc)
bin_is o (Some a) None t h = absurd (cc)
bin_is o (Some IntTy) (Some IntTy) t h = ints_is o t h
bin_is o (Some BoolTy) (Some BoolTy) t h = truths_is o t h
bin_is o (Some IntTy) (Some BoolTy) t h = absurd (cc)
bin_is o (Some BoolTy) (Some IntTy) t h = absurd (cc)

imported_is : (u v : Option Ty) (t : Ty) → both_types imported_type u v ≡ Some t → IntTy ≡ t
imported_is None v t h = absurd (cc)
imported_is (Some a) None t h = absurd (cc)
imported_is (Some IntTy) (Some IntTy) t h = cc
imported_is (Some IntTy) (Some BoolTy) t h = absurd (cc)
imported_is (Some BoolTy) (Some b) t h = absurd (cc)

under_is : (u v : Option Ty) (t : Ty) → under_bool u v ≡ Some t → v ≡ Some t
under_is None v t h = absurd (cc)
under_is (Some IntTy) v t h = absurd (cc)
under_is (Some BoolTy) v t h = h

some_same : (s t : Ty) → ◌≡◌ {A = Option Ty} (Some s) (Some t) → s ≡ t
some_same s t h = cc

-- an expression with a type is of that kind
pub kind_is : (ds : List Decl) (e : Expression) (t : Ty) → type_of [] ds e ≡ Some t → kind ds e ≡ t
kind_is ds (literal v) t h = some_same (ty_of v) t h
kind_is ds (variable x) t h = declared_is ds x t h
kind_is ds (unary o a) t h = un_is o (type_of [] ds a) t h
kind_is ds (binary o a b) t h = bin_is o (type_of [] ds a) (type_of [] ds b) t h
kind_is ds (imported o a b) t h = imported_is (type_of [] ds a) (type_of [] ds b) t h
kind_is ds (choose c a b) t h =
    kind_is ds a t (shared_both (type_of [] ds a) (type_of [] ds b) t (under_is (type_of [] ds c) (both_types shared_type (type_of [] ds a) (type_of [] ds b)) t h)).0
kind_is ds (sampled e c b) t h = kind_is ds e t (under_is (ty_at ds c) (type_of [] ds e) t h)
kind_is ds (merged c a b) t h =
    kind_is ds a t (shared_both (type_of [] ds a) (type_of [] ds b) t (under_is (ty_at ds c) (both_types shared_type (type_of [] ds a) (type_of [] ds b)) t h)).0
kind_is ds (delayed v e) t h = some_same (ty_of v) t (shared_left (ty_of v) (type_of [] ds e) t h)
kind_is ds (follow a b) t h = kind_is ds a t (shared_both (type_of [] ds a) (type_of [] ds b) t h).0
kind_is ds (arrow a b) t h = kind_is ds a t (shared_both (type_of [] ds a) (type_of [] ds b) t h).0
kind_is ds (call g args) t h = absurd (cc)

blank_type : (t : Ty) → ty_of (blank t) ≡ t
blank_type IntTy = refl
blank_type BoolTy = refl

-- the type is the same
pub plain_typed : (ds : List Decl) (e : Expression) → Has (type_of [] ds e) (type_of [] ds (plain ds e))
plain_typed ds (literal v) t h = h
plain_typed ds (variable x) t h = h
plain_typed ds (unary o a) t h = un_has (un_type o) (type_of [] ds a) (type_of [] ds (plain ds a)) (plain_typed ds a) t h
plain_typed ds (binary o a b) t h =
    both_has (bin_type o) (type_of [] ds a) (type_of [] ds (plain ds a)) (type_of [] ds b) (type_of [] ds (plain ds b)) (plain_typed ds a) (plain_typed ds b) t h
plain_typed ds (imported o a b) t h =
    both_has imported_type (type_of [] ds a) (type_of [] ds (plain ds a)) (type_of [] ds b) (type_of [] ds (plain ds b)) (plain_typed ds a) (plain_typed ds b) t h
plain_typed ds (choose c a b) t h =
    under_has (type_of [] ds c) (type_of [] ds (plain ds c)) (both_types shared_type (type_of [] ds a) (type_of [] ds b)) (both_types shared_type (type_of [] ds (plain ds a)) (type_of [] ds (plain ds b))) (plain_typed ds c) (both_has shared_type (type_of [] ds a) (type_of [] ds (plain ds a)) (type_of [] ds b) (type_of [] ds (plain ds b)) (plain_typed ds a) (plain_typed ds b)) t h
plain_typed ds (sampled e c b) t h = under_has (ty_at ds c) (ty_at ds c) (type_of [] ds e) (type_of [] ds (plain ds e)) (λ t h. h) (plain_typed ds e) t h
plain_typed ds (merged c a b) t h =
    under_has (ty_at ds c) (ty_at ds c) (both_types shared_type (type_of [] ds a) (type_of [] ds b)) (both_types shared_type (type_of [] ds (plain ds a)) (type_of [] ds (plain ds b))) (λ t h. h) (both_has shared_type (type_of [] ds a) (type_of [] ds (plain ds a)) (type_of [] ds b) (type_of [] ds (plain ds b)) (plain_typed ds a) (plain_typed ds b)) t h
plain_typed ds (delayed v e) t h =
    both_has shared_type (Some (ty_of v)) (Some (ty_of v)) (type_of [] ds e) (type_of [] ds (plain ds e)) (λ t h. h) (plain_typed ds e) t h
plain_typed ds (follow a b) t h =
    let k = shared_both (type_of [] ds a) (type_of [] ds b) t h in
    let x = plain_typed ds a t k.0 in
    let y = plain_typed ds b t k.1 in
    let z : ty_of (blank (kind ds a)) ≡ t = ap (λ s. ty_of (blank s)) (kind_is ds a t k.0) ∙ blank_type t in
    (λ i. both_types shared_type (x i) (both_types shared_type (Some (z i)) (y i))) ∙ ap (both_types shared_type (Some t)) (shared_same t) ∙ shared_same t
plain_typed ds (arrow a b) t h =
    let k = shared_both (type_of [] ds a) (type_of [] ds b) t h in
    let x = plain_typed ds a t k.0 in
    let y = plain_typed ds b t k.1 in
    (λ i. both_types shared_type (x i) (y i)) ∙ shared_same t
plain_typed ds (call g args) t h = h

-- ---- functions

abbrev pub plain_option : List Decl → Option Expression → Option Expression
plain_option ds None = None
plain_option ds (Some e) = Some (plain ds e)

pub plain_right : (ds : List Decl) (qs : List (ℕ × Expression)) (x : ℕ) → right_of (plain_equations ds qs) x ≡ plain_option ds (right_of qs x)
plain_right ds [] x = refl
plain_right ds ((y, e) ∷ qs) x =
    let go : (t : Bool) → (if t then Some (plain ds e) else right_of (plain_equations ds qs) x) ≡ plain_option ds (if t then Some e else right_of qs x) =
    elim [ true ↦ refl | false ↦ plain_right ds qs x ] in
    go (nat_eq x y)

plain_lefts : (ds : List Decl) (qs : List (ℕ × Expression)) (x : ℕ) → left_count x (plain_equations ds qs) ≡ left_count x qs
plain_lefts ds [] x = refl
plain_lefts ds (q ∷ qs) x =
    lefts_cons x (q.0, plain ds q.1) (plain_equations ds qs)
    ∙ ap (λ k. cond (nat_eq x q.0) 1 0 + k) (plain_lefts ds qs x)
    ∙ sym (lefts_cons x q qs)

plain_all : (P : Expression → Type 0) (ds : List Decl) → ((e : Expression) → P e → P (plain ds e)) → (qs : List (ℕ × Expression)) → All (λ q. P q.1) qs → All (λ q. P q.1) (plain_equations ds qs)
plain_all P ds h [] a = All-nil (λ q. P q.1)
plain_all P ds h (q ∷ qs) a =
    All-cons (λ q. P q.1) (q.0, plain ds q.1) (plain_equations ds qs) (h q.1 (All-head (λ q. P q.1) q qs a)) (plain_all P ds h qs (All-tail (λ q. P q.1) q qs a))

module _ (f : Function) where
  abbrev p : Function
  p = plain_function f

  -- a fact of every equation from one of those of f
  plain_each : (Q : ℕ → Expression → Type 0) → ((x : ℕ) (e : Expression) → right_of f.eqs x ≡ Some e → Q x (plain f.decls e)) → (x : ℕ) (e' : Expression) → right_of p.eqs x ≡ Some e' → Q x e'
  plain_each Q h x e' r = go (right_of f.eqs x) refl (sym (plain_right f.decls f.eqs x) ∙ r)
    where
      go : (o : Option Expression) → right_of f.eqs x ≡ o → plain_option f.decls o ≡ Some e' → Q x e'
      go None q k = absurd (cc)
      go (Some e) q k = let same : plain f.decls e ≡ e' = cc in subst (Q x) same (h x e q)

  pub plain_is_good : GoodFunction f → GoodFunction p
  plain_is_good good = record {
    inputs = good.inputs;
    inputs_on_base = good.inputs_on_base;
    clocks = good.clocks;
    outs = good.outs;
    outs_once = good.outs_once;
    rights = plain_all (VarsBelow (length f.decls)) f.decls (plain_below f.decls (length f.decls)) f.eqs good.rights;
    lefts = λ x. plain_lefts f.decls f.eqs x ∙ good.lefts x;
  }

  pub plain_is_clocked : ClockedFunction [] f → ClockedFunction [] p
  plain_is_clocked clocked = record {
    clocks = clocked.clocks;
    rights = plain_each (λ x e. Clocked [] f.decls e (clock_of f.decls x)) (λ x e h. plain_clocked f.decls e (clock_of f.decls x) (clocked.rights x e h));
  }

  pub plain_is_simple : ClockedFunction [] f → (x : ℕ) (e : Expression) → right_of p.eqs x ≡ Some e → Simple e
  plain_is_simple clocked = plain_each (λ x e. Simple e) (λ x e h. plain_simple f.decls e (clock_of f.decls x) (clocked.rights x e h))

  typed_at : (ds : List Decl) (x : ℕ) → x < length ds → (t : Ty) × (ty_at ds x ≡ Some t)
  typed_at [] x h = absurd (omega arith)
  typed_at (d ∷ ds) zero h = (d.ty, refl)
  typed_at (d ∷ ds) (suc x) h = typed_at ds x (omega arith)

  pub plain_is_typed : GoodFunction f → TypedFunction [] f → TypedFunction [] p
  plain_is_typed good typed = record {
    clocks = typed.clocks;
    rights = plain_each (λ x e. type_of [] f.decls e ≡ ty_at f.decls x) (λ x e h.
        let t = typed_at f.decls x (left_below f good x e h) in
        plain_typed f.decls e t.0 (typed.rights x e h ∙ t.1) ∙ sym t.1);
  }

  pub plain_is_causal : Causal f → Causal p
  plain_is_causal causal =
      let rank = place_of f causal in
      let order = ordered f causal in
      causal_from_ranks p rank (record {
        reads_before = plain_each (λ x e. EachRead (λ y. rank y < rank x) e) (λ x e h. plain_reads (λ y. rank y < rank x) f.decls e (order.ranked.reads_before x e h));
        clocks_before = plain_each (λ x e. EachClockVar (λ y. rank y < rank x) (clock_of f.decls x)) (λ x e h. order.ranked.clocks_before x e h);
      })

  -- every equation of f is told
  pub plain_keeps : (callee : Callee) → Keeps callee p f
  plain_keeps callee = record {
    more = omega arith;
    inputs = λ x d h. plain_right f.decls f.eqs x ∙ ap (plain_option f.decls) h;
    clocks = λ x d. refl;
    rights = λ x e d h. record {
      form = plain f.decls e;
      stands = plain_right f.decls f.eqs x ∙ ap (plain_option f.decls) h;
      tells = λ es rows s. plain_tells callee f.decls es e (clock_of f.decls x);
    };
  }
