-- What a function keeps where its delays are lifted: it is good, typed and clocked again, and flat.
use Rattle.std.proofs.Common.{◌≡◌, ℕ, zero, suc, ◌+◌, ◌-◌, ◌<◌, ◌≤◌, Bool, true, false, cond, List, [], ◌∷◌, length, map, All, Option, Some, None, refl, sym, ap, ◌∙◌, subst, arith, ltb-true, ltb-false}
use Rattle.std.specs.Prelude.{nat_lt, nat_eq}
use Rattle.std.specs.Option.{option_and_then}
use Rattle.std.proofs.lemmas.List.Elements.{All-nil, All-cons, All-append, All-head, All-tail}
use Rattle.lt_base.specs.declared.value.Ty.{Ty}
use Rattle.lt_base.specs.declared.value.Ty.TheVariants.{Int as IntTy, Bool as BoolTy}
use Rattle.lt_base.specs.declared.value.Value.{Value}
use Rattle.lt_base.specs.declared.function.Decl.{Decl}
use Rattle.lt_base.specs.Value.{ty_of}
use Rattle.lt_base.specs.Expression.{Expression, literal, variable, unary, binary, imported, choose, sampled, merged, delayed, follow, arrow, call}
use Rattle.lt_base.specs.Program.{Function, GoodFunction, VarsBelow}
use Rattle.lt_base.specs.Meaning.{ClockPairs, clock_of, right_of, outer}
use Rattle.lt_base.specs.Equations.{left_count, inside, EquationsIn}
use Rattle.lt_base.specs.Typing.{ty_at, un_type, bin_type, imported_type, shared_type, both_types, under_bool, type_of, TypedFunction}
use Rattle.lt_base.specs.Clocking.{WellFormed, Clocked, ClockedFunction}
use Rattle.lt_base.specs.Dependence.{Causal}
use Rattle.lt_base.specs.Order.{EachClockVar}
use Rattle.lt_base.proofs.Lookups.{clock_right, left_below, all_found, found, lefts_cons, lefts_two, inside_none, inside_one, inside_most, more_good}
use Rattle.lt_norm.specs.Plain.{Simple}
use Rattle.lt_norm.specs.Lift.{lifted, Delay, lifted_delays, right_delays, right_lifted, equations_lifted, new_decl, new_equations, lift_function, Stand}
use Rattle.lt_norm.specs.Flat.{Direct, FlatRight, FlatFunction}
use Rattle.lt_norm.proofs.Stands.{Rows, rows, lift_more, lift_stands, lift_clocks, lift_types, each_equation}
use Rattle.lt_norm.proofs.Clocks.{lifted_direct, right_flat, Inherited, each_equation_row, well_more, lifted_clocked, right_clocked, AtClock, clock_inherited}
use Rattle.lt_norm.proofs.Typings.{shared_left, right_typed}
use Rattle.lt_norm.proofs.Ranks.{well_below, lift_causal}

-- ---- facts of every equation and of every declaration

pub all_equations : (P : ℕ → Expression → Type 0) (f : Function) (eqs : List (ℕ × Expression)) → EquationsIn f eqs → ((x : ℕ) (e : Expression) → right_of f.eqs x ≡ Some e → P x e) → All (λ q. P q.0 q.1) eqs
all_equations P f [] i h = All-nil (λ q. P q.0 q.1)
all_equations P f (q ∷ eqs) i h = All-cons (λ q. P q.0 q.1) q eqs (h q.0 q.1 i.0) (all_equations P f eqs i.1 h)

pub declared_clock : (P : ClockPairs → Type 0) (ds : List Decl) → P [] → All (λ d. P d.clock) ds → (x : ℕ) → P (clock_of ds x)
declared_clock P [] base a x = base
declared_clock P (d ∷ ds) base a zero = All-head (λ d. P d.clock) d ds a
declared_clock P (d ∷ ds) base a (suc x) = declared_clock P ds base (All-tail (λ d. P d.clock) d ds a) x

pub row_clock : (P : ClockPairs → Type 0) (rs : List Delay) → P [] → Rows (λ r. P r.0) rs → (x : ℕ) → P (clock_of (map new_decl rs) x)
row_clock P [] base a x = base
row_clock P (r ∷ rs) base a zero = a.0
row_clock P (r ∷ rs) base a (suc x) = row_clock P rs base a.1 x

pub row_declarations : (P : ClockPairs → Type 0) (rs : List Delay) → Rows (λ r. P r.0) rs → All (λ d. P d.clock) (map new_decl rs)
row_declarations P [] a = All-nil (λ d. P d.clock)
row_declarations P (r ∷ rs) a = All-cons (λ d. P d.clock) (new_decl r) (map new_decl rs) a.0 (row_declarations P rs a.1)

pub rows_map : (P Q : Delay → Type 0) → ((r : Delay) → P r → Q r) → (rs : List Delay) → Rows P rs → Rows Q rs
rows_map P Q h [] a = tt
rows_map P Q h (r ∷ rs) a = (h r a.0, rows_map P Q h rs a.1)

pub each_clock_all : (P : ℕ → Type 0) (ck : ClockPairs) → EachClockVar P ck → All (λ p. P p.0) ck
each_clock_all P [] e = All-nil (λ p. P p.0)
each_clock_all P ((c, b) ∷ ck) e = All-cons (λ p. P p.0) (c, b) ck e.0 (each_clock_all P ck e.1)

pub all_each_clock : (P : ℕ → Type 0) (ck : ClockPairs) → All (λ p. P p.0) ck → EachClockVar P ck
all_each_clock P [] e = tt
all_each_clock P ((c, b) ∷ ck) e = (All-head (λ p. P p.0) (c, b) ck e, all_each_clock P ck (All-tail (λ p. P p.0) (c, b) ck e))

pub ty_there : (ds : List Decl) (x : ℕ) → x < length ds → (t : Ty) × (ty_at ds x ≡ Some t)
ty_there [] x h = absurd (omega arith)
ty_there (d ∷ ds) zero h = (d.ty, refl)
ty_there (d ∷ ds) (suc x) h = ty_there ds x (omega arith)

-- ---- an expression at a clock reads declared variables

pub clocked_below : (ds : List Decl) (e : Expression) (ck : ClockPairs) → Clocked [] ds e ck → VarsBelow (length ds) e
clocked_below ds (literal v) ck k = tt
clocked_below ds (variable x) ck k = k.0
clocked_below ds (unary o a) ck k = clocked_below ds a ck k
clocked_below ds (binary o a b) ck k = (clocked_below ds a ck k.0, clocked_below ds b ck k.1)
clocked_below ds (imported o a b) ck k = (clocked_below ds a ck k.0, clocked_below ds b ck k.1)
clocked_below ds (choose c a b) ck k = (clocked_below ds c ck k.0, clocked_below ds a ck k.1, clocked_below ds b ck k.2)
clocked_below ds (sampled e c b) [] k = elim k [ ]
clocked_below ds (sampled e c b) ((d, a) ∷ ck) k = (clocked_below ds e ck k.2.2, k.2.0)
clocked_below ds (merged c a b) ck k = (k.0, clocked_below ds a ((c, true) ∷ ck) k.2, clocked_below ds b ((c, false) ∷ ck) k.3)
clocked_below ds (delayed v e) ck k = clocked_below ds e ck k
clocked_below ds (follow a b) ck k = (clocked_below ds a ck k.0, clocked_below ds b ck k.1)
clocked_below ds (arrow a b) ck k = (clocked_below ds a ck k.0, clocked_below ds b ck k.1)
clocked_below ds (call g args) ck k = elim k.0 [ ]

-- ---- typed parts of typed expressions

abbrev pub HasOne : Option Ty → Type 0
HasOne u = (t : Ty) × (u ≡ Some t)

un_one : (o : _) (u : Option Ty) → HasOne (option_and_then (un_type o) u) → HasOne u
un_one o None h = let e = h.1 in absurd (cc)
un_one o (Some t) h = (t, refl)

both_one : (g : Ty → Ty → Option Ty) (u v : Option Ty) → HasOne (both_types g u v) → HasOne u × HasOne v
both_one g None v h = let e = h.1 in absurd (cc)
both_one g (Some t) None h = let e = h.1 in absurd (cc)
both_one g (Some t) (Some w) h = ((t, refl), (w, refl))

under_one : (u v : Option Ty) → HasOne (under_bool u v) → (u ≡ Some BoolTy) × HasOne v
under_one None v h = let e = h.1 in absurd (cc)
under_one (Some IntTy) v h = let e = h.1 in absurd (cc)
under_one (Some BoolTy) v h = (refl, h)

-- simple, with a type, at a clock of bools
abbrev pub AtType : List Decl → ClockPairs → Expression → Type 0
AtType ds ck e = Simple e × VarsBelow (length ds) e × HasOne (type_of [] ds e) × EachClockVar (λ c. ty_at ds c ≡ Some BoolTy) ck

outer_bools : (P : ℕ → Type 0) (ck : ClockPairs) → EachClockVar P ck → EachClockVar P (outer ck)
outer_bools P [] k = tt
outer_bools P ((c, b) ∷ ck) k = k.1

type_inherited : (ds : List Decl) → Inherited (AtType ds)
type_inherited ds = record {
  one = λ o ck a h. (h.0, h.1, un_one o (type_of [] ds a) h.2, h.3);
  two = λ o ck a b h. let k = both_one (bin_type o) (type_of [] ds a) (type_of [] ds b) h.2 in ((h.0.0, h.1.0, k.0, h.3), (h.0.1, h.1.1, k.1, h.3));
  outside = λ o ck a b h. let k = both_one imported_type (type_of [] ds a) (type_of [] ds b) h.2 in ((h.0.0, h.1.0, k.0, h.3), (h.0.1, h.1.1, k.1, h.3));
  three = λ ck c a b h.
      let u = under_one (type_of [] ds c) (both_types shared_type (type_of [] ds a) (type_of [] ds b)) h.2 in
      let k = both_one shared_type (type_of [] ds a) (type_of [] ds b) u.1 in
      ((h.0.0, h.1.0, (BoolTy, u.0), h.3), (h.0.1, h.1.1, k.0, h.3), (h.0.2, h.1.2, k.1, h.3));
  up = λ ck e c b h. (h.0, h.1.0, (under_one (ty_at ds c) (type_of [] ds e) h.2).1, outer_bools (λ c. ty_at ds c ≡ Some BoolTy) ck h.3);
  down = λ ck c a b h.
      let u = under_one (ty_at ds c) (both_types shared_type (type_of [] ds a) (type_of [] ds b)) h.2 in
      let k = both_one shared_type (type_of [] ds a) (type_of [] ds b) u.1 in
      ((h.0.0, h.1.1, k.0, (u.0, h.3)), (h.0.1, h.1.2, k.1, (u.0, h.3)));
  late = λ ck v e h. (h.0, h.1, (both_one shared_type (Some (ty_of v)) (type_of [] ds e) h.2).1, h.3);
}

-- ---- counting

lifted_lefts : (n : ℕ) (qs : List (ℕ × Expression)) (x : ℕ) → left_count x (equations_lifted n qs) ≡ left_count x qs
lifted_lefts n [] x = refl
lifted_lefts n (q ∷ qs) x =
    lefts_cons x (q.0, right_lifted n q.1) (equations_lifted (n + right_delays q.1) qs)
    ∙ ap (λ k. cond (nat_eq x q.0) 1 0 + k) (lifted_lefts (n + right_delays q.1) qs x)
    ∙ sym (lefts_cons x q qs)

new_lefts : (n k : ℕ) (rs : List Delay) (x : ℕ) → length rs ≡ k → left_count x (new_equations n rs) ≡ inside n (n + k) x
new_lefts n k [] x e = sym (inside_none n x) ∙ ap (λ m. inside n (n + m) x) e
new_lefts n zero (r ∷ rs) x e = absurd (omega (arith, e))
new_lefts n (suc k) (r ∷ rs) x e =
    lefts_cons x (n, delayed r.1 r.2) (new_equations (suc n) rs)
    ∙ ap (λ m. cond (nat_eq x n) 1 0 + m) (new_lefts (suc n) k rs x (omega (arith, e)))
    ∙ inside_one n k x

-- ---- the function

module _ (f : Function) (good : GoodFunction f) (typed : TypedFunction [] f) (clocked : ClockedFunction [] f) (causal : Causal f) (simple : (x : ℕ) (e : Expression) → right_of f.eqs x ≡ Some e → Simple e) where
  abbrev N : ℕ
  N = length f.decls

  abbrev F : Function
  F = lift_function f

  low : N ≤ length F.decls
  low = let m = lift_more f good in omega (arith, m)

  at_clocks : All (λ q. AtClock f.decls (clock_of f.decls q.0) q.1) f.eqs
  at_clocks =
      all_equations (λ x e. AtClock f.decls (clock_of f.decls x) e) f f.eqs (all_found f good) (λ x e h. (simple x e h, clocked.clocks x, clocked.rights x e h))

  well_rows : Rows (λ r. WellFormed f.decls r.0) (rows f good)
  well_rows =
      each_equation_row F (AtClock f.decls) (clock_inherited f.decls) (λ r. WellFormed f.decls r.0) (λ ck v e n h s. h.1) f.decls N f.eqs at_clocks (lift_stands f good)

  abbrev RowClocked : Delay → Type 0
  RowClocked r = WellFormed F.decls r.0 × Clocked [] F.decls r.2 r.0

  clocked_rows : Rows RowClocked (rows f good)
  clocked_rows =
      each_equation_row F (AtClock f.decls) (clock_inherited f.decls) RowClocked (λ ck v e n h s. (well_more f F low (lift_clocks f good) ck h.1, lifted_clocked f F low (lift_clocks f good) e n ck h.0 h.2 s)) f.decls N f.eqs at_clocks (lift_stands f good)

  pub direct_rows : Rows (λ r. Direct r.2) (rows f good)
  direct_rows =
      each_equation_row F (AtClock f.decls) (clock_inherited f.decls) (λ r. Direct r.2) (λ ck v e n h s. lifted_direct e n h.0) f.decls N f.eqs at_clocks (lift_stands f good)

  -- clocked
  clocks_at : (x : ℕ) (t : Bool) → nat_lt x N ≡ t → WellFormed F.decls (clock_of F.decls x)
  clocks_at x true t =
      let d = ltb-true x N t in
      subst (WellFormed F.decls) (sym (lift_clocks f good x d)) (well_more f F low (lift_clocks f good) (clock_of f.decls x) (clocked.clocks x))
  clocks_at x false t =
      let l = ltb-false x N t in
      let r = row_clock (WellFormed F.decls) (rows f good) tt (rows_map RowClocked (λ r. WellFormed F.decls r.0) (λ r h. h.0) (rows f good) clocked_rows) (x - N) in
      subst (WellFormed F.decls) (sym (clock_right f.decls (map new_decl (rows f good)) (x - N) x (omega (arith, l)))) r

  pub lift_clocked : ClockedFunction [] F
  lift_clocked = record {
    clocks = λ x. clocks_at x (nat_lt x N) refl;
    rights = each_equation f good (λ x e. Clocked [] F.decls e (clock_of F.decls x)) RowClocked (λ x e d h n l s. subst (Clocked [] F.decls (right_lifted n e)) (sym (lift_clocks f good x d)) (right_clocked f F low (lift_clocks f good) e n (clock_of f.decls x) (simple x e h) (clocked.rights x e h) s)) clocked_rows (λ z r l p c t. subst (Clocked [] F.decls r.2) (sym c) p.1);
  }

  -- typed
  abbrev IsBool : ℕ → Type 0
  IsBool c = ty_at f.decls c ≡ Some BoolTy

  abbrev WasBool : ℕ → Type 0
  WasBool c = ty_at F.decls c ≡ Some BoolTy

  typed_below : (ds : List Decl) (x : ℕ) (t : Ty) → ty_at ds x ≡ Some t → x < length ds
  typed_below [] x t h = absurd (cc)
  typed_below (d ∷ ds) zero t h = omega arith
  typed_below (d ∷ ds) (suc x) t h = let l = typed_below ds x t h in omega (arith, l)

  bool_kept : (c : ℕ) → IsBool c → WasBool c
  bool_kept c h = lift_types f good c (typed_below f.decls c BoolTy h) ∙ h

  bools_kept : (ck : ClockPairs) → EachClockVar IsBool ck → EachClockVar WasBool ck
  bools_kept [] h = tt
  bools_kept ((c, b) ∷ ck) h = (bool_kept c h.0, bools_kept ck h.1)

  right_type : (x : ℕ) (e : Expression) → x < N → right_of f.eqs x ≡ Some e → HasOne (type_of [] f.decls e)
  right_type x e d h = let t = ty_there f.decls x d in (t.0, typed.rights x e h ∙ t.1)

  left_below_by : (x : ℕ) (e : Expression) → right_of f.eqs x ≡ Some e → x < N
  left_below_by x e h = left_below f good x e h

  at_types : All (λ q. AtType f.decls (clock_of f.decls q.0) q.1) f.eqs
  at_types =
      all_equations (λ x e. AtType f.decls (clock_of f.decls x) e) f f.eqs (all_found f good) (λ x e h. (
        simple x e h,
        clocked_below f.decls e (clock_of f.decls x) (clocked.rights x e h),
        right_type x e (left_below_by x e h) h,
        all_each_clock IsBool (clock_of f.decls x) (declared_clock (λ ck. All (λ p. IsBool p.0) ck) f.decls (All-nil (λ p. IsBool p.0)) typed.clocks x),
      ))

  abbrev RowTyped : Delay → Type 0
  RowTyped r = (type_of [] F.decls (delayed r.1 r.2) ≡ Some (ty_of r.1)) × EachClockVar IsBool r.0

  row_typed : (ck : ClockPairs) (v : Value) (e : Expression) (n : ℕ) → AtType f.decls ck (delayed v e) → Stand F n (lifted_delays n ck e) → RowTyped (ck, v, lifted n e)
  row_typed ck v e n h s =
      let t = h.2 in
      (right_typed f F (lift_types f good) (delayed v e) n ck h.0 h.1 s t.0 t.1 ∙ sym (shared_left (ty_of v) (type_of [] f.decls e) t.0 t.1), h.3)

  typed_rows : Rows RowTyped (rows f good)
  typed_rows = each_equation_row F (AtType f.decls) (type_inherited f.decls) RowTyped row_typed f.decls N f.eqs at_types (lift_stands f good)

  pub lift_typed : TypedFunction [] F
  lift_typed = record {
    clocks =
        All-append (λ d. All (λ p. WasBool p.0) d.clock) f.decls (map new_decl (rows f good))
        (λ k d l j p m. bool_kept _ (typed.clocks k d l j p m))
        (row_declarations (λ ck. All (λ p. WasBool p.0) ck) (rows f good) (rows_map RowTyped (λ r. All (λ p. WasBool p.0) r.0) (λ r h. each_clock_all WasBool r.0 (bools_kept r.0 h.1)) (rows f good) typed_rows));
    rights = each_equation f good (λ x e. type_of [] F.decls e ≡ ty_at F.decls x) RowTyped (λ x e d h n l s. let t = ty_there f.decls x d in right_typed f F (lift_types f good) e n (clock_of f.decls x) (simple x e h) (clocked_below f.decls e (clock_of f.decls x) (clocked.rights x e h)) s t.0 (typed.rights x e h ∙ t.1) ∙ sym t.1 ∙ sym (lift_types f good x d)) typed_rows (λ z r l p c t. p.0 ∙ sym t);
  }

  -- good
  lift_lefts : (x : ℕ) → left_count x F.eqs ≡ inside f.n_in (length F.decls) x
  lift_lefts x =
      let m = lift_more f good in
      let i = good.inputs in
      lefts_two x f.n_in N (length F.decls) (equations_lifted N f.eqs) (new_equations N (rows f good)) i low
      (lifted_lefts N f.eqs x ∙ good.lefts x)
      (new_lefts N (length (rows f good)) (rows f good) x refl ∙ ap (λ k. inside N k x) (sym m))

  lift_found : EquationsIn F F.eqs
  lift_found = found F F.eqs (λ x. subst (λ k. k ≤ 1) (sym (lift_lefts x)) (inside_most f.n_in (length F.decls) x)) (λ x l. refl)

  pub lift_good : GoodFunction F
  lift_good =
      more_good f (map new_decl (rows f good)) F.eqs good
      (row_declarations (λ ck. All (λ p. p.0 < length F.decls) ck) (rows f good) (rows_map RowClocked (λ r. All (λ p. p.0 < length F.decls) r.0) (λ r h. each_clock_all (λ c. c < length F.decls) r.0 (well_below F.decls r.0 h.0)) (rows f good) clocked_rows))
      (all_equations (λ x e. VarsBelow (length F.decls) e) F F.eqs lift_found (λ x e h. clocked_below F.decls e (clock_of F.decls x) (lift_clocked.rights x e h)))
      lift_lefts

  -- flat
  pub lift_flat : FlatFunction F
  lift_flat =
      all_equations (λ x e. FlatRight e) F F.eqs lift_found (each_equation f good (λ x e. FlatRight e) (λ r. Direct r.2) (λ x e d h n l s. right_flat e n (simple x e h)) direct_rows (λ z r l p c t. p))

  -- causal
  pub causal_again : Causal F
  causal_again = lift_causal f good clocked causal simple well_rows
