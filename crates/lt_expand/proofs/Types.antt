-- A function with copies in place of its calls is typed.
use Rattle.std.proofs.Common.{◌≡◌, ℕ, zero, suc, ◌+◌, ◌<◌, Bool, true, false, List, [], ◌∷◌, length, map, take, All, Option, Some, None, refl, sym, ap, ◌∙◌, arith}
use Rattle.std.specs.Option.{option_and_then}
use Rattle.std.proofs.lemmas.List.Elements.{All-nil, All-cons, All-append, All-head, All-tail}
use Rattle.lt_base.specs.declared.value.Ty.{Ty}
use Rattle.lt_base.specs.declared.value.Ty.TheVariants.{Int as IntTy, Bool as BoolTy}
use Rattle.lt_base.specs.declared.function.Decl.{Decl}
use Rattle.lt_base.specs.Value.{ty_of}
use Rattle.lt_base.specs.Expression.{Expression, literal, variable, unary, binary, imported, choose, sampled, merged, delayed, follow, arrow, call, Arguments, no_arguments, argument}
use Rattle.lt_base.specs.Program.{Function, GoodFunction}
use Rattle.lt_base.specs.Meaning.{ClockPairs, clock_of, right_of, outer, function_of}
use Rattle.lt_base.specs.Typing.{ty_at, un_type, bin_type, imported_type, shared_type, both_types, under_bool, input_types, answer_type, arguments_fit, call_type, type_of, arguments_types, TypedFunction}
use Rattle.lt_base.specs.Clocking.{Clocked, ArgumentsClocked, ClockedFunction}
use Rattle.lt_base.specs.Order.{EachClockVar}
use Rattle.lt_base.specs.Placed.{renamed, below}
use Rattle.lt_base.specs.Checked.{argument_count}
use Rattle.lt_base.proofs.Lookups.{all_found, left_below}
use Rattle.lt_expand.proofs.Basics.{Has, both_has, under_has, un_has}
use Rattle.lt_expand.proofs.Basics.{all_equations, declared_clock, each_clock_all, all_each_clock, ty_there, HasOne}
use Rattle.lt_expand.specs.Copies.{raise, first_or_zero, Library, Copy, grown, arguments_grown, inlined, arguments_inlined, copies, arguments_copies, input_equations, copy_decl, copy_decls, copied_decls, equations_copies, with_copies}
use Rattle.lt_expand.proofs.Standing.{Each, Declared, Stands}
use Rattle.lt_expand.proofs.Fitting.{Fits}
use Rattle.lt_expand.proofs.Filled.{each_left, each_right, each_copy_map, each_both}
use Rattle.lt_expand.proofs.Counted.{Countable}
use Rattle.lt_expand.proofs.Inherited.{Inherited, each_equation_copy}
use Rattle.lt_expand.proofs.Opened.{opened_stand, opened_types}
use Rattle.lt_expand.proofs.Equations.{Fitted, Used, ArgumentsUsed, Equations, each_equation}

-- ---- what types ask of their parts

then_some : {A : Type 0} (f : A → Option Ty) (o : Option A) (t : Ty) → option_and_then f o ≡ Some t → (a : A) × (o ≡ Some a) × (f a ≡ Some t)
then_some f None t h = absurd (cc)
then_some f (Some a) t h = (a, refl, h)

shared_to : (w : Ty) (u : Option Ty) (a : Ty) → both_types shared_type (Some w) u ≡ Some a → u ≡ Some w
shared_to w None a h = absurd (cc)
shared_to IntTy (Some IntTy) a h = refl
shared_to BoolTy (Some BoolTy) a h = refl
shared_to IntTy (Some BoolTy) a h = absurd (cc)
shared_to BoolTy (Some IntTy) a h = absurd (cc)

first_fits : (w : Ty) (ws : List Ty) (u : Option Ty) (us : List (Option Ty)) (o : Option Ty) (t : Ty) → arguments_fit (w ∷ ws) (u ∷ us) o ≡ Some t → (u ≡ Some w) × (arguments_fit ws us o ≡ Some t)
first_fits w ws u us o t h =
    let a = then_some (λ a. arguments_fit ws us o) (both_types shared_type (Some w) u) t h in
    (shared_to w u a.0 a.1, a.2)

fit_answer : (ws : List Ty) (us : List (Option Ty)) (o : Option Ty) (t : Ty) → arguments_fit ws us o ≡ Some t → o ≡ Some t
fit_answer [] [] o t h = h
fit_answer [] (u ∷ us) o t h = absurd (cc)
fit_answer (w ∷ ws) [] o t h = absurd (cc)
fit_answer (w ∷ ws) (u ∷ us) o t h = fit_answer ws us o t (first_fits w ws u us o t h).1

-- ---- a copy keeps its types

module _ (F : Function) (c : Copy) (declared : Declared F c) where
  abbrev m : ℕ
  m = c.from

  abbrev h : Function
  h = c.source

  copy_typed : (e : Expression) (k : ClockPairs) → Clocked [] h.decls e k → type_of [] F.decls (renamed (raise m) e) ≡ type_of [] h.decls e
  copy_typed (literal v) k t = refl
  copy_typed (variable x) k t = declared.types x t.0
  copy_typed (unary o a) k t = ap (option_and_then (un_type o)) (copy_typed a k t)
  copy_typed (binary o a b) k t = λ i. both_types (bin_type o) (copy_typed a k t.0 i) (copy_typed b k t.1 i)
  copy_typed (imported o a b) k t = λ i. both_types imported_type (copy_typed a k t.0 i) (copy_typed b k t.1 i)
  copy_typed (choose d a b) k t = λ i. under_bool (copy_typed d k t.0 i) (both_types shared_type (copy_typed a k t.1 i) (copy_typed b k t.2 i))
  copy_typed (sampled e x b) [] t = elim t [ ]
  copy_typed (sampled e x b) ((d, a) ∷ k) t = λ i. under_bool (declared.types x t.2.0 i) (copy_typed e k t.2.2 i)
  copy_typed (merged x a b) k t = λ i. under_bool (declared.types x t.0 i) (both_types shared_type (copy_typed a ((x, true) ∷ k) t.2 i) (copy_typed b ((x, false) ∷ k) t.3 i))
  copy_typed (delayed v e) k t = ap (both_types shared_type (Some (ty_of v))) (copy_typed e k t)
  copy_typed (follow a b) k t = λ i. both_types shared_type (copy_typed a k t.0 i) (copy_typed b k t.1 i)
  copy_typed (arrow a b) k t = λ i. both_types shared_type (copy_typed a k t.0 i) (copy_typed b k t.1 i)
  copy_typed (call g args) k t = elim t.0 [ ]

-- these inputs have these types
abbrev pub InputsTyped : List Decl → List Ty → Arguments → Type 0
InputsTyped ds [] no_arguments = Unit {0}
InputsTyped ds [] (argument e args) = ⊥
InputsTyped ds (w ∷ ws) no_arguments = ⊥
InputsTyped ds (w ∷ ws) (argument e args) = (type_of [] ds e ≡ Some w) × InputsTyped ds ws args

module _ (lib : Library) (fs : List Function) (f F : Function) (kept : (x : ℕ) → x < length f.decls → ty_at F.decls x ≡ ty_at f.decls x) where
  var_has : (x : ℕ) → x < length f.decls → Has (ty_at f.decls x) (ty_at F.decls x)
  var_has x l t h = kept x l ∙ h

  abbrev Old : Expression → Option Ty
  Old e = type_of fs f.decls e

  abbrev New : Expression → Option Ty
  New e = type_of [] F.decls e

  -- the answer of a copy has the type of the call
  call_has : (g : ℕ) (c : Copy) (n : ℕ) (us : List (Option Ty)) → Fits fs c.source g n → Stands F c → Has (call_type (function_of fs g) us) (ty_at F.decls (first_or_zero c.source.outs + c.from))
  call_has g c n us fits s t h =
      let r = sym (fits.types us) ∙ h in
      let a = fit_answer (input_types c.source) us (answer_type c.source.decls c.source.outs) t r in
      s.declared.types (first_or_zero c.source.outs) fits.out_declared ∙ sym (ap (answer_type c.source.decls) fits.one_out) ∙ a

  mutual
    pub inlined_typed : (e : Expression) (n : ℕ) (ck : ClockPairs) → Used fs lib e → Clocked fs f.decls e ck → Each (Stands F) (copies lib n ck e) → Has (type_of fs f.decls e) (type_of [] F.decls (inlined lib n e))
    inlined_typed (literal v) n ck u k s t h = h
    inlined_typed (variable x) n ck u k s t h = var_has x k.0 t h
    inlined_typed (unary o a) n ck u k s t h = un_has (un_type o) (Old a) (New (inlined lib n a)) (inlined_typed a n ck u k s) t h
    inlined_typed (binary o a b) n ck u k s t h =
        both_has (bin_type o) (Old a) (New (inlined lib n a)) (Old b) (New (inlined lib (n + grown lib a) b)) (inlined_typed a n ck u.0 k.0 (each_left (Stands F) (copies lib n ck a) _ s)) (inlined_typed b (n + grown lib a) ck u.1 k.1 (each_right (Stands F) (copies lib n ck a) _ s)) t h
    inlined_typed (imported o a b) n ck u k s t h =
        both_has imported_type (Old a) (New (inlined lib n a)) (Old b) (New (inlined lib (n + grown lib a) b)) (inlined_typed a n ck u.0 k.0 (each_left (Stands F) (copies lib n ck a) _ s)) (inlined_typed b (n + grown lib a) ck u.1 k.1 (each_right (Stands F) (copies lib n ck a) _ s)) t h
    inlined_typed (choose c a b) n ck u k s t h =
        let s' = each_right (Stands F) (copies lib n ck c) _ s in
        let m = n + grown lib c in
        under_has (Old c) (New (inlined lib n c)) (both_types shared_type (Old a) (Old b)) (both_types shared_type (New (inlined lib (n + grown lib c) a)) (New (inlined lib ((n + grown lib c) + grown lib a) b))) (inlined_typed c n ck u.0 k.0 (each_left (Stands F) (copies lib n ck c) _ s))
        (both_has shared_type (Old a) (New (inlined lib (n + grown lib c) a)) (Old b) (New (inlined lib ((n + grown lib c) + grown lib a) b)) (inlined_typed a (n + grown lib c) ck u.1 k.1 (each_left (Stands F) (copies lib (n + grown lib c) ck a) _ s')) (inlined_typed b ((n + grown lib c) + grown lib a) ck u.2 k.2 (each_right (Stands F) (copies lib (n + grown lib c) ck a) _ s'))) t h
    inlined_typed (sampled e c b) n [] u k s t h = elim k [ ]
    inlined_typed (sampled e c b) n ((x, a) ∷ ck) u k s t h =
        under_has (ty_at f.decls c) (ty_at F.decls c) (Old e) (New (inlined lib n e)) (var_has c k.2.0) (inlined_typed e n ck u k.2.2 s) t h
    inlined_typed (merged c a b) n ck u k s t h =
        under_has (ty_at f.decls c) (ty_at F.decls c) (both_types shared_type (Old a) (Old b)) (both_types shared_type (New (inlined lib n a)) (New (inlined lib (n + grown lib a) b))) (var_has c k.0)
        (both_has shared_type (Old a) (New (inlined lib n a)) (Old b) (New (inlined lib (n + grown lib a) b)) (inlined_typed a n ((c, true) ∷ ck) u.0 k.2 (each_left (Stands F) (copies lib n ((c, true) ∷ ck) a) _ s)) (inlined_typed b (n + grown lib a) ((c, false) ∷ ck) u.1 k.3 (each_right (Stands F) (copies lib n ((c, true) ∷ ck) a) _ s))) t h
    inlined_typed (delayed v e) n ck u k s t h =
        both_has shared_type (Some (ty_of v)) (Some (ty_of v)) (Old e) (New (inlined lib n e)) (λ t h. h) (inlined_typed e n ck u k s) t h
    inlined_typed (follow a b) n ck u k s t h =
        both_has shared_type (Old a) (New (inlined lib n a)) (Old b) (New (inlined lib (n + grown lib a) b)) (inlined_typed a n ck u.0 k.0 (each_left (Stands F) (copies lib n ck a) _ s)) (inlined_typed b (n + grown lib a) ck u.1 k.1 (each_right (Stands F) (copies lib n ck a) _ s)) t h
    inlined_typed (arrow a b) n ck u k s t h =
        both_has shared_type (Old a) (New (inlined lib n a)) (Old b) (New (inlined lib (n + grown lib a) b)) (inlined_typed a n ck u.0 k.0 (each_left (Stands F) (copies lib n ck a) _ s)) (inlined_typed b (n + grown lib a) ck u.1 k.1 (each_right (Stands F) (copies lib n ck a) _ s)) t h
    inlined_typed (call g args) n ck u k s t h =
        let c : Copy = record { from = n + arguments_grown lib args; clock = ck; source = lib g; inputs = arguments_inlined lib n args } in
        call_has g c (argument_count args) (arguments_types fs f.decls args) u.0 (each_right (Stands F) (arguments_copies lib n ck args) _ s).0 t h

  -- the inputs of a copy have the types of the called function's inputs
  pub arguments_inlined_typed : (args : Arguments) (n : ℕ) (ck : ClockPairs) (ws : List Ty) (o : Option Ty) (t : Ty) → ArgumentsUsed fs lib args → ArgumentsClocked fs f.decls args ck → Each (Stands F) (arguments_copies lib n ck args) → arguments_fit ws (arguments_types fs f.decls args) o ≡ Some t → InputsTyped F.decls ws (arguments_inlined lib n args)
  arguments_inlined_typed no_arguments n ck [] o t u k s h = tt
  arguments_inlined_typed no_arguments n ck (w ∷ ws) o t u k s h = absurd (cc)
  arguments_inlined_typed (argument e args) n ck [] o t u k s h = absurd (cc)
  arguments_inlined_typed (argument e args) n ck (w ∷ ws) o t u k s h =
      let q = first_fits w ws (Old e) (arguments_types fs f.decls args) o t h in (
        inlined_typed e n ck u.0 k.0 (each_left (Stands F) (copies lib n ck e) _ s) w q.0,
        arguments_inlined_typed args (n + grown lib e) ck ws o t u.1 k.1 (each_right (Stands F) (copies lib n ck e) _ s) q.1,
      )

-- ---- parts of typed expressions have types

un_one : (o : _) (u : Option Ty) → HasOne (option_and_then (un_type o) u) → HasOne u
un_one o None h = let e = h.1 in absurd (cc)
un_one o (Some t) h = (t, refl)

both_one : (g : Ty → Ty → Option Ty) (u v : Option Ty) → HasOne (both_types g u v) → HasOne u × HasOne v
both_one g None v h = let e = h.1 in absurd (cc)
both_one g (Some t) None h = let e = h.1 in absurd (cc)
both_one g (Some t) (Some w) h = ((t, refl), (w, refl))

under_one : (u v : Option Ty) → HasOne (under_bool u v) → (u ≡ Some BoolTy) × HasOne v
under_one None v h = let e = h.1 in absurd (cc)
under_one (Some IntTy) v h = let e = h.1 in absurd (cc)
under_one (Some BoolTy) v h = (refl, h)

-- each argument has a type
abbrev pub EachOne : List (Option Ty) → Type 0
EachOne [] = Unit {0}
EachOne (u ∷ us) = HasOne u × EachOne us

fit_each : (ws : List Ty) (us : List (Option Ty)) (o : Option Ty) (t : Ty) → arguments_fit ws us o ≡ Some t → EachOne us
fit_each [] [] o t h = tt
fit_each [] (u ∷ us) o t h = absurd (cc)
fit_each (w ∷ ws) [] o t h = absurd (cc)
fit_each (w ∷ ws) (u ∷ us) o t h = let q = first_fits w ws u us o t h in ((w, q.0), fit_each ws us o t q.1)

call_each : (o : Option Function) (us : List (Option Ty)) → HasOne (call_type o us) → EachOne us
call_each None us h = let e = h.1 in absurd (cc)
call_each (Some f) us h = fit_each (input_types f) us (answer_type f.decls f.outs) h.0 h.1

-- used, clocked, with a type, at a clock of bools
abbrev pub AtType : List Function → Library → List Decl → ClockPairs → Expression → Type 0
AtType fs lib ds ck e = Used fs lib e × Clocked fs ds e ck × HasOne (type_of fs ds e) × EachClockVar (λ c. ty_at ds c ≡ Some BoolTy) ck

abbrev pub ArgumentsAtType : List Function → Library → List Decl → ClockPairs → Arguments → Type 0
ArgumentsAtType fs lib ds ck args = ArgumentsUsed fs lib args × ArgumentsClocked fs ds args ck × EachOne (arguments_types fs ds args) × EachClockVar (λ c. ty_at ds c ≡ Some BoolTy) ck

outer_bools : (P : ℕ → Type 0) (ck : ClockPairs) → EachClockVar P ck → EachClockVar P (outer ck)
outer_bools P [] k = tt
outer_bools P ((c, b) ∷ ck) k = k.1

sampled_at : (fs : List Function) (ds : List Decl) (ck : ClockPairs) (e : Expression) (c : ℕ) (b : Bool) → Clocked fs ds (sampled e c b) ck → Clocked fs ds e (outer ck)
sampled_at fs ds [] e c b k = elim k [ ]
sampled_at fs ds ((d, a) ∷ ck) e c b k = k.2.2

type_inherited : (fs : List Function) (lib : Library) (ds : List Decl) → Inherited (AtType fs lib ds) (ArgumentsAtType fs lib ds)
type_inherited fs lib ds = record {
  one = λ o ck a h. (h.0, h.1, un_one o (type_of fs ds a) h.2, h.3);
  two = λ o ck a b h. let k = both_one (bin_type o) (type_of fs ds a) (type_of fs ds b) h.2 in ((h.0.0, h.1.0, k.0, h.3), (h.0.1, h.1.1, k.1, h.3));
  outside = λ o ck a b h. let k = both_one imported_type (type_of fs ds a) (type_of fs ds b) h.2 in ((h.0.0, h.1.0, k.0, h.3), (h.0.1, h.1.1, k.1, h.3));
  three = λ ck c a b h.
      let u = under_one (type_of fs ds c) (both_types shared_type (type_of fs ds a) (type_of fs ds b)) h.2 in
      let k = both_one shared_type (type_of fs ds a) (type_of fs ds b) u.1 in
      ((h.0.0, h.1.0, (BoolTy, u.0), h.3), (h.0.1, h.1.1, k.0, h.3), (h.0.2, h.1.2, k.1, h.3));
  up = λ ck e c b h. (h.0, sampled_at fs ds ck e c b h.1, (under_one (ty_at ds c) (type_of fs ds e) h.2).1, outer_bools (λ c. ty_at ds c ≡ Some BoolTy) ck h.3);
  down = λ ck c a b h.
      let u = under_one (ty_at ds c) (both_types shared_type (type_of fs ds a) (type_of fs ds b)) h.2 in
      let k = both_one shared_type (type_of fs ds a) (type_of fs ds b) u.1 in
      ((h.0.0, h.1.2, k.0, (u.0, h.3)), (h.0.1, h.1.3, k.1, (u.0, h.3)));
  late = λ ck v e h. (h.0, h.1, (both_one shared_type (Some (ty_of v)) (type_of fs ds e) h.2).1, h.3);
  later = λ ck a b h. let k = both_one shared_type (type_of fs ds a) (type_of fs ds b) h.2 in ((h.0.0, h.1.0, k.0, h.3), (h.0.1, h.1.1, k.1, h.3));
  first = λ ck a b h. let k = both_one shared_type (type_of fs ds a) (type_of fs ds b) h.2 in ((h.0.0, h.1.0, k.0, h.3), (h.0.1, h.1.1, k.1, h.3));
  inside = λ ck g args h. (h.0.1, h.1.1, call_each (function_of fs g) (arguments_types fs ds args) h.2, h.3);
  each = λ ck e args h. ((h.0.0, h.1.0, h.2.0, h.3), (h.0.1, h.1.1, h.2.1, h.3));
}

-- ---- the function

-- the types of the first declarations
abbrev nth_type : List Ty → ℕ → Option Ty
nth_type [] i = None
nth_type (w ∷ ws) zero = Some w
nth_type (w ∷ ws) (suc i) = nth_type ws i

input_type : (ds : List Decl) (n i : ℕ) (w : Ty) → nth_type (map (λ d. d.ty) (take n ds)) i ≡ Some w → ty_at ds i ≡ Some w
input_type [] zero i w h = absurd (cc)
input_type [] (suc n) i w h = absurd (cc)
input_type (d ∷ ds) zero i w h = absurd (cc)
input_type (d ∷ ds) (suc n) zero w h = h
input_type (d ∷ ds) (suc n) (suc i) w h = input_type ds n i w h

pub type_below : (ds : List Decl) (x : ℕ) (t : Ty) → ty_at ds x ≡ Some t → x < length ds
type_below [] x t h = absurd (cc)
type_below (d ∷ ds) zero t h = omega arith
type_below (d ∷ ds) (suc x) t h = let l = type_below ds x t h in omega (arith, l)

-- ---- the clocks of copies

below_each : (P : ℕ → Type 0) (m : ℕ) (k ck : ClockPairs) → EachClockVar (λ x. P (x + m)) k → EachClockVar P ck → EachClockVar P (below (raise m) k ck)
below_each P m [] ck p q = q
below_each P m ((c, b) ∷ k) ck p q = (p.0, below_each P m k ck p.1 q)

-- a fact of the variables of a copy's clocks
pub record ClockVars (P : ℕ → Type 0) (c : Copy) : Type 0 where
  pub outside : EachClockVar P c.clock
  pub inside : All (λ d. All (λ p. P (p.0 + c.from)) d.clock) c.source.decls

copy_clock_vars : (P : ℕ → Type 0) (m : ℕ) (ck : ClockPairs) (ds : List Decl) → EachClockVar P ck → All (λ d. All (λ p. P (p.0 + m)) d.clock) ds → All (λ d. All (λ p. P p.0) d.clock) (copy_decls m ck ds)
copy_clock_vars P m ck [] o a = All-nil (λ d. All (λ p. P p.0) d.clock)
copy_clock_vars P m ck (d ∷ ds) o a =
    All-cons (λ d. All (λ p. P p.0) d.clock) (copy_decl m ck d) (copy_decls m ck ds)
    (each_clock_all P (below (raise m) d.clock ck) (below_each P m d.clock ck (all_each_clock (λ x. P (x + m)) d.clock (All-head (λ d. All (λ p. P (p.0 + m)) d.clock) d ds a)) o))
    (copy_clock_vars P m ck ds o (All-tail (λ d. All (λ p. P (p.0 + m)) d.clock) d ds a))

pub copied_clock_vars : (P : ℕ → Type 0) (cs : List Copy) → Each (ClockVars P) cs → All (λ d. All (λ p. P p.0) d.clock) (copied_decls cs)
copied_clock_vars P [] e = All-nil (λ d. All (λ p. P p.0) d.clock)
copied_clock_vars P (c ∷ cs) e =
    All-append (λ d. All (λ p. P p.0) d.clock) (copy_decls c.from c.clock c.source.decls) (copied_decls cs)
    (copy_clock_vars P c.from c.clock c.source.decls e.0.outside e.0.inside)
    (copied_clock_vars P cs e.1)

-- ---- the function

module _ (lib : Library) (fs : List Function) (f : Function) (good : GoodFunction f) (clocked : ClockedFunction fs f) (typed : TypedFunction fs f) (used : (x : ℕ) (e : Expression) → right_of f.eqs x ≡ Some e → Used fs lib e) (countable : Each Countable (equations_copies lib f.decls (length f.decls) f.eqs)) (fitted : Each (Fitted fs) (equations_copies lib f.decls (length f.decls) f.eqs)) where
  abbrev N : ℕ
  N = length f.decls

  abbrev F : Function
  F = with_copies lib f

  abbrev cs : List Copy
  cs = equations_copies lib f.decls N f.eqs

  kept : (x : ℕ) → x < N → ty_at F.decls x ≡ ty_at f.decls x
  kept = opened_types lib f good countable

  abbrev IsBool : ℕ → Type 0
  IsBool c = ty_at f.decls c ≡ Some BoolTy

  abbrev WasBool : ℕ → Type 0
  WasBool c = ty_at F.decls c ≡ Some BoolTy

  bool_kept : (c : ℕ) → IsBool c → WasBool c
  bool_kept c h = kept c (type_below f.decls c BoolTy h) ∙ h

  bools_kept : (ck : ClockPairs) → EachClockVar IsBool ck → EachClockVar WasBool ck
  bools_kept [] h = tt
  bools_kept ((c, b) ∷ ck) h = (bool_kept c h.0, bools_kept ck h.1)

  pub record CopyTyped (c : Copy) : Type 0 where
    pub inputs : InputsTyped F.decls (input_types c.source) c.inputs
    pub bools : EachClockVar IsBool c.clock

  right_type : (x : ℕ) (e : Expression) → right_of f.eqs x ≡ Some e → HasOne (type_of fs f.decls e)
  right_type x e h = let t = ty_there f.decls x (left_below f good x e h) in (t.0, typed.rights x e h ∙ t.1)

  at_types : All (λ q. AtType fs lib f.decls (clock_of f.decls q.0) q.1) f.eqs
  at_types =
      all_equations (λ x e. AtType fs lib f.decls (clock_of f.decls x) e) f f.eqs (all_found f good) (λ x e h. (
        used x e h,
        clocked.rights x e h,
        right_type x e h,
        all_each_clock IsBool (clock_of f.decls x) (declared_clock (λ ck. All (λ p. IsBool p.0) ck) f.decls (All-nil (λ p. IsBool p.0)) typed.clocks x),
      ))

  copy_here : (ck : ClockPairs) (g : ℕ) (args : Arguments) (n : ℕ) → AtType fs lib f.decls ck (call g args) → Each (Stands F) (arguments_copies lib n ck args) → CopyTyped (record { from = n + arguments_grown lib args; clock = ck; source = lib g; inputs = arguments_inlined lib n args })
  copy_here ck g args n h s =
      let us = arguments_types fs f.decls args in
      let t = h.2 in
      let fit : arguments_fit (input_types (lib g)) us (answer_type (lib g).decls (lib g).outs) ≡ Some t.0 = sym (h.0.0.types us) ∙ t.1 in
      record { inputs = arguments_inlined_typed lib fs f F kept args n ck (input_types (lib g)) (answer_type (lib g).decls (lib g).outs) t.0 h.0.1 h.1.1 s fit; bools = h.3 }

  copies_typed : Each CopyTyped cs
  copies_typed =
      each_equation_copy lib (Stands F) (AtType fs lib f.decls) (ArgumentsAtType fs lib f.decls) (type_inherited fs lib f.decls) CopyTyped copy_here f.decls N f.eqs at_types (opened_stand lib f good countable)

  abbrev Facts : Copy → Type 0
  Facts c = (Stands F c × Fitted fs c) × CopyTyped c

  all_facts : Each Facts cs
  all_facts = each_both (λ c. Stands F c × Fitted fs c) CopyTyped cs (each_both (Stands F) (Fitted fs) cs (opened_stand lib f good countable) fitted) copies_typed

  abbrev Right : ℕ → Expression → Type 0
  Right x e = type_of [] F.decls e ≡ ty_at F.decls x

  inputs_right : (n : ℕ) (ws : List Ty) (args : Arguments) → InputsTyped F.decls ws args → ((i : ℕ) (w : Ty) → nth_type ws i ≡ Some w → ty_at F.decls (i + n) ≡ Some w) → All (λ q. Right q.0 q.1) (input_equations n args)
  inputs_right n ws no_arguments t k = All-nil (λ q. Right q.0 q.1)
  inputs_right n [] (argument e args) t k = elim t [ ]
  inputs_right n (w ∷ ws) (argument e args) t k =
      All-cons (λ q. Right q.0 q.1) (n, e) (input_equations (suc n) args) (t.0 ∙ sym (ap (ty_at F.decls) (omega arith) ∙ k 0 w refl))
      (inputs_right (suc n) ws args t.1 (λ i v h. ap (ty_at F.decls) (omega arith) ∙ k (suc i) v h))

  equations_in : (c : Copy) → Facts c → Equations Right c
  equations_in c k =
      let d = k.0.0.declared in
      let fits = k.0.1.fits in
      record {
        good = fits.good;
        inputs = inputs_right c.from (input_types c.source) c.inputs k.1.inputs (λ i w h. let t = input_type c.source.decls c.source.n_in i w h in d.types i (type_below c.source.decls i w t) ∙ t);
        rights = λ x e h. copy_typed F c d e (clock_of c.source.decls x) (fits.clocked.rights x e h) ∙ fits.typed.rights x e h ∙ sym (d.types x (left_below c.source fits.good x e h));
      }

  clock_vars_in : (c : Copy) → Facts c → ClockVars WasBool c
  clock_vars_in c k =
      let d = k.0.0.declared in
      let fits = k.0.1.fits in
      record {
        outside = bools_kept c.clock k.1.bools;
        inside = λ i e l j p b. let t = fits.typed.clocks i e l j p b in d.types _ (type_below c.source.decls _ BoolTy t) ∙ t;
      }

  pub opened_typed : TypedFunction [] F
  opened_typed = record {
    clocks =
        All-append (λ d. All (λ p. WasBool p.0) d.clock) f.decls (copied_decls cs)
        (λ k d l j p m. bool_kept _ (typed.clocks k d l j p m))
        (copied_clock_vars WasBool cs (each_copy_map Facts (ClockVars WasBool) clock_vars_in cs all_facts));
    rights = each_equation lib f good countable (Stands F) (opened_stand lib f good countable) Right (λ x e d h n l s. let t = ty_there f.decls x d in inlined_typed lib fs f F kept e n (clock_of f.decls x) (used x e h) (clocked.rights x e h) s t.0 (typed.rights x e h ∙ t.1) ∙ sym t.1 ∙ sym (kept x d)) (each_copy_map Facts (Equations Right) equations_in cs all_facts);
  }
