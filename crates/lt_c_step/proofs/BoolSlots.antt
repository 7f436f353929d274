-- Truth values alone are assigned to bools.
use Rattle.std.proofs.Common.{◌≡◌, ℕ, zero, suc, ◌+◌, ◌<◌, List, [], ◌∷◌, ◌++◌, length, Option, Some, None, refl, sym, ap, ◌∙◌, subst, arith}
use Rattle.std.specs.Prelude.{slice_get}
use Rattle.std.specs.List.{AllByRecursion}
use Rattle.std.specs.Option.{option_and_then}
use Rattle.lt_base.specs.declared.value.Ty.{Ty}
use Rattle.lt_base.specs.declared.value.Ty.TheVariants.{Int as IntTy, Bool as BoolTy}
use Rattle.lt_base.specs.declared.value.Value.{Value}
use Rattle.lt_base.specs.declared.value.Value.TheVariants.{Int, Bool as Truth}
use Rattle.lt_base.specs.declared.function.Decl.{Decl}
use Rattle.lt_base.specs.declared.operators.Un.TheVariants.{Neg, Not}
use Rattle.lt_base.specs.declared.operators.Bin.{Bin}
use Rattle.lt_base.specs.declared.operators.Bin.TheVariants.{Add, Sub, Mul, Div, Mod, Eq, Ne, Lt, Le, Gt, Ge, And, Or, Xor, Implies}
use Rattle.lt_base.specs.Value.{ty_of}
use Rattle.lt_base.specs.Expression.{Expression, literal, variable, unary, binary, imported, choose, sampled, merged, delayed, follow, arrow, call}
use Rattle.lt_base.specs.Program.{Function, GoodFunction}
use Rattle.lt_base.specs.Meaning.{ClockPairs, clock_of, right_of}
use Rattle.lt_base.specs.Typing.{ty_at, un_type, ints_type, truths_type, bin_type, imported_type, shared_type, both_types, under_bool, type_of, TypedFunction}
use Rattle.lt_base.specs.Equations.{EquationsIn}
use Rattle.lt_base.proofs.Lookups.{all_found, left_below, right_all}
use Rattle.lt_norm.specs.Flat.{Direct, FlatRight, FlatFunction}
use Rattle.lt_step.specs.Code.{KeepForm, StepCode}
use Rattle.lt_step.specs.Compile.{source, kept, next_slot, lets_of, keeps_of, with_found, in_order, code_of}
use Rattle.lt_c.specs.Tree.{slot, Tree, Statement, assign}
use Rattle.lt_c.specs.Literals.{of_value}
use Rattle.lt_c.specs.Truths.{Types, IsTruthTree, AssignsTruths}
use Rattle.lt_c_step.specs.Translate.{of_binary, of_expression, under, of_lets, of_keeps, of_firsts}
use Rattle.lt_c_step.specs.Typed.{SlotsTyped, StepAssignsTruths, StepsAssignTruths}

-- ---- rules of types

never : (o : Bin) → ints_type o ≡ Some IntTy → truths_type o ≡ None → (p q : Option Ty) → both_types (bin_type o) p q ≡ Some BoolTy → ⊥
never o f g None q h = cc
never o f g (Some t) None h = cc
never o f g (Some IntTy) (Some IntTy) h = cc
never o f g (Some BoolTy) (Some BoolTy) h = cc
never o f g (Some IntTy) (Some BoolTy) h = cc
never o f g (Some BoolTy) (Some IntTy) h = cc

never_imported : (p q : Option Ty) → both_types imported_type p q ≡ Some BoolTy → ⊥
never_imported None q h = cc
never_imported (Some t) None h = cc
never_imported (Some IntTy) (Some IntTy) h = cc
never_imported (Some IntTy) (Some BoolTy) h = cc
never_imported (Some BoolTy) (Some u) h = cc

never_negated : (p : Option Ty) → option_and_then (un_type Neg) p ≡ Some BoolTy → ⊥
never_negated None h = cc
never_negated (Some IntTy) h = cc
never_negated (Some BoolTy) h = cc

shared : (p q : Option Ty) (t : Ty) → both_types shared_type p q ≡ Some t → (p ≡ Some t) × (q ≡ Some t)
shared None q t h = absurd (cc)
shared (Some p) None t h = absurd (cc)
shared (Some IntTy) (Some IntTy) t h = (h, h)
shared (Some BoolTy) (Some BoolTy) t h = (h, h)
shared (Some IntTy) (Some BoolTy) t h = absurd (cc)
shared (Some BoolTy) (Some IntTy) t h = absurd (cc)

under_is : (o p : Option Ty) (t : Ty) → under_bool o p ≡ Some t → p ≡ Some t
under_is None p t h = absurd (cc)
under_is (Some IntTy) p t h = absurd (cc)
under_is (Some BoolTy) p t h = h

abbrev the_type : Option Ty → Ty
the_type None = IntTy
the_type (Some t) = t

-- ---- an operand of the type bool

module _ (ds : List Decl) (ts : Types) (slots : (x : ℕ) (t : Ty) → ty_at ds x ≡ Some t → ts.slot_type x ≡ t) where
  literal_truth : (v : Value) → ty_of v ≡ BoolTy → IsTruthTree ts (of_value v)
  literal_truth (Int n) h = absurd (cc)
  literal_truth (Truth b) h = tt

  binary_truth : (o : Bin) (a b : Tree) (p q : Option Ty) → both_types (bin_type o) p q ≡ Some BoolTy → IsTruthTree ts (of_binary o a b)
  binary_truth Add a b p q h = absurd (never Add refl refl p q h)
  binary_truth Sub a b p q h = absurd (never Sub refl refl p q h)
  binary_truth Mul a b p q h = absurd (never Mul refl refl p q h)
  binary_truth Div a b p q h = absurd (never Div refl refl p q h)
  binary_truth Mod a b p q h = absurd (never Mod refl refl p q h)
  binary_truth Eq a b p q h = tt
  binary_truth Ne a b p q h = tt
  binary_truth Lt a b p q h = tt
  binary_truth Le a b p q h = tt
  binary_truth Gt a b p q h = tt
  binary_truth Ge a b p q h = tt
  binary_truth And a b p q h = tt
  binary_truth Or a b p q h = tt
  binary_truth Xor a b p q h = tt
  binary_truth Implies a b p q h = tt

  truth_tree : (e : Expression) → Direct e → type_of [] ds e ≡ Some BoolTy → IsTruthTree ts (of_expression e)
  truth_tree (literal v) d h = literal_truth v (ap the_type h)
  truth_tree (variable x) d h = slots x BoolTy h
  truth_tree (unary Neg a) d h = absurd (never_negated (type_of [] ds a) h)
  truth_tree (unary Not a) d h = tt
  truth_tree (binary o a b) d h = binary_truth o (of_expression a) (of_expression b) (type_of [] ds a) (type_of [] ds b) h
  truth_tree (imported o a b) d h = absurd (never_imported (type_of [] ds a) (type_of [] ds b) h)
  truth_tree (choose c a b) d h =
      let s = shared (type_of [] ds a) (type_of [] ds b) BoolTy (under_is (type_of [] ds c) (both_types shared_type (type_of [] ds a) (type_of [] ds b)) BoolTy h) in
      (truth_tree a d.1 s.0, truth_tree b d.2 s.1)
  truth_tree (sampled e c b) d h = truth_tree e d (under_is (ty_at ds c) (type_of [] ds e) BoolTy h)
  truth_tree (merged c a b) d h =
      let s = shared (type_of [] ds a) (type_of [] ds b) BoolTy (under_is (ty_at ds c) (both_types shared_type (type_of [] ds a) (type_of [] ds b)) BoolTy h) in
      (truth_tree a d.0 s.0, truth_tree b d.1 s.1)
  truth_tree (delayed v e) d h = elim d [ ]
  truth_tree (follow a b) d h = elim d [ ]
  truth_tree (arrow a b) d h = elim d [ ]
  truth_tree (call g args) d h = elim d [ ]

  -- ---- statements

  under_truths : (ck : ClockPairs) (s : Statement) → AssignsTruths ts s → AssignsTruths ts (under ck s)
  under_truths [] s h = h
  under_truths (p ∷ ck) s h = h

  -- a right side that is flat and has its variable's type
  abbrev GoodRight : ℕ × Expression → Type 0
  GoodRight q = FlatRight q.1 × ((t : Ty) × (ty_at ds q.0 ≡ Some t) × (type_of [] ds q.1 ≡ Some t))

  same_type : (t u : Ty) → Some t ≡ Some u → t ≡ u
  same_type t u h = ap the_type h

  abbrev Delays : List KeepForm → Type 0
  Delays ks = AllByRecursion (λ k. ts.slot_type k.slot ≡ ty_of k.first) ks

  one_let : (q : ℕ) (e : Expression) (s : ℕ) (ck : ClockPairs) (ks : List KeepForm) → GoodRight (q, e) → Delays (kept s ck e ++ ks) → ts.slot_type q ≡ BoolTy → IsTruthTree ts (of_expression (source s e))
  one_let q (delayed v a) s ck ks g d b =
      let is_bool : g.1.0 ≡ BoolTy = sym (slots q g.1.0 g.1.1) ∙ b in
      let p = shared (Some (ty_of v)) (type_of [] ds a) g.1.0 g.1.2 in
      d.0 ∙ same_type (ty_of v) g.1.0 p.0 ∙ is_bool
  one_let q (literal v) s ck ks g d b = truth_tree (literal v) tt (g.1.2 ∙ ap Some (sym (slots q g.1.0 g.1.1) ∙ b))
  one_let q (variable x) s ck ks g d b = truth_tree (variable x) tt (g.1.2 ∙ ap Some (sym (slots q g.1.0 g.1.1) ∙ b))
  one_let q (unary o a) s ck ks g d b = truth_tree (unary o a) g.0 (g.1.2 ∙ ap Some (sym (slots q g.1.0 g.1.1) ∙ b))
  one_let q (binary o x y) s ck ks g d b = truth_tree (binary o x y) g.0 (g.1.2 ∙ ap Some (sym (slots q g.1.0 g.1.1) ∙ b))
  one_let q (imported o x y) s ck ks g d b = truth_tree (imported o x y) g.0 (g.1.2 ∙ ap Some (sym (slots q g.1.0 g.1.1) ∙ b))
  one_let q (choose c x y) s ck ks g d b = truth_tree (choose c x y) g.0 (g.1.2 ∙ ap Some (sym (slots q g.1.0 g.1.1) ∙ b))
  one_let q (sampled e c p) s ck ks g d b = truth_tree (sampled e c p) g.0 (g.1.2 ∙ ap Some (sym (slots q g.1.0 g.1.1) ∙ b))
  one_let q (merged c x y) s ck ks g d b = truth_tree (merged c x y) g.0 (g.1.2 ∙ ap Some (sym (slots q g.1.0 g.1.1) ∙ b))
  one_let q (follow x y) s ck ks g d b = elim g.0 [ ]
  one_let q (arrow x y) s ck ks g d b = elim g.0 [ ]
  one_let q (call f args) s ck ks g d b = elim g.0 [ ]

  one_keep : (q : ℕ) (v : Value) (a : Expression) (s : ℕ) → GoodRight (q, delayed v a) → ts.slot_type s ≡ ty_of v → ts.slot_type s ≡ BoolTy → IsTruthTree ts (of_expression a)
  one_keep q v a s g d b =
      let p = shared (Some (ty_of v)) (type_of [] ds a) g.1.0 g.1.2 in
      truth_tree a g.0 (p.1 ∙ ap Some (sym (same_type (ty_of v) g.1.0 p.0) ∙ sym d ∙ b))

  -- the keeps behind those of one right side
  later : (e : Expression) (s : ℕ) (ck : ClockPairs) (ks : List KeepForm) → Delays (kept s ck e ++ ks) → Delays ks
  later (delayed v a) s ck ks d = d.1
  later e s ck ks d = d

  lets_truths : (qs : List (ℕ × Expression)) (s : ℕ) → AllByRecursion GoodRight qs → Delays (keeps_of ds s qs) → AssignsTruths ts (of_lets (lets_of ds s qs))
  lets_truths [] s g d = tt
  lets_truths (q ∷ qs) s g d =
      let rest = keeps_of ds (next_slot s q.1) qs in (
        under_truths (clock_of ds q.0) (assign (slot q.0) (of_expression (source s q.1))) (λ b. one_let q.0 q.1 s (clock_of ds q.0) rest g.0 d b),
        lets_truths qs (next_slot s q.1) g.1 (later q.1 s (clock_of ds q.0) rest d),
      )

  one_of_keeps : (q : ℕ) (e : Expression) (s : ℕ) (ks : List KeepForm) → GoodRight (q, e) → Delays (kept s (clock_of ds q) e ++ ks) → AssignsTruths ts (of_keeps ks) → AssignsTruths ts (of_keeps (kept s (clock_of ds q) e ++ ks))
  one_of_keeps q (delayed v a) s ks g d h = (under_truths (clock_of ds q) (assign (slot s) (of_expression a)) (λ b. one_keep q v a s g d.0 b), h)
  one_of_keeps q e s ks g d h = h

  keeps_truths : (qs : List (ℕ × Expression)) (s : ℕ) → AllByRecursion GoodRight qs → Delays (keeps_of ds s qs) → AssignsTruths ts (of_keeps (keeps_of ds s qs))
  keeps_truths [] s g d = tt
  keeps_truths (q ∷ qs) s g d =
      let rest = keeps_of ds (next_slot s q.1) qs in
      one_of_keeps q.0 q.1 s rest g.0 d (keeps_truths qs (next_slot s q.1) g.1 (later q.1 s (clock_of ds q.0) rest d))

  firsts_truths : (ks : List KeepForm) → Delays ks → AssignsTruths ts (of_firsts ks)
  firsts_truths [] d = tt
  firsts_truths (k ∷ ks) d = ((λ b. literal_truth k.first (sym d.0 ∙ b)), firsts_truths ks d.1)

-- ---- the equations of a function

in_order_all : (P : ℕ × Expression → Type 0) (eqs : List (ℕ × Expression)) → ((k : ℕ) (q : ℕ × Expression) → slice_get eqs k ≡ Some q → P q) → (order : List ℕ) → AllByRecursion P (in_order eqs order)
in_order_all P eqs h [] = tt
in_order_all P eqs h (k ∷ ks) = go (slice_get eqs k) refl (in_order_all P eqs h ks)
  where
    go : (o : Option (ℕ × Expression)) → slice_get eqs k ≡ o → AllByRecursion P (in_order eqs ks) → AllByRecursion P (with_found o (in_order eqs ks))
    go None e r = r
    go (Some q) e r = (h k q e, r)

stands_at : (f : Function) (qs : List (ℕ × Expression)) → EquationsIn f qs → (k : ℕ) (q : ℕ × Expression) → slice_get qs k ≡ Some q → right_of f.eqs q.0 ≡ Some q.1
stands_at f [] e k q h = absurd (cc)
stands_at f (p ∷ qs) e zero q h = let same : p ≡ q = cc in subst (λ (q : ℕ × Expression). right_of f.eqs q.0 ≡ Some q.1) same e.0
stands_at f (p ∷ qs) e (suc k) q h = stands_at f qs e.1 k q h

type_there : (ds : List Decl) (x : ℕ) → x < length ds → (t : Ty) × (ty_at ds x ≡ Some t)
type_there [] x l = absurd (omega (arith, l))
type_there (d ∷ ds) zero l = (d.ty, refl)
type_there (d ∷ ds) (suc x) l = type_there ds x (omega (arith, l))

module _ (f : Function) (good : GoodFunction f) (flat : FlatFunction f) (typed : TypedFunction [] f) where
  right_good : (ts : Types) (slots : (x : ℕ) (t : Ty) → ty_at f.decls x ≡ Some t → ts.slot_type x ≡ t) (k : ℕ) (q : ℕ × Expression) → slice_get f.eqs k ≡ Some q → GoodRight f.decls ts slots q
  right_good ts slots k q h =
      let s = stands_at f f.eqs (all_found f good) k q h in
      let t = type_there f.decls q.0 (left_below f good q.0 q.1 s) in
      (right_all (λ q. FlatRight q.1) f.eqs flat q.0 q.1 s, (t.0, t.1, typed.rights q.0 q.1 s ∙ t.1))

assigns : (f : Function) (good : GoodFunction f) (flat : FlatFunction f) (typed : TypedFunction [] f) (order : List ℕ) (ts : Types) → SlotsTyped f (code_of f order) ts → StepAssignsTruths (code_of f order) ts
assigns f good flat typed order ts s =
    let rights = in_order_all (GoodRight f.decls ts s.variables) f.eqs (right_good f good flat typed ts s.variables) order in
    record {
      firsts = firsts_truths f.decls ts s.variables (code_of f order).keeps s.delays;
      lets = lets_truths f.decls ts s.variables (in_order f.eqs order) (length f.decls) rights s.delays;
      keeps = keeps_truths f.decls ts s.variables (in_order f.eqs order) (length f.decls) rights s.delays;
    }

pub steps_assign_truths : StepsAssignTruths
steps_assign_truths f c made ts s =
    subst (λ (code : StepCode). StepAssignsTruths code ts) (sym made.is)
    (assigns f made.good made.flat made.typed made.order ts (subst (λ (code : StepCode). SlotsTyped f code ts) made.is s))
