-- The flat form of a checked program keeps what its main function does.
use Rattle.std.proofs.Common.{◌≡◌, ◌∙◌, ℕ, zero, suc, ◌+◌, ◌<◌, ◌≤◌, List, [], ◌∷◌, ◌++◌, length, replicate, Option, Some, refl, sym, ap, subst, arith, append_assoc, length-append}
use Rattle.std.specs.Prelude.{All, IfOk, Result, Ok, Err, slice_index, slice_index_or}
use Rattle.std.specs.List.{range_with_len}
use Rattle.std.proofs.lemmas.List.Elements.{All-nil, All-cons, All-head, All-tail}
use Rattle.lt_base.specs.declared.memory.Memory.{Memory}
use Rattle.lt_base.specs.declared.program.Whole.{Whole}
use Rattle.lt_base.specs.declared.function.Decl.{Decl}
use Rattle.lt_base.specs.Expression.{Expression}
use Rattle.lt_base.specs.Program.{Function, WholeProgram, GoodFunction, GoodProgram}
use Rattle.lt_base.specs.Meaning.{function_of, stream_of}
use Rattle.lt_base.specs.Checked.{CheckedProgram}
use Rattle.lt_base.proofs.Defined.{good_function}
use Rattle.lt_norm.specs.Flat.{Originated}
use Rattle.lt_norm.specs.Lift.{normal_form}
use Rattle.lt_norm.specs.NormalForm.{NormalFormOf, lifted_origins}
use Rattle.lt_norm.proofs.Loop.{lefts_inside}
use Rattle.lt_norm.proofs.NormalForms.{normal_is, normal_good}
use Rattle.lt_expand.specs.Copies.{expansion}
use Rattle.lt_expand.specs.Expansion.{ExpansionOf, ProgramExpansion, WithinLimits, origins_of, copied_origins}
use Rattle.lt_expand.proofs.Expanded.{expands, within_all}
use Rattle.lt_expand.proofs.Lawful.{programs_expand}
use Rattle.lt_front.specs.Flattened.{function_or_none, main_function, expansion_origins, flat_of, KeepsMain}
use Rattle.lt_front.proofs.FlatSizes.{flat_weight, flat_parts, flat_pairs}

-- ---- lists of origins

all_more : {A : Type 0} (P : A → Type 0) (xs ys : List A) → All P xs → All P ys → All P (xs ++ ys)
all_more P [] ys p q = q
all_more P (x ∷ xs) ys p q = All-cons P x (xs ++ ys) (All-head P x xs p) (all_more P xs ys (All-tail P x xs p) q)

all_same : {A : Type 0} (P : A → Type 0) (n : ℕ) (x : A) → P x → All P (replicate n x)
all_same P zero x p = All-nil P
all_same P (suc n) x p = All-cons P x (replicate n x) p (all_same P n x p)

all_range : (k n m : ℕ) → n + m ≤ k → All (λ x. x < k) (range_with_len n m)
all_range k n zero h = All-nil (λ x. x < k)
all_range k n (suc m) h = All-cons (λ x. x < k) n (range_with_len (n + 1) m) (omega (arith, h)) (all_range k (n + 1) m (omega (arith, h)))

-- the origins of the copies are left sides
copies_arose : (P : ℕ → Type 0) (fs : List Function) (qs : List (ℕ × Expression)) → All (λ q. P q.0) qs → All P (copied_origins fs qs)
copies_arose P fs [] a = All-nil P
copies_arose P fs (q ∷ qs) a = all_more P _ _ (all_same P _ q.0 (All-head (λ q. P q.0) q qs a)) (copies_arose P fs qs (All-tail (λ q. P q.0) q qs a))

at_index : (P : ℕ → Type 0) (xs : List ℕ) (x : ℕ) → All P xs → x < length xs → P (slice_index_or xs x 0)
at_index P [] x a l = absurd (omega (arith, l))
at_index P (y ∷ ys) zero a l = All-head P y ys a
at_index P (y ∷ ys) (suc x) a l = at_index P ys x (All-tail P y ys a) (omega (arith, l))

-- the origins of the lifted delays are origins
lifted_arose : (P : ℕ → Type 0) (origin : List ℕ) (ds : List Decl) (qs : List (ℕ × Expression)) → All P origin → All (λ q. q.0 < length origin) qs → All P (lifted_origins origin ds qs)
lifted_arose P origin ds [] a l = All-nil P
lifted_arose P origin ds (q ∷ qs) a l =
    all_more P _ _ (all_same P _ (slice_index_or origin q.0 0) (at_index P origin q.0 a (All-head (λ q. q.0 < length origin) q qs l)))
    (lifted_arose P origin ds qs a (All-tail (λ q. q.0 < length origin) q qs l))

index_range : (n m : ℕ) (ys : List ℕ) (x : ℕ) → x < m → slice_index (range_with_len n m ++ ys) x ≡ n + x
index_range n zero ys x l = absurd (omega (arith, l))
index_range n (suc m) ys zero l = omega arith
index_range n (suc m) ys (suc x) l = index_range (n + 1) m ys x (omega (arith, l)) ∙ (let e : (n + 1) + x ≡ n + suc x = omega arith in e)

-- ---- the flat form

module _ (p : WholeProgram) (good : GoodProgram p) (checked : CheckedProgram p) (within : WithinLimits p) where
  module _ (f : Function) (found : function_of p.funcs p.main ≡ Some f) where
    main_is : main_function p ≡ f
    main_is = ap function_or_none found

    x : ProgramExpansion p (expansion p) (origins_of p.funcs f)
    x = programs_expand p good checked f found

    some : (g h : Function) (o : Option Function) → o ≡ Some g → o ≡ Some h → g ≡ h
    some g h o p q = let same : Some g ≡ Some h = sym p ∙ q in cc

    k : ExpansionOf p.funcs f (expansion p) (origins_of p.funcs f)
    k = subst (λ g. ExpansionOf p.funcs g (expansion p) (origins_of p.funcs f)) (some x.main f (function_of p.funcs p.main) x.found found) x.keeps

    F_good : GoodFunction (expansion p)
    F_good = (expands p good checked (length p.funcs) p.main f found (within_all p good checked p.main good.main)).good

    origins_are : expansion_origins p ≡ origins_of p.funcs f
    origins_are = ap (origins_of p.funcs) main_is

    n : NormalFormOf (expansion p) (expansion_origins p) (normal_form (expansion p)) (expansion_origins p ++ lifted_origins (expansion_origins p) (expansion p).decls (expansion p).eqs)
    n = normal_is (expansion p) F_good k.typed k.clocked k.causal (expansion_origins p)

    o_each : length (expansion_origins p) ≡ length (expansion p).decls
    o_each = ap length origins_are ∙ k.each

    o_arose : All (λ y. y < length f.decls) (expansion_origins p)
    o_arose =
        subst (All (λ y. y < length f.decls)) (sym origins_are)
        (all_more (λ y. y < length f.decls) _ _ (all_range (length f.decls) 0 (length f.decls) (omega arith))
        (copies_arose (λ y. y < length f.decls) p.funcs f.eqs (lefts_inside f (good_function p good checked p.main f found))))

    inside : (y : ℕ) → y < length f.decls → y < length (expansion p).decls
    inside y l = let d = ap length k.declarations in let a = length-append f.decls k.more in omega (arith, l, d, a)

    own_at : (y : ℕ) → y < length f.decls → slice_index (expansion_origins p ++ lifted_origins (expansion_origins p) (expansion p).decls (expansion p).eqs) y ≡ y
    own_at y l =
        ap (λ (os : List ℕ). slice_index (os ++ lifted_origins (expansion_origins p) (expansion p).decls (expansion p).eqs) y) origins_are
        ∙ ap (λ os. slice_index os y) (append_assoc (range_with_len 0 (length f.decls)) _ _)
        ∙ index_range 0 (length f.decls) _ y l
        ∙ (let e : 0 + y ≡ y = omega arith in e)

    all_arose : All (λ y. y < length f.decls) (expansion_origins p ++ lifted_origins (expansion_origins p) (expansion p).decls (expansion p).eqs)
    all_arose =
        all_more (λ y. y < length f.decls) _ _ o_arose
        (lifted_arose (λ y. y < length f.decls) (expansion_origins p) (expansion p).decls (expansion p).eqs o_arose
        (subst (λ k. All (λ q. q.0 < k) (expansion p).eqs) (sym o_each) (lefts_inside (expansion p) F_good)))

    few : length (normal_form (expansion p)).decls ≤ 4096
    few = let w = n.within in let s = x.weight in let m = within.0 in omega (arith, w, s, m)

    kept : KeepsMain p (record { func = normal_form (expansion p); origin = expansion_origins p ++ lifted_origins (expansion_origins p) (expansion p).decls (expansion p).eqs })
    kept = record {
      inputs = n.inputs ∙ k.inputs ∙ sym (ap (λ (g : Function). g.n_in) main_is);
      outputs = n.outputs ∙ k.outputs ∙ sym (ap (λ (g : Function). g.outs) main_is);
      more = k.more ++ n.more;
      declarations =
          n.declarations ∙ ap (λ ds. ds ++ n.more) k.declarations ∙ append_assoc f.decls k.more n.more
          ∙ sym (ap (λ (g : Function). g.decls ++ (k.more ++ n.more)) main_is);
      streams = λ rows y l.
          (let ls : y < length f.decls = subst (λ (g : Function). y < length g.decls) main_is l in
          n.streams rows y (inside y ls) ∙ k.streams rows y ls ∙ sym (ap (λ (g : Function). stream_of p.funcs g rows y) main_is));
      typed = n.typed;
      clocked = n.clocked;
      causal = n.causal;
      flat = n.flat;
      each = n.each o_each;
      own = λ y l. own_at y (subst (λ (g : Function). y < length g.decls) main_is l);
      arose = subst (λ (g : Function). All (λ y. y < length g.decls) (expansion_origins p ++ lifted_origins (expansion_origins p) (expansion p).decls (expansion p).eqs)) (sym main_is) all_arose;
      few = few;
      slots = (let w = flat_weight (normal_form (expansion p)) (normal_good (expansion p) F_good k.typed k.clocked k.causal) n.flat in omega (arith, w, few));
      parts = (let s = flat_parts (expansion p) in let e = x.parts in let m = within.1 in omega (arith, s, e, m));
      pairs = flat_pairs (normal_form (expansion p)).decls n.clocked.clocks few;
    }

  found_main : (i : ℕ) (fs : List Function) → i < length fs → (f : Function) × (function_of fs i ≡ Some f)
  found_main i [] l = absurd (omega (arith, l))
  found_main zero (g ∷ fs) l = (g, refl)
  found_main (suc i) (g ∷ fs) l = found_main i fs (omega (arith, l))

  pub keeps_main : KeepsMain p (flat_of p)
  unfolding flat_of
  keeps_main = let m = found_main p.main p.funcs good.main in kept m.0 m.1

-- the normal form of an expansion is the flat form
pub is_flat : (p : WholeProgram) (W : Whole) (flat : Originated) → W.func ≡ expansion p → ProgramExpansion p W.func W.origin → flat.func ≡ normal_form W.func → NormalFormOf W.func W.origin flat.func flat.origin → flat ≡ flat_of p
unfolding flat_of
is_flat p W flat form x normal n =
    let os : W.origin ≡ expansion_origins p = x.keeps.origins ∙ ap (origins_of p.funcs) (sym (ap function_or_none x.found)) in
    λ i. record {
      func = (normal ∙ ap normal_form form) i;
      origin = (n.origins ∙ (λ j. os j ++ lifted_origins (os j) (form j).decls (form j).eqs)) i;
    }

-- and keeps what main does
pub flat_keeps : (p : WholeProgram) → GoodProgram p → CheckedProgram p → WithinLimits p → (flat : Originated) → flat ≡ flat_of p → KeepsMain p flat
flat_keeps p good checked within flat is = subst (KeepsMain p) (sym is) (keeps_main p good checked within)

module _ (p : WholeProgram) (W : Whole) (form : W.func ≡ expansion p) (x : ProgramExpansion p W.func W.origin) where
  -- the same of a call that may find no memory
  pub flat_if : (r : Result Originated Memory) → IfOk r (λ flat. flat.func ≡ normal_form W.func) → IfOk r (λ flat. NormalFormOf W.func W.origin flat.func flat.origin) → IfOk r (λ flat. flat ≡ flat_of p)
  flat_if (Ok flat) normal n = is_flat p W flat form x normal n
  flat_if (Err e) normal n = tt

  pub keeps_if : GoodProgram p → CheckedProgram p → WithinLimits p → (r : Result Originated Memory) → IfOk r (λ flat. flat.func ≡ normal_form W.func) → IfOk r (λ flat. NormalFormOf W.func W.origin flat.func flat.origin) → IfOk r (KeepsMain p)
  keeps_if good checked within (Ok flat) normal n = flat_keeps p good checked within flat (is_flat p W flat form x normal n)
  keeps_if good checked within (Err e) normal n = tt
