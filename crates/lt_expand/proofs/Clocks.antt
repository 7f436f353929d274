-- A function with copies in place of its calls is clocked, and no call is left in it.
use Rattle.std.proofs.Common.{◌≡◌, ℕ, zero, suc, ◌+◌, ◌<◌, ◌≤◌, Bool, true, false, List, [], ◌∷◌, length, All, Some, refl, sym, ap, ◌∙◌, subst, arith, ltb-true, ltb-false}
use Rattle.std.specs.Prelude.{nat_lt}
use Rattle.std.proofs.lemmas.List.Elements.{All-nil, All-cons}
use Rattle.lt_base.specs.declared.function.Decl.{Decl}
use Rattle.lt_base.specs.Expression.{Expression, literal, variable, unary, binary, imported, choose, sampled, merged, delayed, follow, arrow, call, Arguments, no_arguments, argument}
use Rattle.lt_base.specs.Program.{Function, GoodFunction}
use Rattle.lt_base.specs.Meaning.{ClockPairs, clock_of, right_of, outer}
use Rattle.lt_base.specs.Clocking.{WellFormed, Clocked, ArgumentsClocked, ClockedFunction}
use Rattle.lt_base.specs.Placed.{renamed, below}
use Rattle.lt_base.specs.Checked.{argument_count}
use Rattle.lt_base.specs.Calls.{EachCall}
use Rattle.lt_base.proofs.Lookups.{all_found, left_below}
use Rattle.lt_expand.proofs.Basics.{all_equations}
use Rattle.lt_expand.proofs.Basics.{well_more}
use Rattle.lt_expand.specs.Copies.{raise, first_or_zero, Library, Copy, grown, arguments_grown, inlined, arguments_inlined, copies, arguments_copies, input_equations, equations_copies, with_copies}
use Rattle.lt_expand.proofs.Standing.{Each, Declared, Stands}
use Rattle.lt_expand.proofs.Filled.{each_left, each_right, each_copy_map, each_both}
use Rattle.lt_expand.proofs.Counted.{Countable}
use Rattle.lt_expand.proofs.Told.{base_at}
use Rattle.lt_expand.proofs.Inherited.{Inherited, each_equation_copy}
use Rattle.lt_expand.proofs.Opened.{opened_more, opened_numbers, opened_stand, opened_clocks}
use Rattle.lt_expand.proofs.Equations.{Fitted, Used, ArgumentsUsed, Equations, each_equation, in_copies}

-- ---- no call where no function is known

pub clocked_callless : (ds : List Decl) (e : Expression) (ck : ClockPairs) → Clocked [] ds e ck → EachCall (λ g. ⊥) e
clocked_callless ds (literal v) ck k = tt
clocked_callless ds (variable x) ck k = tt
clocked_callless ds (unary o a) ck k = clocked_callless ds a ck k
clocked_callless ds (binary o a b) ck k = (clocked_callless ds a ck k.0, clocked_callless ds b ck k.1)
clocked_callless ds (imported o a b) ck k = (clocked_callless ds a ck k.0, clocked_callless ds b ck k.1)
clocked_callless ds (choose c a b) ck k = (clocked_callless ds c ck k.0, clocked_callless ds a ck k.1, clocked_callless ds b ck k.2)
clocked_callless ds (sampled e c b) [] k = elim k [ ]
clocked_callless ds (sampled e c b) ((d, a) ∷ ck) k = clocked_callless ds e ck k.2.2
clocked_callless ds (merged c a b) ck k = (clocked_callless ds a ((c, true) ∷ ck) k.2, clocked_callless ds b ((c, false) ∷ ck) k.3)
clocked_callless ds (delayed v e) ck k = clocked_callless ds e ck k
clocked_callless ds (follow a b) ck k = (clocked_callless ds a ck k.0, clocked_callless ds b ck k.1)
clocked_callless ds (arrow a b) ck k = (clocked_callless ds a ck k.0, clocked_callless ds b ck k.1)
clocked_callless ds (call g args) ck k = elim k.0 [ ]

-- ---- a copy

module _ (F : Function) (c : Copy) (declared : Declared F c) where
  abbrev m : ℕ
  m = c.from

  abbrev h : Function
  h = c.source

  pub well_copy : (k : ClockPairs) → WellFormed F.decls c.clock → WellFormed h.decls k → WellFormed F.decls (below (raise m) k c.clock)
  well_copy [] w v = w
  well_copy ((x, b) ∷ k) w v = (declared.numbers x v.0, declared.clocks x v.0 ∙ ap (λ z. below (raise m) z c.clock) v.1, well_copy k w v.2)

  copy_clocked : (e : Expression) (k : ClockPairs) → Clocked [] h.decls e k → Clocked [] F.decls (renamed (raise m) e) (below (raise m) k c.clock)
  copy_clocked (literal v) k t = tt
  copy_clocked (variable x) k t = (declared.numbers x t.0, declared.clocks x t.0 ∙ ap (λ z. below (raise m) z c.clock) t.1)
  copy_clocked (unary o a) k t = copy_clocked a k t
  copy_clocked (binary o a b) k t = (copy_clocked a k t.0, copy_clocked b k t.1)
  copy_clocked (imported o a b) k t = (copy_clocked a k t.0, copy_clocked b k t.1)
  copy_clocked (choose d a b) k t = (copy_clocked d k t.0, copy_clocked a k t.1, copy_clocked b k t.2)
  copy_clocked (sampled e x b) [] t = elim t [ ]
  copy_clocked (sampled e x b) ((d, a) ∷ k) t = (ap (raise m) t.0, t.1, (declared.numbers x t.2.0, declared.clocks x t.2.0 ∙ ap (λ z. below (raise m) z c.clock) t.2.1, copy_clocked e k t.2.2))
  copy_clocked (merged x a b) k t = (declared.numbers x t.0, declared.clocks x t.0 ∙ ap (λ z. below (raise m) z c.clock) t.1, copy_clocked a ((x, true) ∷ k) t.2, copy_clocked b ((x, false) ∷ k) t.3)
  copy_clocked (delayed v e) k t = copy_clocked e k t
  copy_clocked (follow a b) k t = (copy_clocked a k t.0, copy_clocked b k t.1)
  copy_clocked (arrow a b) k t = (copy_clocked a k t.0, copy_clocked b k t.1)
  copy_clocked (call g args) k t = elim t.0 [ ]

  abbrev IsClocked : ℕ → Expression → Type 0
  IsClocked x e = Clocked [] F.decls e (clock_of F.decls x)

  inputs_clocked : (n : ℕ) (args : Arguments) → ((i : ℕ) → i < argument_count args → clock_of F.decls (i + n) ≡ c.clock) → ArgumentsClocked [] F.decls args c.clock → All (λ q. IsClocked q.0 q.1) (input_equations n args)
  inputs_clocked n no_arguments k t = All-nil (λ q. IsClocked q.0 q.1)
  inputs_clocked n (argument e args) k t =
      All-cons (λ q. IsClocked q.0 q.1) (n, e) (input_equations (suc n) args) (subst (Clocked [] F.decls e) (sym (ap (clock_of F.decls) (omega arith) ∙ k 0 (omega arith))) t.0)
      (inputs_clocked (suc n) args (λ i l. ap (clock_of F.decls) (omega arith) ∙ k (suc i) (omega (arith, l))) t.1)

-- ---- an expression

module _ (lib : Library) (fs : List Function) (f F : Function) (low : length f.decls ≤ length F.decls) (kept : (x : ℕ) → x < length f.decls → clock_of F.decls x ≡ clock_of f.decls x) where
  mutual
    pub inlined_clocked : (e : Expression) (n : ℕ) (ck : ClockPairs) → Used fs lib e → Clocked fs f.decls e ck → Each (Stands F) (copies lib n ck e) → Clocked [] F.decls (inlined lib n e) ck
    inlined_clocked (literal v) n ck u k s = tt
    inlined_clocked (variable x) n ck u k s = (omega (arith, k.0, low), kept x k.0 ∙ k.1)
    inlined_clocked (unary o a) n ck u k s = inlined_clocked a n ck u k s
    inlined_clocked (binary o a b) n ck u k s =
        (inlined_clocked a n ck u.0 k.0 (each_left (Stands F) (copies lib n ck a) _ s), inlined_clocked b (n + grown lib a) ck u.1 k.1 (each_right (Stands F) (copies lib n ck a) _ s))
    inlined_clocked (imported o a b) n ck u k s =
        (inlined_clocked a n ck u.0 k.0 (each_left (Stands F) (copies lib n ck a) _ s), inlined_clocked b (n + grown lib a) ck u.1 k.1 (each_right (Stands F) (copies lib n ck a) _ s))
    inlined_clocked (choose c a b) n ck u k s =
        let s' = each_right (Stands F) (copies lib n ck c) _ s in (
          inlined_clocked c n ck u.0 k.0 (each_left (Stands F) (copies lib n ck c) _ s),
          inlined_clocked a (n + grown lib c) ck u.1 k.1 (each_left (Stands F) (copies lib (n + grown lib c) ck a) _ s'),
          inlined_clocked b ((n + grown lib c) + grown lib a) ck u.2 k.2 (each_right (Stands F) (copies lib (n + grown lib c) ck a) _ s'),
        )
    inlined_clocked (sampled e c b) n [] u k s = elim k [ ]
    inlined_clocked (sampled e c b) n ((x, a) ∷ ck) u k s = (k.0, k.1, (omega (arith, k.2.0, low), kept c k.2.0 ∙ k.2.1, inlined_clocked e n ck u k.2.2 s))
    inlined_clocked (merged c a b) n ck u k s = (
      omega (arith, k.0, low),
      kept c k.0 ∙ k.1,
      inlined_clocked a n ((c, true) ∷ ck) u.0 k.2 (each_left (Stands F) (copies lib n ((c, true) ∷ ck) a) _ s),
      inlined_clocked b (n + grown lib a) ((c, false) ∷ ck) u.1 k.3 (each_right (Stands F) (copies lib n ((c, true) ∷ ck) a) _ s),
    )
    inlined_clocked (delayed v e) n ck u k s = inlined_clocked e n ck u k s
    inlined_clocked (follow a b) n ck u k s =
        (inlined_clocked a n ck u.0 k.0 (each_left (Stands F) (copies lib n ck a) _ s), inlined_clocked b (n + grown lib a) ck u.1 k.1 (each_right (Stands F) (copies lib n ck a) _ s))
    inlined_clocked (arrow a b) n ck u k s =
        (inlined_clocked a n ck u.0 k.0 (each_left (Stands F) (copies lib n ck a) _ s), inlined_clocked b (n + grown lib a) ck u.1 k.1 (each_right (Stands F) (copies lib n ck a) _ s))
    inlined_clocked (call g args) n ck u k s =
        let own = (each_right (Stands F) (arguments_copies lib n ck args) _ s).0 in
        let h = lib g in
        let y = first_or_zero h.outs in
        (own.declared.numbers y u.0.out_declared, own.declared.clocks y u.0.out_declared ∙ ap (λ z. below (raise (n + arguments_grown lib args)) z ck) u.0.out_on_base)

    pub arguments_inlined_clocked : (args : Arguments) (n : ℕ) (ck : ClockPairs) → ArgumentsUsed fs lib args → ArgumentsClocked fs f.decls args ck → Each (Stands F) (arguments_copies lib n ck args) → ArgumentsClocked [] F.decls (arguments_inlined lib n args) ck
    arguments_inlined_clocked no_arguments n ck u k s = tt
    arguments_inlined_clocked (argument e args) n ck u k s =
        (inlined_clocked e n ck u.0 k.0 (each_left (Stands F) (copies lib n ck e) _ s), arguments_inlined_clocked args (n + grown lib e) ck u.1 k.1 (each_right (Stands F) (copies lib n ck e) _ s))

-- ---- every place of a call is on a well-formed clock

-- used, and clocked at a well-formed clock
abbrev pub AtClock : List Function → Library → List Decl → ClockPairs → Expression → Type 0
AtClock fs lib ds ck e = Used fs lib e × WellFormed ds ck × Clocked fs ds e ck

abbrev pub ArgumentsAtClock : List Function → Library → List Decl → ClockPairs → Arguments → Type 0
ArgumentsAtClock fs lib ds ck args = ArgumentsUsed fs lib args × WellFormed ds ck × ArgumentsClocked fs ds args ck

outer_well : (ds : List Decl) (ck : ClockPairs) → WellFormed ds ck → WellFormed ds (outer ck)
outer_well ds [] w = tt
outer_well ds ((c, b) ∷ ck) w = w.2

sampled_clocked : (fs : List Function) (ds : List Decl) (ck : ClockPairs) (e : Expression) (c : ℕ) (b : Bool) → Clocked fs ds (sampled e c b) ck → Clocked fs ds e (outer ck)
sampled_clocked fs ds [] e c b k = elim k [ ]
sampled_clocked fs ds ((d, a) ∷ ck) e c b k = k.2.2

pub clock_inherited : (fs : List Function) (lib : Library) (ds : List Decl) → Inherited (AtClock fs lib ds) (ArgumentsAtClock fs lib ds)
clock_inherited fs lib ds = record {
  one = λ o ck a h. h;
  two = λ o ck a b h. ((h.0.0, h.1, h.2.0), (h.0.1, h.1, h.2.1));
  outside = λ o ck a b h. ((h.0.0, h.1, h.2.0), (h.0.1, h.1, h.2.1));
  three = λ ck c a b h. ((h.0.0, h.1, h.2.0), (h.0.1, h.1, h.2.1), (h.0.2, h.1, h.2.2));
  up = λ ck e c b h. (h.0, outer_well ds ck h.1, sampled_clocked fs ds ck e c b h.2);
  down = λ ck c a b h. ((h.0.0, (h.2.0, h.2.1, h.1), h.2.2), (h.0.1, (h.2.0, h.2.1, h.1), h.2.3));
  late = λ ck v e h. h;
  later = λ ck a b h. ((h.0.0, h.1, h.2.0), (h.0.1, h.1, h.2.1));
  first = λ ck a b h. ((h.0.0, h.1, h.2.0), (h.0.1, h.1, h.2.1));
  inside = λ ck g args h. (h.0.1, h.1, h.2.1);
  each = λ ck e args h. ((h.0.0, h.1, h.2.0), (h.0.1, h.1, h.2.1));
}

-- ---- the function

clock_past : (ds : List Decl) (x : ℕ) → length ds ≤ x → clock_of ds x ≡ []
clock_past [] x l = refl
clock_past (d ∷ ds) zero l = absurd (omega arith)
clock_past (d ∷ ds) (suc x) l = clock_past ds x (omega arith)

module _ (lib : Library) (fs : List Function) (f : Function) (good : GoodFunction f) (clocked : ClockedFunction fs f) (used : (x : ℕ) (e : Expression) → right_of f.eqs x ≡ Some e → Used fs lib e) (countable : Each Countable (equations_copies lib f.decls (length f.decls) f.eqs)) (fitted : Each (Fitted fs) (equations_copies lib f.decls (length f.decls) f.eqs)) where
  abbrev N : ℕ
  N = length f.decls

  abbrev F : Function
  F = with_copies lib f

  abbrev cs : List Copy
  cs = equations_copies lib f.decls N f.eqs

  low : N ≤ length F.decls
  low = let l = opened_more lib f good countable in omega (arith, l)

  kept : (x : ℕ) → x < N → clock_of F.decls x ≡ clock_of f.decls x
  kept = opened_clocks lib f good countable

  pub record CopyClocked (c : Copy) : Type 0 where
    pub old : WellFormed f.decls c.clock
    pub well : WellFormed F.decls c.clock
    pub inputs : ArgumentsClocked [] F.decls c.inputs c.clock

  pub at_clocks : All (λ q. AtClock fs lib f.decls (clock_of f.decls q.0) q.1) f.eqs
  at_clocks =
      all_equations (λ x e. AtClock fs lib f.decls (clock_of f.decls x) e) f f.eqs (all_found f good) (λ x e h. (used x e h, clocked.clocks x, clocked.rights x e h))

  pub copies_clocked : Each CopyClocked cs
  copies_clocked =
      each_equation_copy lib (Stands F) (AtClock fs lib f.decls) (ArgumentsAtClock fs lib f.decls) (clock_inherited fs lib f.decls) CopyClocked (λ ck g args n h s. record {
        old = h.1;
        well = well_more f F low kept ck h.1;
        inputs = arguments_inlined_clocked lib fs f F low kept args n ck h.0.1 h.2.1 s;
      }) f.decls N f.eqs at_clocks (opened_stand lib f good countable)

  well_in : (c : Copy) → (Stands F c × Fitted fs c) × CopyClocked c → (x : ℕ) → x < length c.source.decls → WellFormed F.decls (clock_of F.decls (x + c.from))
  well_in c k x l =
      subst (WellFormed F.decls) (sym (k.0.0.declared.clocks x l)) (well_copy F c k.0.0.declared (clock_of c.source.decls x) k.1.well (k.0.1.fits.clocked.clocks x))

  all_facts : Each (λ c. (Stands F c × Fitted fs c) × CopyClocked c) cs
  all_facts = each_both (λ c. Stands F c × Fitted fs c) CopyClocked cs (each_both (Stands F) (Fitted fs) cs (opened_stand lib f good countable) fitted) copies_clocked

  abbrev Right : ℕ → Expression → Type 0
  Right x e = Clocked [] F.decls e (clock_of F.decls x)

  equations_in : (c : Copy) → (Stands F c × Fitted fs c) × CopyClocked c → Equations Right c
  equations_in c k =
      let d = k.0.0.declared in
      let fits = k.0.1.fits in
      let i = fits.good.inputs in
      let a = fits.arity in
      record {
        good = fits.good;
        inputs = inputs_clocked F c d c.from c.inputs (λ j l. d.clocks j (omega (arith, i, a, l)) ∙ ap (λ z. below (raise c.from) z c.clock) (base_at c.source.decls c.source.n_in j fits.good.inputs_on_base (omega (arith, a, l)))) k.1.inputs;
        rights = λ x e h. subst (Clocked [] F.decls (renamed (raise c.from) e)) (sym (d.clocks x (left_below c.source fits.good x e h))) (copy_clocked F c d e (clock_of c.source.decls x) (fits.clocked.rights x e h));
      }

  clocks_at : (x : ℕ) (t u : Bool) → nat_lt x N ≡ t → nat_lt x (length F.decls) ≡ u → WellFormed F.decls (clock_of F.decls x)
  clocks_at x true u t r = let d = ltb-true x N t in subst (WellFormed F.decls) (sym (kept x d)) (well_more f F low kept (clock_of f.decls x) (clocked.clocks x))
  clocks_at x false true t r =
      let l = opened_more lib f good countable in
      let a = ltb-false x N t in
      let b = ltb-true x (length F.decls) r in
      in_copies (λ z. WellFormed F.decls (clock_of F.decls z)) N cs (opened_numbers lib f good countable) (each_copy_map (λ c. (Stands F c × Fitted fs c) × CopyClocked c) (λ c. (x : ℕ) → x < length c.source.decls → WellFormed F.decls (clock_of F.decls (x + c.from))) well_in cs all_facts) x a (omega (arith, b, l))
  clocks_at x false false t r = subst (WellFormed F.decls) (sym (clock_past F.decls x (ltb-false x (length F.decls) r))) tt

  pub opened_clocked : ClockedFunction [] F
  opened_clocked = record {
    clocks = λ x. clocks_at x (nat_lt x N) (nat_lt x (length F.decls)) refl refl;
    rights = each_equation lib f good countable (Stands F) (opened_stand lib f good countable) Right (λ x e d h n l s. subst (Clocked [] F.decls (inlined lib n e)) (sym (kept x d)) (inlined_clocked lib fs f F low kept e n (clock_of f.decls x) (used x e h) (clocked.rights x e h) s)) (each_copy_map (λ c. (Stands F c × Fitted fs c) × CopyClocked c) (Equations Right) equations_in cs all_facts);
  }
