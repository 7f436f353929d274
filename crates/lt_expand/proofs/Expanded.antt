-- Every function of a checked program keeps its variables and streams where its calls are replaced by copies.
use Rattle.std.proofs.Common.{◌≡◌, ℕ, zero, suc, ◌<◌, true, List, [], ◌∷◌, ◌++◌, length, map, take, All, Option, Some, None, refl, sym, ap, ◌∙◌, subst, arith, ⊎_elim}
use Rattle.std.proofs.lemmas.List.{take-append-le}
use Rattle.std.proofs.lemmas.List.Elements.{All-head, All-tail}
use Rattle.lt_base.specs.declared.value.Value.{Value}
use Rattle.lt_base.specs.declared.function.Decl.{Decl}
use Rattle.lt_base.specs.Expression.{Expression}
use Rattle.lt_base.specs.Program.{Function, GoodFunction, WholeProgram, GoodProgram, VarsBelow, CallsBelow}
use Rattle.lt_base.specs.Meaning.{Environment, Callee, clock_of, right_of, present, environments, answer, function_of, calls, stream_of}
use Rattle.lt_base.specs.Typing.{input_types, answer_type, arguments_fit, call_type, TypedFunction}
use Rattle.lt_base.specs.Clocking.{FirstOnBase, AnswersOnBase, ClockedFunction}
use Rattle.lt_base.specs.Dependence.{Causal, has}
use Rattle.lt_base.specs.Calls.{EachCall, called, equations_called, function_called, CallsFunction}
use Rattle.lt_base.specs.Solution.{AllSame}
use Rattle.lt_base.specs.Checked.{EachUse, AnswersCall, CheckedProgram}
use Rattle.lt_base.specs.Kept.{Keeps}
use Rattle.lt_base.proofs.Heights.{each_call_at, each_call_from, below_each, calls_function, height_of, height_low, height_lower}
use Rattle.lt_base.proofs.Reading.{has_cases}
use Rattle.lt_base.proofs.Kept.{kept_means, kept_streams}
use Rattle.lt_base.proofs.Calls.{callless_streams}
use Rattle.lt_base.proofs.Lookups.{all_found, right_all, function_all, more_good, ty_left}
use Rattle.lt_base.proofs.Defined.{program_closed, good_function, typed_function, clocked_function, causal_function}
use Rattle.lt_expand.proofs.Basics.{all_equations, clocked_below}
use Rattle.lt_expand.proofs.Basics.{well_below}
use Rattle.lt_expand.specs.Copies.{first_or_zero, Library, Copy, copied_decls, equations_copies, with_copies, opened_or, expanded}
use Rattle.lt_expand.specs.Walk.{NestsWithin}
use Rattle.lt_expand.proofs.Standing.{Each, Stands}
use Rattle.lt_expand.proofs.Fitting.{Fits, Answering}
use Rattle.lt_expand.proofs.Filled.{each_copy_map, each_both}
use Rattle.lt_expand.proofs.Counted.{Countable}
use Rattle.lt_expand.proofs.Opened.{opened_stand, opened_found, opened_lefts, opened_keeps}
use Rattle.lt_expand.proofs.Equations.{Fitted, fitted_countable, Used, all_fitted}
use Rattle.lt_expand.proofs.Clocks.{clocked_callless, CopyClocked, copies_clocked, opened_clocked}
use Rattle.lt_expand.proofs.Types.{ClockVars, copied_clock_vars, opened_typed}
use Rattle.lt_expand.proofs.Ranks.{opened_causal}
use Rattle.lt_expand.proofs.Uses.{use_from, clocked_calls, use_map, right_each}

-- ---- one function over a library

-- F keeps the variables of f, passes the checks without any other function, and tells f's equations
pub record Expands (callee : Callee) (F f : Function) : Type 0 where
  pub name : F.name ≡ f.name
  pub inputs : F.n_in ≡ f.n_in
  pub outputs : F.outs ≡ f.outs
  pub more : List Decl
  pub declarations : F.decls ≡ f.decls ++ more
  pub good : GoodFunction F
  pub clocked : ClockedFunction [] F
  pub typed : TypedFunction [] F
  pub causal : Causal F
  pub keeps : Keeps callee F f

module _ (callee : Callee) (lib : Library) (fs : List Function) (f : Function) (good : GoodFunction f) (clocked : ClockedFunction fs f) (typed : TypedFunction fs f) (causal : Causal f) (answering : (x : ℕ) (e : Expression) → right_of f.eqs x ≡ Some e → EachUse (λ g n. Answering callee fs (lib g) g n) e) where
  abbrev N : ℕ
  N = length f.decls

  abbrev F : Function
  F = with_copies lib f

  abbrev cs : List Copy
  cs = equations_copies lib f.decls N f.eqs

  used : (x : ℕ) (e : Expression) → right_of f.eqs x ≡ Some e → Used fs lib e
  used x e h = use_map (λ g n. Answering callee fs (lib g) g n) (λ g n. Fits fs (lib g) g n) (λ g n a. a.fits) e (answering x e h)

  fitted : Each (Fitted fs) cs
  fitted = all_fitted fs lib f.decls N f.eqs (all_equations (λ x e. Used fs lib e) f f.eqs (all_found f good) used)

  countable : Each Countable cs
  countable = each_copy_map (Fitted fs) Countable (fitted_countable fs) cs fitted

  clocked' : ClockedFunction [] F
  clocked' = opened_clocked lib fs f good clocked used countable fitted

  abbrev Facts : Copy → Type 0
  Facts c = (Stands F c × Fitted fs c) × CopyClocked lib fs f good clocked used countable fitted c

  all_facts : Each Facts cs
  all_facts =
      each_both (λ c. Stands F c × Fitted fs c) (CopyClocked lib fs f good clocked used countable fitted) cs (each_both (Stands F) (Fitted fs) cs (opened_stand lib f good countable) fitted) (copies_clocked lib fs f good clocked used countable fitted)

  clocks_below : (c : Copy) → Facts c → ClockVars (λ x. x < length F.decls) c
  clocks_below c k = record {
    outside = well_below F.decls c.clock k.1.well;
    inside = λ i d l j p b. k.0.0.declared.numbers _ (k.0.1.fits.good.clocks i d l j p b);
  }

  opened_good : GoodFunction F
  opened_good =
      more_good f (copied_decls cs) F.eqs good
      (copied_clock_vars (λ x. x < length F.decls) cs (each_copy_map Facts (ClockVars (λ x. x < length F.decls)) clocks_below cs all_facts))
      (all_equations (λ x e. VarsBelow (length F.decls) e) F F.eqs (opened_found lib f good countable) (λ x e h. clocked_below F.decls e (clock_of F.decls x) (clocked'.rights x e h)))
      (opened_lefts lib f good countable)

  pub opened_expands : Expands callee F f
  opened_expands = record {
    name = refl;
    inputs = refl;
    outputs = refl;
    more = copied_decls cs;
    declarations = refl;
    good = opened_good;
    clocked = clocked';
    typed = opened_typed lib fs f good clocked typed used countable fitted;
    causal = opened_causal lib fs f good clocked causal used countable fitted;
    keeps = opened_keeps lib f good countable callee fs (right_each (λ e. EachUse (λ g n. Answering callee fs (lib g) g n) e) f.eqs (all_equations (λ x e. EachUse (λ g n. Answering callee fs (lib g) g n) e) f f.eqs (all_found f good) answering));
  }

-- ---- what answers a call

answer_same : (ds : List Decl) (y : ℕ) → y < length ds → clock_of ds y ≡ [] → (es es' : List Environment) → AllSame ds es es' → answer (y ∷ []) es ≡ answer (y ∷ []) es'
answer_same ds y d c [] [] s = refl
answer_same ds y d c [] (env' ∷ es') s = elim s [ ]
answer_same ds y d c (env ∷ es) [] s = elim s [ ]
answer_same ds y d c (env ∷ es) (env' ∷ es') s = s.0 y d (ap (present env) c)

only_one : (ys : List ℕ) → length ys ≡ 1 → ys ≡ first_or_zero ys ∷ []
only_one [] h = absurd (omega (arith, h))
only_one (y ∷ []) h = refl
only_one (y ∷ z ∷ ys) h = absurd (omega (arith, h))

first_base : (ds : List Decl) (ys : List ℕ) → FirstOnBase ds ys → (first_or_zero ys < length ds) × (clock_of ds (first_or_zero ys) ≡ [])
first_base ds [] b = elim b [ ]
first_base ds (y ∷ ys) b = b

module _ (p : WholeProgram) (good : GoodProgram p) (checked : CheckedProgram p) where
  abbrev fs : List Function
  fs = p.funcs

  abbrev C : Callee
  C = calls fs (length fs)

  answers_by : (F f : Function) (g : ℕ) → function_of fs g ≡ Some f → Expands C F f → length f.outs ≡ 1 → FirstOnBase f.decls f.outs → Answering C fs F g f.n_in
  answers_by F f g e x one base =
      let y = first_or_zero f.outs in
      let out : f.outs ≡ y ∷ [] = only_one f.outs one in
      let on = first_base f.decls f.outs base in
      let low = x.keeps.more in
      let same = kept_means C F f x.keeps fs x.causal (causal_function p good checked g f e) (clocked_function p good checked g f e) in
      let outs : F.outs ≡ y ∷ [] = x.outputs ∙ out in
      let first : first_or_zero F.outs ≡ y = ap first_or_zero x.outputs in
      let types_kept : input_types F ≡ input_types f =
      (λ i. map (λ d. d.ty) (take (x.inputs i) (x.declarations i))) ∙ ap (map (λ d. d.ty)) (take-append-le f.n_in f.decls x.more (good_function p good checked g f e).inputs) in
      let answer_kept : answer_type F.decls F.outs ≡ answer_type f.decls f.outs =
      (λ i. answer_type (x.declarations i) (outs i)) ∙ ty_left f.decls x.more y on.0 ∙ sym (ap (answer_type f.decls) out) in
      record {
        fits = record {
          good = x.good;
          clocked = x.clocked;
          typed = x.typed;
          causal = x.causal;
          one_out = outs ∙ sym (ap (λ z. z ∷ []) first);
          out_declared = subst (λ z. z < length F.decls) (sym first) (omega (arith, on.0, low));
          out_on_base = ap (clock_of F.decls) first ∙ x.keeps.clocks y on.0 ∙ on.1;
          arity = x.inputs;
          types = λ us. ap (λ o. call_type o us) e ∙ sym (λ i. arguments_fit (types_kept i) us (answer_kept i));
        };
        meant = λ rows.
            (program_closed p good checked).calls g f e rows
            ∙ ap (λ ys. answer ys (environments C f rows)) out
            ∙ sym (answer_same f.decls y on.0 on.1 (environments C F rows) (environments C f rows) (same rows))
            ∙ ap (λ ys. answer ys (environments C F rows)) (sym outs);
      }

  -- a called function over a library for it
  use_here : (n : ℕ) → ((g : ℕ) (f : Function) → function_of fs g ≡ Some f → NestsWithin fs n g → Expands C (expanded fs n g) f) → (h k : ℕ) → (o : Option Function) → function_of fs h ≡ o → AnswersCall o k → NestsWithin fs n h → AnswersOnBase o → Answering C fs (expanded fs n h) h k
  use_here n ih h k None e a l b = elim a [ ]
  use_here n ih h k (Some f) e a l b = subst (Answering C fs (expanded fs n h) h) a.0 (answers_by (expanded fs n h) f h e (ih h f e l) a.1 b)

  -- fewer calls nest in a called function
  pub calls_within : (n g : ℕ) (f : Function) → function_of fs g ≡ Some f → NestsWithin fs (suc n) g → (x : ℕ) (e : Expression) → right_of f.eqs x ≡ Some e → EachCall (NestsWithin fs n) e
  calls_within n g f e w x a r = each_call_from (NestsWithin fs n) a (λ h m. w h (calls_function fs g f e x a r h m))

  -- what stands for the calls of a function
  answering_by : (n g : ℕ) (f : Function) → function_of fs g ≡ Some f → NestsWithin fs (suc n) g → ((h : ℕ) (k : Function) → function_of fs h ≡ Some k → NestsWithin fs n h → Expands C (expanded fs n h) k) → (x : ℕ) (a : Expression) → right_of f.eqs x ≡ Some a → EachUse (λ h k. Answering C fs (expanded fs n h) h k) a
  answering_by n g f e w ih x a r =
      let uses = function_all (λ f. All (λ e. EachUse (λ g n. AnswersCall (function_of fs g) n) e.1) f.eqs) fs checked.named.uses g f e in
      use_from (λ h k. AnswersCall (function_of fs h) k) (NestsWithin fs n) (λ h. AnswersOnBase (function_of fs h)) (λ h k. Answering C fs (expanded fs n h) h k) (λ h k u q b. use_here n ih h k (function_of fs h) refl u q b) a
      (right_all (λ q. EachUse (λ g n. AnswersCall (function_of fs g) n) q.1) f.eqs uses x a r)
      (calls_within n g f e w x a r)
      (clocked_calls fs f.decls a (clock_of f.decls x) ((clocked_function p good checked g f e).rights x a r))

  -- each function, where no more calls nest than that
  pub expands : (n g : ℕ) (f : Function) → function_of fs g ≡ Some f → NestsWithin fs n g → Expands C (expanded fs n g) f
  expands zero g f e w = elim w [ ]
  expands (suc n) g f e w =
      subst (λ o. Expands C (opened_or (expanded fs n) o) f) (sym e)
      (opened_expands C (expanded fs n) fs f (good_function p good checked g f e) (clocked_function p good checked g f e) (typed_function p good checked g f e) (causal_function p good checked g f e) (answering_by n g f e w (λ h. expands n h)))

  -- so stands what answers its calls
  pub answering : (n g : ℕ) (f : Function) → function_of fs g ≡ Some f → NestsWithin fs (suc n) g → (x : ℕ) (a : Expression) → right_of f.eqs x ≡ Some a → EachUse (λ h k. Answering C fs (expanded fs n h) h k) a
  answering n g f e w = answering_by n g f e w (λ h. expands n h)

  -- the streams of its variables
  pub streams_kept : (F f : Function) (g : ℕ) → function_of fs g ≡ Some f → Expands C F f → (rows : List (List Value)) (x : ℕ) → x < length f.decls → stream_of [] F rows x ≡ stream_of fs f rows x
  streams_kept F f g e k rows x d =
      callless_streams [] fs F (λ y a h. clocked_callless F.decls a (clock_of F.decls y) (k.clocked.rights y a h)) rows x
      ∙ kept_streams fs F f k.keeps k.causal (causal_function p good checked g f e) (clocked_function p good checked g f e) rows x d

  -- ---- how many calls nest

  called_in : (n : ℕ) (eqs : List (ℕ × Expression)) → All (λ e. CallsBelow n e.1) eqs → (h : ℕ) → has h (equations_called eqs) ≡ true → h < n
  called_in n [] a h m = absurd (cc)
  called_in n (q ∷ eqs) a h m =
      ⊎_elim (each_call_at (λ h. h < n) q.1 (below_each n q.1 (All-head (λ e. CallsBelow n e.1) q eqs a)) h) (called_in n eqs (All-tail (λ e. CallsBelow n e.1) q eqs a) h) (has_cases h (called q.1) (equations_called eqs) m)

  called_by : (o : Option Function) (g h : ℕ) → function_of fs g ≡ o → has h (function_called o) ≡ true → h < length fs
  called_by None g h e m = absurd (cc)
  called_by (Some f) g h e m = called_in (length fs) f.eqs (function_all (λ f. All (λ e. CallsBelow (length fs) e.1) f.eqs) fs good.calls g f e) h m

  -- a called function is one of the program
  pub called_inside : (g h : ℕ) → CallsFunction fs g h → h < length fs
  called_inside g h c = called_by (function_of fs g) g h refl c

  abbrev height : ℕ → ℕ
  height = height_of fs checked.named.not_recursive

  within_height : (k g : ℕ) → height g < k → NestsWithin fs k g
  within_height zero g l = absurd (omega arith)
  within_height (suc k) g l = λ h c. within_height k h (let b = height_lower fs checked.named.not_recursive g h c (called_inside g h c) in omega (arith, b, l))

  -- in no function nest as many calls as there are functions
  pub within_all : (g : ℕ) → g < length fs → NestsWithin fs (length fs) g
  within_all g l = within_height (length fs) g (height_low fs checked.named.not_recursive g l)
