-- What is made of the functions that one function calls stands for their versions without calls.
use Rattle.std.proofs.Common.{◌≡◌, ℕ, suc, ◌+◌, ◌<◌, ◌≤◌, true, List, [], ◌∷◌, ◌++◌, length, replicate, All, Option, Some, refl, sym, ap, ◌∙◌, subst, arith, length-append, ⊎_elim}
use Rattle.std.proofs.lemmas.List.Elements.{All-nil, All-cons, All-head, All-tail}
use Rattle.lt_base.specs.Expression.{Expression, literal, variable, unary, binary, imported, choose, sampled, merged, delayed, follow, arrow, call, Arguments, no_arguments, argument}
use Rattle.lt_base.specs.Program.{Function, GoodFunction, WholeProgram, GoodProgram}
use Rattle.lt_base.specs.Meaning.{Callee, clock_of, function_of, calls}
use Rattle.lt_base.specs.Dependence.{has}
use Rattle.lt_base.specs.Calls.{EachCall, EachArgumentCall, called, equations_called, function_called, CallsFunction}
use Rattle.lt_base.specs.Checked.{EachUse, CheckedProgram}
use Rattle.lt_base.specs.Sizes.{cost}
use Rattle.lt_base.proofs.Heights.{each_call_at, each_call_from, calls_function}
use Rattle.lt_base.proofs.Reading.{has_front, has_back, has_cases}
use Rattle.lt_base.proofs.Lookups.{all_found}
use Rattle.lt_base.proofs.Defined.{good_function}
use Rattle.lt_expand.specs.Copies.{Library, grown, arguments_grown, equations_grown, equations_copies, copied_decls, with_copies, opened_or, expanded}
use Rattle.lt_expand.specs.Expansion.{nested_variables, copied_origins}
use Rattle.lt_expand.specs.Walk.{NestsWithin, library_of, IsMade, Copyable, AreVersions, owners}
use Rattle.lt_expand.proofs.Basics.{all_equations}
use Rattle.lt_expand.proofs.Fitting.{Answering}
use Rattle.lt_expand.proofs.Filled.{equations_filled, copied_length}
use Rattle.lt_expand.proofs.Clocks.{clocked_callless}
use Rattle.lt_expand.proofs.Uses.{use_from}
use Rattle.lt_expand.proofs.Expanded.{answering, expands, calls_within, within_all, called_inside}
use Rattle.lt_expand.proofs.Sized.{grown_cost, expanded_variables}
use Rattle.lt_expand.proofs.Alike.{Same, grown_alike, opened_alike}

-- the functions that an equation calls are among those that all equations call
pub right_in : (eqs : List (ℕ × Expression)) (P : ℕ → Type 0) → ((h : ℕ) → has h (equations_called eqs) ≡ true → P h) → All (λ q. EachCall P q.1) eqs
right_in [] P m = All-nil (λ q. EachCall P q.1)
right_in (q ∷ eqs) P m =
    All-cons (λ q. EachCall P q.1) q eqs
    (each_call_from P q.1 (λ h k. m h (has_front h (called q.1) (equations_called eqs) k)))
    (right_in eqs P (λ h k. m h (has_back h (called q.1) (equations_called eqs) k)))

-- no called function has more variables than all copies together
module _ (lib : Library) (K : ℕ) where
  abbrev Few : ℕ → Type 0
  Few h = length (lib h).decls ≤ K

  mutual
    grown_each : (e : Expression) → grown lib e ≤ K → EachCall Few e
    grown_each (literal v) l = tt
    grown_each (variable x) l = tt
    grown_each (unary o a) l = grown_each a l
    grown_each (binary o a b) l = (grown_each a (omega (arith, l)), grown_each b (omega (arith, l)))
    grown_each (imported o a b) l = (grown_each a (omega (arith, l)), grown_each b (omega (arith, l)))
    grown_each (choose c a b) l = (grown_each c (omega (arith, l)), grown_each a (omega (arith, l)), grown_each b (omega (arith, l)))
    grown_each (sampled e c b) l = grown_each e l
    grown_each (merged c a b) l = (grown_each a (omega (arith, l)), grown_each b (omega (arith, l)))
    grown_each (delayed v e) l = grown_each e l
    grown_each (follow a b) l = (grown_each a (omega (arith, l)), grown_each b (omega (arith, l)))
    grown_each (arrow a b) l = (grown_each a (omega (arith, l)), grown_each b (omega (arith, l)))
    grown_each (call g args) l = (omega (arith, l), arguments_grown_each args (omega (arith, l)))

    arguments_grown_each : (args : Arguments) → arguments_grown lib args ≤ K → EachArgumentCall Few args
    arguments_grown_each no_arguments l = tt
    arguments_grown_each (argument e args) l = (grown_each e (omega (arith, l)), arguments_grown_each args (omega (arith, l)))

  called_few : (qs : List (ℕ × Expression)) → equations_grown lib qs ≤ K → (h : ℕ) → has h (equations_called qs) ≡ true → Few h
  called_few [] l h m = absurd (cc)
  called_few (q ∷ qs) l h m =
      ⊎_elim (each_call_at Few q.1 (grown_each q.1 (omega (arith, l))) h) (called_few qs (omega (arith, l)) h) (has_cases h (called q.1) (equations_called qs) m)

-- so a function has no fewer variables than those that it calls
pub called_smaller : (fs : List Function) (n g : ℕ) (f : Function) → function_of fs g ≡ Some f → (h : ℕ) → CallsFunction fs g h → length (expanded fs n h).decls ≤ length (expanded fs (suc n) g).decls
called_smaller fs n g f e h c =
    let lib = expanded fs n in
    let m : has h (equations_called f.eqs) ≡ true = sym (ap (λ o. has h (function_called o)) e) ∙ c in
    let few = called_few lib (equations_grown lib f.eqs) f.eqs (omega arith) h m in
    let cs = (equations_filled lib f.decls (length f.decls) f.eqs).all in
    let l = length-append f.decls (copied_decls (equations_copies lib f.decls (length f.decls) f.eqs)) in
    let k = copied_length (equations_copies lib f.decls (length f.decls) f.eqs) in
    let o = ap (λ z. length (opened_or lib z).decls) e in
    omega (arith, few, cs, l, k, o)

-- ---- origins

module _ (fs : List Function) (lib : Library) where
  pub owners_are : (qs : List (ℕ × Expression)) → All (λ q. EachCall (Same lib (expanded fs (length fs))) q.1) qs → owners lib qs ≡ copied_origins fs qs
  owners_are [] s = refl
  owners_are (q ∷ qs) s =
      let full = expanded fs (length fs) in
      let P : ℕ × Expression → Type 0 = λ q. EachCall (Same lib full) q.1 in
      let count : grown lib q.1 ≡ cost 0 (nested_variables fs (length fs)) q.1 =
      grown_alike lib full q.1 (All-head P q qs s) ∙ grown_cost full q.1 ∙ (λ i. cost 0 (λ g. expanded_variables fs (length fs) g i) q.1) in
      λ i. replicate (count i) q.0 ++ owners_are qs (All-tail P q qs s) i

-- ---- what is made

module _ (p : WholeProgram) (good : GoodProgram p) (checked : CheckedProgram p) (versions : List (Option Function)) (are : AreVersions p.funcs versions) where
  abbrev fs : List Function
  fs = p.funcs

  abbrev C : Callee
  C = calls fs (length fs)

  abbrev lib : Library
  lib = library_of versions

  -- what is made for a function is its version
  version_is : (n h : ℕ) → IsMade versions h → NestsWithin fs n h → lib h ≡ expanded fs n h
  version_is n h m w = are.are h (lib h) m n w

  module _ (n g : ℕ) (f : Function) (e : function_of fs g ≡ Some f) (within : NestsWithin fs (suc n) g) (made : (h : ℕ) → CallsFunction fs g h → IsMade versions h) where
    called_here : (h : ℕ) → has h (equations_called f.eqs) ≡ true → CallsFunction fs g h
    called_here h m = ap (λ o. has h (function_called o)) e ∙ m

    all_same : All (λ q. EachCall (Same lib (expanded fs n)) q.1) f.eqs
    all_same = right_in f.eqs (Same lib (expanded fs n)) (λ h m. let k = called_here h m in version_is n h (made h k) (within h k))

    -- the function with copies of what is made is its own version
    pub opened_is : with_copies lib f ≡ expanded fs (suc n) g
    opened_is = opened_alike lib (expanded fs n) f all_same ∙ sym (ap (opened_or (expanded fs n)) e)

    pub opened_good : GoodFunction (with_copies lib f)
    opened_good = subst GoodFunction (sym opened_is) (expands p good checked (suc n) g f e within).good

    copyable : (h k : ℕ) → IsMade versions h → NestsWithin fs n h → Answering C fs (expanded fs n h) h k → Copyable versions h k
    copyable h k m w a =
        let same = version_is n h m w in
        let fits = a.fits in
        record {
          made = m;
          callless = subst (λ (F : Function). All (λ q. EachCall (λ i. ⊥) q.1) F.eqs) (sym same) (all_equations (λ x b. EachCall (λ i. ⊥) b) (expanded fs n h) (expanded fs n h).eqs (all_found (expanded fs n h) fits.good) (λ x b r. clocked_callless (expanded fs n h).decls b (clock_of (expanded fs n h).decls x) (fits.clocked.rights x b r)));
          arity = ap (λ (F : Function). F.n_in) same ∙ fits.arity;
          output = subst (λ (F : Function). 0 < length F.outs) (sym same) (let o = ap length fits.one_out in omega (arith, o));
        }

    -- what is made can be copied for each call
    pub all_copyable : All (λ q. EachUse (λ h k. Copyable versions h k) q.1) f.eqs
    all_copyable =
        all_equations (λ x b. EachUse (λ h k. Copyable versions h k) b) f f.eqs (all_found f (good_function p good checked g f e)) (λ x b r.
        use_from (λ h k. Answering C fs (expanded fs n h) h k) (IsMade versions) (NestsWithin fs n) (λ h k. Copyable versions h k) (λ h k a m w. copyable h k m w a) b
        (answering p good checked n g f e within x b r)
        (each_call_from (IsMade versions) b (λ h m. made h (calls_function fs g f e x b r h m)))
        (calls_within p good checked n g f e within x b r))

    -- and there is room for the copies
    pub room_for : length f.decls + equations_grown lib f.eqs ≡ length (expanded fs (suc n) g).decls
    room_for =
        let cs = (equations_filled lib f.decls (length f.decls) f.eqs).all in
        let l = length-append f.decls (copied_decls (equations_copies lib f.decls (length f.decls) f.eqs)) in
        let m = copied_length (equations_copies lib f.decls (length f.decls) f.eqs) in
        let o = ap (λ (F : Function). length F.decls) opened_is in
        omega (arith, cs, l, m, o)

    -- the variables of the copies have their origins
    pub origins_are : owners lib f.eqs ≡ copied_origins fs f.eqs
    origins_are =
        owners_are fs lib f.eqs (right_in f.eqs (Same lib (expanded fs (length fs))) (λ h m. let k = called_here h m in version_is (length fs) h (made h k) (within_all p good checked h (called_inside p good checked g h k))))
