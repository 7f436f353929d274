-- A fact of every equation of a function with copies.
use Rattle.std.proofs.Common.{◌≡◌, ℕ, ◌+◌, ◌-◌, ◌<◌, ◌≤◌, Bool, true, false, List, [], ◌∷◌, ◌++◌, length, All, Option, Some, None, refl, sym, ap, ◌∙◌, subst, arith, ltb-true, ltb-false}
use Rattle.std.specs.Prelude.{nat_lt}
use Rattle.std.proofs.lemmas.List.Elements.{All-nil, All-cons, All-append, All-head, All-tail}
use Rattle.lt_base.specs.declared.function.Decl.{Decl}
use Rattle.lt_base.specs.Expression.{Expression, Arguments}
use Rattle.lt_base.specs.Program.{Function, GoodFunction}
use Rattle.lt_base.specs.Meaning.{clock_of, right_of}
use Rattle.lt_base.specs.Placed.{renamed}
use Rattle.lt_base.specs.Checked.{argument_count, EachUse, EachArgumentUse}
use Rattle.lt_base.specs.Equations.{EachRight}
use Rattle.lt_base.proofs.Lookups.{all_found, right_all, right_right, beyond}
use Rattle.lt_expand.proofs.Basics.{all_equations}
use Rattle.lt_expand.specs.Copies.{raise, Library, Copy, grown, inlined, copies, input_equations, copy_equation, copy_equations, copied_equations, equations_inlined, equations_copies, with_copies}
use Rattle.lt_expand.proofs.Standing.{Each, span, Numbered}
use Rattle.lt_expand.proofs.Fitting.{Fits}
use Rattle.lt_expand.proofs.Told.{same_count}
use Rattle.lt_expand.proofs.Counted.{Countable}
use Rattle.lt_expand.proofs.Inherited.{Inherited, each_equation_copy}
use Rattle.lt_expand.proofs.Opened.{inlined_none, old_none, opened_begins, opened_right, given_or}

-- ---- the source of each copy fits its call

pub record Fitted (fs : List Function) (c : Copy) : Type 0 where
  pub callee : ℕ
  pub fits : Fits fs c.source callee (argument_count c.inputs)

pub fitted_countable : (fs : List Function) (c : Copy) → Fitted fs c → Countable c
fitted_countable fs c f = record { good = f.fits.good; arity = sym f.fits.arity }

abbrev pub Used : List Function → Library → Expression → Type 0
Used fs lib e = EachUse (λ g n. Fits fs (lib g) g n) e

abbrev pub ArgumentsUsed : List Function → Library → Arguments → Type 0
ArgumentsUsed fs lib args = EachArgumentUse (λ g n. Fits fs (lib g) g n) args

use_inherited : (fs : List Function) (lib : Library) → Inherited (λ ck e. Used fs lib e) (λ ck args. ArgumentsUsed fs lib args)
use_inherited fs lib = record {
  one = λ o ck a h. h;
  two = λ o ck a b h. h;
  outside = λ o ck a b h. h;
  three = λ ck c a b h. h;
  up = λ ck e c b h. h;
  down = λ ck c a b h. h;
  late = λ ck v e h. h;
  later = λ ck a b h. h;
  first = λ ck a b h. h;
  inside = λ ck g args h. h.1;
  each = λ ck e args h. h;
}

each_unit : (cs : List Copy) → Each (λ c. Unit {0}) cs
each_unit [] = tt
each_unit (c ∷ cs) = (tt, each_unit cs)

pub all_fitted : (fs : List Function) (lib : Library) (ds : List Decl) (n : ℕ) (qs : List (ℕ × Expression)) → All (λ q. Used fs lib q.1) qs → Each (Fitted fs) (equations_copies lib ds n qs)
all_fitted fs lib ds n qs used =
    each_equation_copy lib (λ c. Unit {0}) (λ ck e. Used fs lib e) (λ ck args. ArgumentsUsed fs lib args) (use_inherited fs lib) (Fitted fs) (λ ck g args m h s. record { callee = g; fits = subst (Fits fs (lib g) g) (sym (same_count lib m args)) h.0 }) ds n qs used (each_unit _)

-- ---- equations of copies

all_copied : (Q : ℕ → Expression → Type 0) (h : Function) (m : ℕ) (qs : List (ℕ × Expression)) → All (λ q. Q (q.0 + m) (renamed (raise m) q.1)) qs → All (λ q. Q q.0 q.1) (copy_equations m qs)
all_copied Q h m [] a = All-nil (λ q. Q q.0 q.1)
all_copied Q h m (q ∷ qs) a =
    All-cons (λ q. Q q.0 q.1) (copy_equation m q) (copy_equations m qs) (All-head (λ q. Q (q.0 + m) (renamed (raise m) q.1)) q qs a) (all_copied Q h m qs (All-tail (λ q. Q (q.0 + m) (renamed (raise m) q.1)) q qs a))

-- a fact of each equation of a copy
pub record Equations (Q : ℕ → Expression → Type 0) (c : Copy) : Type 0 where
  pub good : GoodFunction c.source
  pub inputs : All (λ q. Q q.0 q.1) (input_equations c.from c.inputs)
  pub rights : (x : ℕ) (e : Expression) → right_of c.source.eqs x ≡ Some e → Q (x + c.from) (renamed (raise c.from) e)

copied_all : (Q : ℕ → Expression → Type 0) (cs : List Copy) → Each (Equations Q) cs → All (λ q. Q q.0 q.1) (copied_equations cs)
copied_all Q [] a = All-nil (λ q. Q q.0 q.1)
copied_all Q (c ∷ cs) a =
    let ins = input_equations c.from c.inputs in
    let own = copy_equations c.from c.source.eqs in
    All-append (λ q. Q q.0 q.1) (ins ++ own) (copied_equations cs)
    (All-append (λ q. Q q.0 q.1) ins own a.0.inputs (all_copied Q c.source c.from c.source.eqs (all_equations (λ x e. Q (x + c.from) (renamed (raise c.from) e)) c.source c.source.eqs (all_found c.source a.0.good) a.0.rights)))
    (copied_all Q cs a.1)

-- ---- equations of the function

pub each_right_unit : (qs : List (ℕ × Expression)) → EachRight (λ e. Unit {0}) qs
each_right_unit [] = tt
each_right_unit (q ∷ qs) = (tt, each_right_unit qs)

module _ (lib : Library) (f : Function) (good : GoodFunction f) (countable : Each Countable (equations_copies lib f.decls (length f.decls) f.eqs)) where
  abbrev N : ℕ
  N = length f.decls

  abbrev F : Function
  F = with_copies lib f

  abbrev cs : List Copy
  cs = equations_copies lib f.decls N f.eqs

  module _ (S : Copy → Type 0) (all : Each S cs) (Q : ℕ → Expression → Type 0) (old : (x : ℕ) (e : Expression) → x < N → right_of f.eqs x ≡ Some e → (n : ℕ) → n + grown lib e ≤ length F.decls → Each S (copies lib n (clock_of f.decls x) e) → Q x (inlined lib n e)) (new : Each (Equations Q) cs) where
    at_old : (x : ℕ) → x < N → (e' : Expression) → right_of F.eqs x ≡ Some e' → (o : Option Expression) → right_of f.eqs x ≡ o → Q x e'
    at_old x d e' h None q = absurd (nothing (sym (old_none lib f good countable x d q) ∙ h))
      where
        nothing : None ≡ Some e' → ⊥
        nothing p = absurd (cc)
    at_old x d e' h (Some e) q =
        let P : Expression → Type 0 = λ e. Unit {0} in
        let b = opened_begins lib f good countable S all P (each_right_unit f.eqs) x e q in
        let same : inlined lib b.from e ≡ e' = ap (λ o. given_or o e') (sym (opened_right lib f good countable S P x e b) ∙ h) in
        subst (Q x) same (old x e d q b.from b.within b.rest)

    at_new : (x : ℕ) → N ≤ x → (e' : Expression) → right_of F.eqs x ≡ Some e' → Q x e'
    at_new x l e' h =
        let h' = sym (right_right (equations_inlined lib N f.eqs) (copied_equations cs) x (inlined_none lib f good countable x (beyond f good x l))) ∙ h in
        right_all (λ q. Q q.0 q.1) (copied_equations cs) (copied_all Q cs new) x e' h'

    at_any : (x : ℕ) (e' : Expression) → right_of F.eqs x ≡ Some e' → (t : Bool) → nat_lt x N ≡ t → Q x e'
    at_any x e' h true t = at_old x (ltb-true x N t) e' h (right_of f.eqs x) refl
    at_any x e' h false t = at_new x (ltb-false x N t) e' h

    pub each_equation : (x : ℕ) (e : Expression) → right_of F.eqs x ≡ Some e → Q x e
    each_equation x e h = at_any x e h (nat_lt x N) refl

-- ---- a fact of each number of the copies

pub in_copies : (P : ℕ → Type 0) (n : ℕ) (cs : List Copy) → Numbered n cs → Each (λ c. (x : ℕ) → x < length c.source.decls → P (x + c.from)) cs → (z : ℕ) → n ≤ z → z < n + span cs → P z
in_copies P n [] m e z l h = absurd (omega arith)
in_copies P n (c ∷ cs) m e z l h =
    let go : (t : Bool) → nat_lt z (n + length c.source.decls) ≡ t → P z =
    elim [
      | true ↦ λ t. let b = ltb-true z (n + length c.source.decls) t in subst P (let q = m.0 in omega (arith, l, q)) (e.0 (z - n) (omega (arith, b, l)))
      | false ↦ λ t. in_copies P (n + length c.source.decls) cs m.1 e.1 z (ltb-false z (n + length c.source.decls) t) (omega (arith, h))
    ] in
    go (nat_lt z (n + length c.source.decls)) refl
