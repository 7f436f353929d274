-- The checks of a program leave one refusal, up to whether it is a limit that is passed.
use Rattle.std.proofs.Common.{◌≡◌, ◌∙◌, ◌<◌, ◌⊎◌, ℕ, suc, true, false, List, ◌∷◌, Option, Some, None, Ok, Err, refl, sym, ap, arith, inl, inr}
use Rattle.std.specs.Prelude.{nat_eq}
use Rattle.std.specs.List.{Contains}
use Rattle.std.proofs.lemmas.Bool.Decides.{leb_tells}
use Rattle.std.proofs.lemmas.Option.{slice_get_within, get_or_from_slice_get}
use Rattle.lt_base.specs.Program.{WholeProgram}
use Rattle.lt_base.specs.Graph.{NoClosedWalk}
use Rattle.lt_syntax.specs.declared.tree.NodeText.{NodeText}
use Rattle.lt_syntax.proofs.Whole.{one_tree}
use Rattle.lt_graph.specs.Edges.{Joined, IsFirstCircular}
use Rattle.lt_resolve.specs.declared.fault.NameKind.{NameKind}
use Rattle.lt_resolve.specs.declared.fault.NameKind.TheVariants.{Twice, Unknown, NoEquation, TwoEquations, EquationForInput, NoMain, WrongCount, NotOneOutput, Recursive, Limit}
use Rattle.lt_resolve.specs.declared.fault.NameFault.{NameFault}
use Rattle.lt_resolve.specs.Faults.{Occurrence, First, IsFirstNameFault, kind_number}
use Rattle.lt_front.specs.declared.fault.ProgramFault.{ProgramFault}
use Rattle.lt_front.specs.declared.fault.ProgramFault.TheVariants as fault
use Rattle.lt_front.specs.Limits.{is_limit, is_limit_kind}
use Rattle.lt_front.specs.Front.{syntax_verdict, name_verdict, IsTypeFault, IsClockFault, IsCycle, IsTooManyFault, fits_verdict, causal_verdict, clocked_verdict, typed_verdict, examine_verdict}
use Rattle.lt_answer.proofs.Decided.{HasOneOutcome, of_rule, and_then_one}
use Rattle.lt_resolve.proofs.One.{one_program}

-- syntax

no_tree_and_fault : (bytes : List ℕ) (e : ProgramFault) (t : List NodeText) → syntax_verdict bytes (Err e) → syntax_verdict bytes (Ok t) → ⊥
no_tree_and_fault bytes (fault.Syntax f) t is spelled = is.0 t spelled
no_tree_and_fault bytes (fault.Name f u) t is spelled = is
no_tree_and_fault bytes (fault.Type f u) t is spelled = is
no_tree_and_fault bytes (fault.Clock f u) t is spelled = is
no_tree_and_fault bytes (fault.Cycle func cycle u) t is spelled = is
no_tree_and_fault bytes (fault.TooMany s) t is spelled = is

syntax_no_limit : (bytes : List ℕ) (e : ProgramFault) → syntax_verdict bytes (Err e) → is_limit e ≡ false
syntax_no_limit bytes (fault.Syntax f) is = refl
syntax_no_limit bytes (fault.Name f u) is = absurd is
syntax_no_limit bytes (fault.Type f u) is = absurd is
syntax_no_limit bytes (fault.Clock f u) is = absurd is
syntax_no_limit bytes (fault.Cycle func cycle u) is = absurd is
syntax_no_limit bytes (fault.TooMany s) is = absurd is

syntax_decided : (bytes : List ℕ) → HasOneOutcome is_limit (syntax_verdict bytes)
syntax_decided bytes = record {
  faults = record { one_kind = λ e f p q. syntax_no_limit bytes e p ∙ sym (syntax_no_limit bytes f q); not_both = λ e t p q. no_tree_and_fault bytes e t p q };
  one_value = λ t u p q. one_tree 200 (omega arith) bytes t u p q;
}

-- names

none_and_some : (o : Option Occurrence) (x : Occurrence) → None ≡ o → Some x ≡ o → ⊥
none_and_some o x p q = let wrong : None ≡ Some x = p ∙ sym q in cc

-- the first call on a closed walk closes a walk
closes : (edges : List (ℕ × ℕ)) (place : ℕ) → IsFirstCircular edges place → NoClosedWalk (Joined edges) → ⊥
closes edges place first none =
    let e = first.circular.0 in
    let here = first.circular.1 in
    let joined : Contains edges e = (place, slice_get_within edges place e here, get_or_from_slice_get edges place e e here) in
    none (e.0 ∷ e.1 ∷ first.circular.2.0) (joined, first.circular.2.1)

-- a kind that does not occur has no first occurrence
exclusive : (t : List NodeText) (k : NameKind) (x : Occurrence) → First t k None → First t k (Some x) → ⊥
exclusive t Twice x p q = none_and_some _ x p q
exclusive t Unknown x p q = none_and_some _ x p q
exclusive t NoEquation x p q = none_and_some _ x p q
exclusive t TwoEquations x p q = none_and_some _ x p q
exclusive t EquationForInput x p q = none_and_some _ x p q
exclusive t NoMain x p q = none_and_some _ x p q
exclusive t WrongCount x p q = none_and_some _ x p q
exclusive t NotOneOutput x p q = none_and_some _ x p q
exclusive t Recursive x p q = closes _ q.place q.circular p
exclusive t Limit x p q = none_and_some _ x p q

limit_by_number : (k : NameKind) → is_limit_kind k ≡ nat_eq (kind_number k) 10
limit_by_number Twice = refl
limit_by_number Unknown = refl
limit_by_number NoEquation = refl
limit_by_number TwoEquations = refl
limit_by_number EquationForInput = refl
limit_by_number NoMain = refl
limit_by_number WrongCount = refl
limit_by_number NotOneOutput = refl
limit_by_number Recursive = refl
limit_by_number Limit = refl

compare : (x y : ℕ) → (x < y) ⊎ (y < x) ⊎ (x ≡ y)
compare x y = elim (leb_tells (suc x) y) [
  | inl a ↦ inl (omega (arith, a.1))
  | inr a ↦ inr (elim (leb_tells (suc y) x) [ inl b ↦ inl (omega (arith, b.1)) | inr b ↦ inr (omega (arith, a.1, b.1)) ])
]

-- first faults have kinds of one number
one_number : (t : List NodeText) (f g : NameFault) → IsFirstNameFault t f → IsFirstNameFault t g → kind_number f.kind ≡ kind_number g.kind
one_number t f g p q = elim (compare (kind_number f.kind) (kind_number g.kind)) [
  | inl less ↦ absurd (exclusive t f.kind (f.func, f.name) (q.before f.kind less) p.here)
  | inr more ↦ elim more [ inl less ↦ absurd (exclusive t g.kind (g.func, g.name) (p.before g.kind less) q.here) | inr same ↦ same ]
]

name_fault : (t : List NodeText) (e : ProgramFault) → name_verdict t (Err e) → (f : NameFault) × IsFirstNameFault t f × (is_limit e ≡ is_limit_kind f.kind)
name_fault t (fault.Syntax f) is = absurd is
name_fault t (fault.Name f u) is = (f, is.0, refl)
name_fault t (fault.Type f u) is = absurd is
name_fault t (fault.Clock f u) is = absurd is
name_fault t (fault.Cycle func cycle u) is = absurd is
name_fault t (fault.TooMany s) is = absurd is

one_name_kind : (t : List NodeText) (e g : ProgramFault) → name_verdict t (Err e) → name_verdict t (Err g) → is_limit e ≡ is_limit g
one_name_kind t e g p q =
    let a = name_fault t e p in
    let b = name_fault t g q in
    a.2 ∙ limit_by_number a.0.kind ∙ ap (λ n. nat_eq n 10) (one_number t a.0 b.0 a.1 b.1) ∙ sym (limit_by_number b.0.kind) ∙ sym b.2

names_decided : (t : List NodeText) → HasOneOutcome is_limit (name_verdict t)
names_decided t = record {
  faults = record {
    one_kind = one_name_kind t;
    not_both = λ e p is right. let a = name_fault t e is in exclusive t a.0.kind (a.0.func, a.0.name) (right.faultless a.0.kind) a.1.here;
  };
  one_value = λ p q r s. one_program t p q r.named s.named;
}

-- the other checks

type_no_limit : (t : List NodeText) (p : WholeProgram) (e : ProgramFault) → IsTypeFault t p e → is_limit e ≡ false
type_no_limit t p (fault.Syntax f) is = absurd is
type_no_limit t p (fault.Name f u) is = absurd is
type_no_limit t p (fault.Type f u) is = refl
type_no_limit t p (fault.Clock f u) is = absurd is
type_no_limit t p (fault.Cycle func cycle u) is = absurd is
type_no_limit t p (fault.TooMany s) is = absurd is

clock_no_limit : (t : List NodeText) (p : WholeProgram) (e : ProgramFault) → IsClockFault t p e → is_limit e ≡ false
clock_no_limit t p (fault.Syntax f) is = absurd is
clock_no_limit t p (fault.Name f u) is = absurd is
clock_no_limit t p (fault.Type f u) is = absurd is
clock_no_limit t p (fault.Clock f u) is = refl
clock_no_limit t p (fault.Cycle func cycle u) is = absurd is
clock_no_limit t p (fault.TooMany s) is = absurd is

cycle_no_limit : (t : List NodeText) (p : WholeProgram) (e : ProgramFault) → IsCycle t p e → is_limit e ≡ false
cycle_no_limit t p (fault.Syntax f) is = absurd is
cycle_no_limit t p (fault.Name f u) is = absurd is
cycle_no_limit t p (fault.Type f u) is = absurd is
cycle_no_limit t p (fault.Clock f u) is = absurd is
cycle_no_limit t p (fault.Cycle func cycle u) is = refl
cycle_no_limit t p (fault.TooMany s) is = absurd is

size_limit : (p : WholeProgram) (e : ProgramFault) → IsTooManyFault p e → is_limit e ≡ true
size_limit p (fault.Syntax f) is = absurd is
size_limit p (fault.Name f u) is = absurd is
size_limit p (fault.Type f u) is = absurd is
size_limit p (fault.Clock f u) is = absurd is
size_limit p (fault.Cycle func cycle u) is = absurd is
size_limit p (fault.TooMany s) is = refl

fits_decided : (t : List NodeText) (p : WholeProgram) → HasOneOutcome is_limit (fits_verdict t p)
fits_decided t p = record {
  faults = record { one_kind = λ e f q r. size_limit p e q.1 ∙ sym (size_limit p f r.1); not_both = λ e x q r. q.0 r.0 };
  one_value = λ x y q r. q.1 ∙ sym r.1;
}

causal_decided : (t : List NodeText) (p : WholeProgram) → HasOneOutcome is_limit (causal_verdict t p)
causal_decided t p =
    and_then_one is_limit _ _ (of_rule is_limit _ (IsCycle t p) (λ e f q r. cycle_no_limit t p e q ∙ sym (cycle_no_limit t p f r))) (λ _. fits_decided t p)

clocked_decided : (t : List NodeText) (p : WholeProgram) → HasOneOutcome is_limit (clocked_verdict t p)
clocked_decided t p =
    and_then_one is_limit _ _ (of_rule is_limit _ (IsClockFault t p) (λ e f q r. clock_no_limit t p e q ∙ sym (clock_no_limit t p f r))) (λ _. causal_decided t p)

typed_decided : (t : List NodeText) (p : WholeProgram) → HasOneOutcome is_limit (typed_verdict t p)
typed_decided t p =
    and_then_one is_limit _ _ (of_rule is_limit _ (IsTypeFault t p) (λ e f q r. type_no_limit t p e q ∙ sym (type_no_limit t p f r))) (λ _. clocked_decided t p)

-- all right faults are limits, or none is, and then no program is right; and at most one program is
pub front_decided : (bytes : List ℕ) → HasOneOutcome is_limit (examine_verdict bytes)
unfolding examine_verdict
front_decided bytes =
    and_then_one is_limit _ _ (syntax_decided bytes) (λ t. and_then_one is_limit _ _ (names_decided t) (λ p. typed_decided t p))
