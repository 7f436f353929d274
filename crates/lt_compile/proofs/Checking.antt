-- The verdict of all checks by those of its steps.
use Rattle.std.proofs.Common.{◌≡◌, ℕ, List, Result, Ok, Err, sym, subst, inl, inr}
use Rattle.std.specs.Prelude.{IsErrAnd}
use Rattle.lt_base.specs.declared.memory.Or.{Or}
use Rattle.lt_base.specs.declared.memory.Or.TheVariants.{Fault, Memory}
use Rattle.lt_base.specs.Program.{WholeProgram}
use Rattle.lt_base.specs.Typing.{TypedProgram}
use Rattle.lt_base.specs.Clocking.{ClockedProgram}
use Rattle.lt_base.specs.Dependence.{CausalProgram}
use Rattle.lt_syntax.specs.declared.tree.NodeText.{NodeText}
use Rattle.lt_resolve.specs.Resolves.{IsResolved}
use Rattle.lt_answer.specs.Answered.{Verdict, AndThen, Refuses, Settles}
use Rattle.lt_answer.specs.Rules.{OfRule}
use Rattle.lt_load_fit.proofs.Settled.{err_settled, stop_settled, then_settled}
use Rattle.lt_front.specs.declared.fault.ProgramFault.{ProgramFault}
use Rattle.lt_front.specs.declared.named.Named.{Named}
use Rattle.lt_front.specs.Examined.{ExaminedText}
use Rattle.lt_front.specs.Front.{syntax_verdict, name_verdict, resolved_verdict, typed_verdict, clocked_verdict, causal_verdict, fits_verdict, examine_verdict, IsTypeFault, IsClockFault, IsCycle}
use Rattle.lt_front.specs.Steps.{HandsOn, named_verdict}

abbrev Outcome : Type 0
Outcome = Result ExaminedText (Or ProgramFault)

-- syntax

pub no_tree : (bytes : List ℕ) (e : Or ProgramFault) (r : Outcome) → IsErrAnd r (λ f. f ≡ e) → Refuses (syntax_verdict bytes) e → Settles (examine_verdict bytes) r
unfolding examine_verdict
no_tree bytes e r is refused = stop_settled (syntax_verdict bytes) (λ t. resolved_verdict t) e r is refused

pub from_tree : (bytes : List ℕ) (t : List NodeText) (r : Outcome) → syntax_verdict bytes (Ok t) → Settles (resolved_verdict t) r → Settles (examine_verdict bytes) r
unfolding examine_verdict
from_tree bytes t r first second = then_settled (syntax_verdict bytes) (λ t. resolved_verdict t) t r first second

-- names

unnamed : (t : List NodeText) (e : Or ProgramFault) → Refuses (named_verdict t) e → Refuses (name_verdict t) e
unnamed t (Fault e) refused = refused
unnamed t Memory refused = tt

pub no_names : (t : List NodeText) (e : Or ProgramFault) (r : Outcome) → IsErrAnd r (λ f. f ≡ e) → Refuses (named_verdict t) e → Settles (resolved_verdict t) r
no_names t e r is refused = stop_settled (name_verdict t) (λ p. typed_verdict t p) e r is (unnamed t e refused)

pub from_names : (t : List NodeText) (n : Named) (r : Outcome) → named_verdict t (Ok n) → Settles (typed_verdict n.tree n.program) r → Settles (resolved_verdict t) r
from_names t n r first second = then_settled (name_verdict t) (λ p. typed_verdict t p) n.program r first.0 (subst (λ (u : List NodeText). Settles (typed_verdict u n.program) r) first.1 second)

-- the program is the tree's
pub resolved_by : (t : List NodeText) (n : Named) → named_verdict t (Ok n) → IsResolved n.tree n.program
resolved_by t n named = subst (λ (u : List NodeText). IsResolved u n.program) (sym named.1) named.0

-- and so it is of what is handed on
pub resolved_on : (n a : Named) → a ≡ n → IsResolved n.tree n.program → IsResolved a.tree a.program
resolved_on n a same resolved = subst (λ (m : Named). IsResolved m.tree m.program) (sym same) resolved

-- a rule of tree and program, and what follows it

module _ (Rule : Type 0) (IsFault : ProgramFault → Type 0) (next : Verdict ExaminedText ProgramFault) (n : Named) where
  broken : (e : Or ProgramFault) → Refuses (HandsOn n Rule IsFault) e → Refuses (OfRule Rule IsFault) e
  broken (Fault e) refused = refused
  broken Memory refused = tt

  stops : (e : Or ProgramFault) (r : Outcome) → IsErrAnd r (λ f. f ≡ e) → Refuses (HandsOn n Rule IsFault) e → Settles (AndThen (OfRule Rule IsFault) (λ _. next)) r
  stops e r is refused = stop_settled (OfRule Rule IsFault) (λ _. next) e r is (broken e refused)

  goes : (a : Named) (r : Outcome) → HandsOn n Rule IsFault (Ok a) → Settles next r → Settles (AndThen (OfRule Rule IsFault) (λ _. next)) r
  goes a r first second = then_settled (OfRule Rule IsFault) (λ _. next) tt r first.0 second

-- types

pub untyped : (n : Named) (e : Or ProgramFault) (r : Outcome) → IsErrAnd r (λ f. f ≡ e) → Refuses (HandsOn n (TypedProgram n.program) (IsTypeFault n.tree n.program)) e
    → Settles (typed_verdict n.tree n.program) r
untyped n e r is refused = stops (TypedProgram n.program) (IsTypeFault n.tree n.program) (clocked_verdict n.tree n.program) n e r is refused

pub from_types : (n a : Named) (r : Outcome) → HandsOn n (TypedProgram n.program) (IsTypeFault n.tree n.program) (Ok a) → Settles (clocked_verdict a.tree a.program) r
    → Settles (typed_verdict n.tree n.program) r
from_types n a r first second =
    goes (TypedProgram n.program) (IsTypeFault n.tree n.program) (clocked_verdict n.tree n.program) n a r first (subst (λ (m : Named). Settles (clocked_verdict m.tree m.program) r) first.1 second)

-- clocks

pub unclocked : (n : Named) (e : Or ProgramFault) (r : Outcome) → IsErrAnd r (λ f. f ≡ e) → Refuses (HandsOn n (ClockedProgram n.program) (IsClockFault n.tree n.program)) e
    → Settles (clocked_verdict n.tree n.program) r
unclocked n e r is refused = stops (ClockedProgram n.program) (IsClockFault n.tree n.program) (causal_verdict n.tree n.program) n e r is refused

pub from_clocks : (n a : Named) (r : Outcome) → HandsOn n (ClockedProgram n.program) (IsClockFault n.tree n.program) (Ok a) → Settles (causal_verdict a.tree a.program) r
    → Settles (clocked_verdict n.tree n.program) r
from_clocks n a r first second =
    goes (ClockedProgram n.program) (IsClockFault n.tree n.program) (causal_verdict n.tree n.program) n a r first (subst (λ (m : Named). Settles (causal_verdict m.tree m.program) r) first.1 second)

-- causality

pub cyclic : (n : Named) (e : Or ProgramFault) (r : Outcome) → IsErrAnd r (λ f. f ≡ e) → Refuses (HandsOn n (CausalProgram n.program) (IsCycle n.tree n.program)) e
    → Settles (causal_verdict n.tree n.program) r
cyclic n e r is refused = stops (CausalProgram n.program) (IsCycle n.tree n.program) (fits_verdict n.tree n.program) n e r is refused

pub from_causality : (n a : Named) (r : Outcome) → HandsOn n (CausalProgram n.program) (IsCycle n.tree n.program) (Ok a) → Settles (fits_verdict a.tree a.program) r
    → Settles (causal_verdict n.tree n.program) r
from_causality n a r first second =
    goes (CausalProgram n.program) (IsCycle n.tree n.program) (fits_verdict n.tree n.program) n a r first (subst (λ (m : Named). Settles (fits_verdict m.tree m.program) r) first.1 second)

-- what was so of a program is so of the one that is handed on
pub holds_on : (P : WholeProgram → Type 0) (n a : Named) → a ≡ n → P n.program → P a.program
holds_on P n a same holds = subst (λ (m : Named). P m.program) (sym same) holds
