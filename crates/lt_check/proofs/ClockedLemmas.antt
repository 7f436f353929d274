-- Clocked functions, by their declarations and equations, and the first fault.
use Rattle.std.proofs.Common.{◌≡◌, ℕ, ◌<◌, ◌⊎◌, inl, inr, List, length, All, take, Option, Some, None, refl, sym, ap, ◌∙◌, subst, ltb-true, ltb-false, Bool, true, false}
use Rattle.std.specs.Prelude.{Result, Ok, Err, MatchResult, IsErrAnd, OnOk, nat_lt}
use Rattle.std.specs.Bool.{Decides}
use Rattle.std.specs.Option.{MatchOption}
use Rattle.std.specs.List.{slice_get}
use Rattle.lt_base.specs.declared.memory.Or.{Or}
use Rattle.lt_base.specs.declared.memory.Or.TheVariants.{Fault, Memory}
use Rattle.lt_base.specs.Or.{ForFault}
use Rattle.lt_base.specs.declared.function.Decl.{Decl}
use Rattle.lt_base.specs.Expression.{Expression}
use Rattle.lt_base.specs.Program.{Function, WholeProgram, GoodFunction, VarsBelow}
use Rattle.lt_base.specs.Meaning.{clock_of, function_of}
use Rattle.lt_base.specs.Clocking.{WellFormed, Clocked, ClockedFunction, ClockedProgram}
use Rattle.lt_base.proofs.Lookups.{right_all, function_all}
use Rattle.lt_check.specs.declared.clocking.ClockFault.{ClockFault}
use Rattle.lt_check.specs.Places.{Place, declaration, equation, FirstDeclaration}
use Rattle.lt_check.specs.Innermost.{innermost, is_at}
use Rattle.lt_check.specs.ClockFaults.{GoodClock, IsAtItsClock, SaysClocks, IsClockFaultIn, IsFirstClockFault}
use Rattle.lt_check.proofs.Found.{equation_found, function_of_is, all_front, right_inside}
use Rattle.lt_check.proofs.Places.{compare, kept_not_first, one_place}
use Rattle.lt_check.proofs.ClockLemmas.{clock_past}
use Rattle.lt_check.proofs.AtLemmas.{at_decides, to_innermost}

-- well formed at each declared variable is well formed at each number
pub everywhere : (ds : List Decl) → ((x : ℕ) → x < length ds → GoodClock ds x) → (x : ℕ) → GoodClock ds x
everywhere ds g x = go (nat_lt x (length ds)) refl
  where
    go : (b : Bool) → nat_lt x (length ds) ≡ b → GoodClock ds x
    go true e = g x (ltb-true x (length ds) e)
    go false e = subst (WellFormed ds) (sym (clock_past ds x (ltb-false x (length ds) e))) tt

module _ (fs : List Function) (f : Function) where
  pub clocked_from : ((x : ℕ) → x < length f.decls → GoodClock f.decls x) → All (IsAtItsClock fs f.decls) f.eqs → ClockedFunction fs f
  clocked_from d e = record { clocks = everywhere f.decls d; rights = λ x a h. right_all (IsAtItsClock fs f.decls) f.eqs e x a h }

  pub clocked_equated : GoodFunction f → ClockedFunction fs f → (k : ℕ) (q : ℕ × Expression) → slice_get f.eqs k ≡ Some q → IsAtItsClock fs f.decls q
  clocked_equated good t k q h = t.rights q.0 q.1 (equation_found f good k q h)

  pub fault_unclocked : GoodFunction f → (fault : ClockFault) → IsClockFaultIn fs f fault → ClockedFunction fs f → ⊥
  fault_unclocked good fault h t = kept_not_first (GoodClock f.decls) (IsAtItsClock fs f.decls) f (λ x l. t.clocks x) (clocked_equated good t) h.place h.first

  says_same : (a b : ClockFault) (place : Place) → SaysClocks f a place → SaysClocks f b place → (a.var ≡ b.var) × (a.at ≡ b.at)
  says_same a b (declaration x) h k = (h.0 ∙ sym k.0, h.1 ∙ sym k.1)
  says_same a b (equation m) h k = by (slice_get f.eqs m) h k
    where
      by : (o : Option (ℕ × Expression)) → MatchOption o ⊥ (λ q. (a.var ≡ q.0) × (a.at ≡ Some m)) → MatchOption o ⊥ (λ q. (b.var ≡ q.0) × (b.at ≡ Some m)) → (a.var ≡ b.var) × (a.at ≡ b.at)
      by None h k = absurd h
      by (Some q) h k = (h.0 ∙ sym k.0, h.1 ∙ sym k.1)

  pub one_fault_in : (a b : ClockFault) → a.func ≡ b.func → IsClockFaultIn fs f a → IsClockFaultIn fs f b → a ≡ b
  one_fault_in a b same h k =
      let s = says_same a b k.place (subst (SaysClocks f a) (one_place (GoodClock f.decls) (IsAtItsClock fs f.decls) f h.place k.place h.first k.first) h.says) k.says in
      let want : a.want ≡ b.want = h.want ∙ ap (clock_of f.decls) s.0 ∙ sym k.want in
      λ i. record { func = same i; var = s.0 i; want = want i; at = s.1 i }

  -- a declaration at fault
  pub declaration_fault : (fault : ClockFault) (func var : ℕ) → FirstDeclaration (GoodClock f.decls) f var → fault ≡ record { func = func; var = var; want = clock_of f.decls var; at = None } → (fault.func ≡ func) × IsClockFaultIn fs f fault
  declaration_fault fault func var first is =
      subst (λ (x : ClockFault). (x.func ≡ func) × IsClockFaultIn fs f x) (sym is) (refl, record { place = declaration var; first = first; says = (refl, refl); want = refl })

  -- an equation at fault
  pub equation_fault : (fault : ClockFault) (func k : ℕ) (q : ℕ × Expression) → ((x : ℕ) → x < length f.decls → GoodClock f.decls x) → All (IsAtItsClock fs f.decls) (take k f.eqs) → slice_get f.eqs k ≡ Some q
      → (IsAtItsClock fs f.decls q → ⊥) → fault ≡ record { func = func; var = q.0; want = clock_of f.decls q.0; at = Some k } → (fault.func ≡ func) × IsClockFaultIn fs f fault
  equation_fault fault func k q clocks before here broken is =
      subst (λ (x : ClockFault). (x.func ≡ func) × IsClockFaultIn fs f x) (sym is) (
        refl,
        record {
          place = equation k;
          first = (clocks, (q, record { here = here; before = before; broken = broken }));
          says = subst (λ o. MatchOption o ⊥ (λ p. (q.0 ≡ p.0) × (Some k ≡ Some k))) (sym here) (refl, refl);
          want = refl;
        },
      )

  -- the test of an equation
  pub test_decides : All GoodFunction fs → ((x : ℕ) → x < length f.decls → GoodClock f.decls x) → (q : ℕ × Expression) → VarsBelow (length f.decls) q.1 → Decides (is_at fs f.decls q.1 (innermost (clock_of f.decls q.0))) (IsAtItsClock fs f.decls q)
  test_decides good clocks q below =
      let c = everywhere f.decls clocks in
      subst (λ ck. Decides (is_at fs f.decls q.1 (innermost (clock_of f.decls q.0))) (Clocked fs f.decls q.1 ck)) (to_innermost f.decls (clock_of f.decls q.0) (c q.0)) (at_decides fs f.decls good c q.1 (innermost (clock_of f.decls q.0)) below)

module _ (p : WholeProgram) (good : All GoodFunction p.funcs) where
  fault_before : (a b : ClockFault) → IsFirstClockFault p a → IsFirstClockFault p b → a.func < b.func → ⊥
  fault_before a b h k l = by (function_of p.funcs a.func) refl h.here
    where
      by : (o : Option Function) → function_of p.funcs a.func ≡ o → MatchOption o ⊥ (λ f. IsClockFaultIn p.funcs f a) → ⊥
      by None e h = h
      by (Some f) e h = fault_unclocked p.funcs f (function_all GoodFunction p.funcs good a.func f e) a h (all_front (ClockedFunction p.funcs) p.funcs b.func a.func f k.before l (sym (function_of_is p.funcs a.func) ∙ e))

  fault_same : (a b : ClockFault) (o : Option Function) → a.func ≡ b.func → MatchOption o ⊥ (λ f. IsClockFaultIn p.funcs f a) → MatchOption o ⊥ (λ f. IsClockFaultIn p.funcs f b) → a ≡ b
  fault_same a b None e h k = absurd h
  fault_same a b (Some f) e h k = one_fault_in p.funcs f a b e h k

  one_clock_fault : (a b : ClockFault) → IsFirstClockFault p a → IsFirstClockFault p b → a ≡ b
  one_clock_fault a b h k = elim (compare a.func b.func) [
    | inl l ↦ absurd (fault_before a b h k l)
    | inr r ↦ elim r [
      | inl l ↦ absurd (fault_before b a k h l)
      | inr e ↦ fault_same a b (function_of p.funcs b.func) e (subst (λ n. MatchOption (function_of p.funcs n) ⊥ (λ f. IsClockFaultIn p.funcs f a)) e h.here) k.here
    ]
  ]

  not_clocked : (a : ClockFault) → IsFirstClockFault p a → ClockedProgram p → ⊥
  not_clocked a h t = by (function_of p.funcs a.func) refl h.here
    where
      by : (o : Option Function) → function_of p.funcs a.func ≡ o → MatchOption o ⊥ (λ f. IsClockFaultIn p.funcs f a) → ⊥
      by None e h = h
      by (Some f) e h = fault_unclocked p.funcs f (function_all GoodFunction p.funcs good a.func f e) a h (function_all (ClockedFunction p.funcs) p.funcs t a.func f e)

-- the first function at fault
pub program_fault : (p : WholeProgram) (fault : ClockFault) (n : ℕ) (f : Function) → All (ClockedFunction p.funcs) (take n p.funcs) → slice_get p.funcs n ≡ Some f → (fault.func ≡ n) × IsClockFaultIn p.funcs f fault → IsFirstClockFault p fault
program_fault p fault n f before here h = record {
  before = subst (λ k. All (ClockedFunction p.funcs) (take k p.funcs)) (sym h.0) before;
  here = subst (λ o. MatchOption o ⊥ (λ f. IsClockFaultIn p.funcs f fault)) (sym (ap (function_of p.funcs) h.0 ∙ function_of_is p.funcs n ∙ here)) h.1;
}

-- what an answer tells
pub record Told (p : WholeProgram) (r : Result (Unit {0}) (Or ClockFault)) : Type 0 where
  pub ok : OnOk r (ClockedProgram p)
  pub clocked : ClockedProgram p → (r ≡ Ok tt) ⊎ (r ≡ Err Memory)
  pub fault : (x : ClockFault) → r ≡ Err (Fault x) → IsFirstClockFault p x
  pub first : (x : ClockFault) → IsFirstClockFault p x → (r ≡ Err (Fault x)) ⊎ (r ≡ Err Memory)

pub clocks_told : (p : WholeProgram) (funcs : List Function) → funcs ≡ p.funcs → All GoodFunction funcs → (r : Result (Unit {0}) (Or ClockFault)) → MatchResult r (λ _. ClockedProgram p) (λ e. ForFault e (IsFirstClockFault p)) → Told p r
clocks_told p funcs same good r h = go r h
  where
    good' : All GoodFunction p.funcs
    good' = subst (All GoodFunction) same good

    go : (r : Result (Unit {0}) (Or ClockFault)) → MatchResult r (λ _. ClockedProgram p) (λ e. ForFault e (IsFirstClockFault p)) → Told p r
    go (Ok u) h = record { ok = h; clocked = λ _. inl refl; fault = λ x e. absurd (cc); first = λ x k. absurd (not_clocked p good' x k h) }
    go (Err (Fault y)) h = record {
      ok = tt;
      clocked = λ k. absurd (not_clocked p good' y h k);
      fault = λ x e. let same : y ≡ x = cc in subst (IsFirstClockFault p) same h;
      first = λ x k. inl (ap (λ z. Err (Fault z)) (one_clock_fault p good' y x h k));
    }
    go (Err Memory) h = record { ok = tt; clocked = λ _. inr refl; fault = λ x e. absurd (cc); first = λ x k. inr refl }

-- an error that was handed on
pub or_handed_on : (p : WholeProgram) (x : Or ClockFault) → ForFault x (IsFirstClockFault p) → (r : Result (Unit {0}) (Or ClockFault)) → IsErrAnd r (λ y. y ≡ x) → MatchResult r (λ _. ClockedProgram p) (λ e. ForFault e (IsFirstClockFault p))
or_handed_on p x is (Ok u) h = absurd h
or_handed_on p x is (Err y) h = subst (λ z. ForFault z (IsFirstClockFault p)) (sym h) is

-- an equation that fails the test, or passes it
module _ (fs : List Function) (f : Function) (ds : List Decl) (k left : ℕ) (q : ℕ × Expression) (right : Expression) (pair : Option (ℕ × Bool)) (good : All GoodFunction fs) (own : GoodFunction f)
    (clocks : (x : ℕ) → x < length f.decls → GoodClock f.decls x) (here : slice_get f.eqs k ≡ Some q) (same : ds ≡ f.decls) (var : left ≡ q.0) (is : right ≡ q.1) (inner : pair ≡ innermost (clock_of ds left)) where
  test_is : is_at fs ds right pair ≡ is_at fs f.decls q.1 (innermost (clock_of f.decls q.0))
  test_is = λ i. is_at fs (same i) (is i) ((inner ∙ (λ j. innermost (clock_of (same j) (var j)))) i)

  pub fails_test : false ≡ is_at fs ds right pair → IsAtItsClock fs f.decls q → ⊥
  fails_test h c = let yes = (test_decides fs f good clocks q (right_inside f own k q here)).1 c in let not' = h ∙ test_is in cc

  pub passes_test : true ≡ is_at fs ds right pair → IsAtItsClock fs f.decls q
  passes_test h = (test_decides fs f good clocks q (right_inside f own k q here)).0 (sym (h ∙ test_is))

  -- the fault of that equation
  pub test_fault : (fault : ClockFault) (func : ℕ) → All (IsAtItsClock fs f.decls) (take k f.eqs) → false ≡ is_at fs ds right pair → fault ≡ record { func = func; var = left; want = clock_of f.decls left; at = Some k } → (fault.func ≡ func) × IsClockFaultIn fs f fault
  test_fault fault func before h e = equation_fault fs f fault func k q clocks before here (fails_test h) (e ∙ (λ i. record { func = func; var = var i; want = clock_of f.decls (var i); at = Some k }))

-- the error of the first function that is not clocked
pub first_fault : (p : WholeProgram) (funcs : List Function) (e : Or ClockFault) (n : ℕ) (f : Function) → funcs ≡ p.funcs → All (ClockedFunction p.funcs) (take n p.funcs) → slice_get p.funcs n ≡ Some f
    → ForFault e (λ fault. (fault.func ≡ n) × IsClockFaultIn funcs f fault) → ForFault e (IsFirstClockFault p)
first_fault p funcs (Fault x) n f same before here h = program_fault p x n f before here (h.0, subst (λ fs. IsClockFaultIn fs f x) same h.1)
first_fault p funcs Memory n f same before here h = tt
