-- Typed functions, by their declarations and equations, and the first fault.
use Rattle.std.proofs.Common.{◌≡◌, ◌≢◌, ℕ, ◌<◌, ◌⊎◌, inl, inr, List, length, get_or, All, take, Option, Some, None, refl, sym, ap, ◌∙◌, subst, arith}
use Rattle.std.specs.Prelude.{◌↔◌, Result, Ok, Err, MatchResult}
use Rattle.std.specs.Option.{MatchOption}
use Rattle.std.specs.List.{slice_get}
use Rattle.std.proofs.lemmas.Option.{same_Some}
use Rattle.lt_base.specs.declared.value.Ty.TheVariants.{Int as IntTy}
use Rattle.lt_base.specs.declared.function.Decl.{Decl}
use Rattle.lt_base.specs.Expression.{Expression}
use Rattle.lt_base.specs.Program.{Function, WholeProgram, GoodFunction}
use Rattle.lt_base.specs.Meaning.{clock_of, function_of}
use Rattle.lt_base.specs.Typing.{type_of, ty_at, TypedFunction, TypedProgram}
use Rattle.lt_base.proofs.Lookups.{right_all, function_all}
use Rattle.lt_check.specs.declared.typing.TypeFault.{TypeFault}
use Rattle.lt_check.specs.Places.{Place, declaration, equation}
use Rattle.lt_check.specs.TypeFaults.{AllBools, BoolClock, HasItsType, SaysTypes, IsTypeFaultIn, IsFirstTypeFault}
use Rattle.lt_check.proofs.Found.{clock_of_is, equation_found, function_of_is, all_front}
use Rattle.lt_check.proofs.Places.{compare, kept_not_first, one_place, ok_exactly, err_exactly}

module _ (fs : List Function) (f : Function) where
  pub typed_from : ((x : ℕ) → x < length f.decls → BoolClock f.decls x) → All (HasItsType fs f.decls) f.eqs → TypedFunction fs f
  typed_from d e = record {
    clocks = λ k q l. subst (AllBools f.decls) (clock_of_is f.decls k q l) (d k l);
    rights = λ x a h. right_all (HasItsType fs f.decls) f.eqs e x a h;
  }

  pub typed_declared : TypedFunction fs f → (x : ℕ) → x < length f.decls → BoolClock f.decls x
  typed_declared t x l = declared_by f.decls x l t.clocks
    where
      declared_by : (ds : List Decl) (x : ℕ) → x < length ds → All (λ d. AllBools f.decls d.clock) ds → AllBools f.decls (clock_of ds x)
      declared_by ds x l a = let d : Decl = record { name = Rattle.std.proofs.Common.[]; ty = IntTy; clock = Rattle.std.proofs.Common.[] } in subst (AllBools f.decls) (sym (clock_of_is ds x d l)) (a x d l)

  pub typed_equated : GoodFunction f → TypedFunction fs f → (k : ℕ) (q : ℕ × Expression) → slice_get f.eqs k ≡ Some q → HasItsType fs f.decls q
  typed_equated good t k q h = t.rights q.0 q.1 (equation_found f good k q h)

  pub fault_untyped : GoodFunction f → (fault : TypeFault) → IsTypeFaultIn fs f fault → TypedFunction fs f → ⊥
  fault_untyped good fault h t = kept_not_first (BoolClock f.decls) (HasItsType fs f.decls) f (typed_declared t) (typed_equated good t) h.place h.first

  says_same : (a b : TypeFault) (place : Place) → SaysTypes fs f a place → SaysTypes fs f b place → (a.var ≡ b.var) × (a.want ≡ b.want) × (a.got ≡ b.got)
  says_same a b (declaration x) h k = (h.0 ∙ sym k.0, h.1 ∙ sym k.1, h.2 ∙ sym k.2)
  says_same a b (equation m) h k = by (slice_get f.eqs m) h k
    where
      by : (o : Option (ℕ × Expression)) → MatchOption o ⊥ (λ q. (a.var ≡ q.0) × (Some a.want ≡ ty_at f.decls q.0) × (a.got ≡ type_of fs f.decls q.1)) → MatchOption o ⊥ (λ q. (b.var ≡ q.0) × (Some b.want ≡ ty_at f.decls q.0) × (b.got ≡ type_of fs f.decls q.1)) → (a.var ≡ b.var) × (a.want ≡ b.want) × (a.got ≡ b.got)
      by None h k = absurd h
      by (Some q) h k = (h.0 ∙ sym k.0, same_Some a.want b.want (h.1 ∙ sym k.1), h.2 ∙ sym k.2)

  pub one_fault_in : (a b : TypeFault) → IsTypeFaultIn fs f a → IsTypeFaultIn fs f b → (a.var ≡ b.var) × (a.want ≡ b.want) × (a.got ≡ b.got)
  one_fault_in a b h k = says_same a b k.place (subst (SaysTypes fs f a) (one_place (BoolClock f.decls) (HasItsType fs f.decls) f h.place k.place h.first k.first) h.says) k.says

module _ (p : WholeProgram) (good : All GoodFunction p.funcs) where
  fault_before : (a b : TypeFault) → IsFirstTypeFault p a → IsFirstTypeFault p b → a.func < b.func → ⊥
  fault_before a b h k l = by (function_of p.funcs a.func) refl h.here
    where
      by : (o : Option Function) → function_of p.funcs a.func ≡ o → MatchOption o ⊥ (λ f. IsTypeFaultIn p.funcs f a) → ⊥
      by None e h = h
      by (Some f) e h = fault_untyped p.funcs f (function_all GoodFunction p.funcs good a.func f e) a h (all_front (TypedFunction p.funcs) p.funcs b.func a.func f k.before l (sym (function_of_is p.funcs a.func) ∙ e))

  fault_at : (a b : TypeFault) (o : Option Function) → MatchOption o ⊥ (λ f. IsTypeFaultIn p.funcs f a) → MatchOption o ⊥ (λ f. IsTypeFaultIn p.funcs f b) → (a.var ≡ b.var) × (a.want ≡ b.want) × (a.got ≡ b.got)
  fault_at a b None h k = absurd h
  fault_at a b (Some f) h k = one_fault_in p.funcs f a b h k

  same_fault : (a b : TypeFault) → a.func ≡ b.func → (a.var ≡ b.var) × (a.want ≡ b.want) × (a.got ≡ b.got) → a ≡ b
  same_fault a b e s = λ i. record { func = e i; var = s.0 i; want = s.1 i; got = s.2 i }

  pub one_type_fault : (a b : TypeFault) → IsFirstTypeFault p a → IsFirstTypeFault p b → a ≡ b
  one_type_fault a b h k = elim (compare a.func b.func) [
    | inl l ↦ absurd (fault_before a b h k l)
    | inr r ↦ elim r [
      | inl l ↦ absurd (fault_before b a k h l)
      | inr e ↦ same_fault a b e (fault_at a b (function_of p.funcs b.func) (subst (λ n. MatchOption (function_of p.funcs n) ⊥ (λ f. IsTypeFaultIn p.funcs f a)) e h.here) k.here)
    ]
  ]

  pub not_typed : (a : TypeFault) → IsFirstTypeFault p a → TypedProgram p → ⊥
  not_typed a h t = by (function_of p.funcs a.func) refl h.here
    where
      by : (o : Option Function) → function_of p.funcs a.func ≡ o → MatchOption o ⊥ (λ f. IsTypeFaultIn p.funcs f a) → ⊥
      by None e h = h
      by (Some f) e h = fault_untyped p.funcs f (function_all GoodFunction p.funcs good a.func f e) a h (function_all (TypedFunction p.funcs) p.funcs t a.func f e)

-- an equation at fault
pub equation_fault : (fs : List Function) (f : Function) (ds : List Decl) (fault : TypeFault) (k : ℕ) (q : ℕ × Expression) → ds ≡ f.decls → ((x : ℕ) → x < length f.decls → BoolClock f.decls x)
    → All (HasItsType fs f.decls) (take k f.eqs) → slice_get f.eqs k ≡ Some q → fault.var ≡ q.0 → Some fault.want ≡ ty_at ds q.0 → fault.got ≡ type_of fs ds q.1 → fault.got ≢ Some fault.want → IsTypeFaultIn fs f fault
equation_fault fs f ds fault k q same clocks before here var want got differ =
    let want' : Some fault.want ≡ ty_at f.decls q.0 = want ∙ ap (λ ds. ty_at ds q.0) same in
    let got' : fault.got ≡ type_of fs f.decls q.1 = got ∙ ap (λ ds. type_of fs ds q.1) same in
    record {
      place = equation k;
      first = (clocks, (q, record { here = here; before = before; broken = λ h. differ (got' ∙ h ∙ sym want') }));
      says = subst (λ o. MatchOption o ⊥ (λ q. (fault.var ≡ q.0) × (Some fault.want ≡ ty_at f.decls q.0) × (fault.got ≡ type_of fs f.decls q.1))) (sym here) (var, want', got');
    }

-- the first function at fault
pub program_fault : (p : WholeProgram) (fault : TypeFault) (n : ℕ) (f : Function) → All (TypedFunction p.funcs) (take n p.funcs) → slice_get p.funcs n ≡ Some f → (fault.func ≡ n) × IsTypeFaultIn p.funcs f fault → IsFirstTypeFault p fault
program_fault p fault n f before here h = record {
  before = subst (λ k. All (TypedFunction p.funcs) (take k p.funcs)) (sym h.0) before;
  here = subst (λ o. MatchOption o ⊥ (λ f. IsTypeFaultIn p.funcs f fault)) (sym (ap (function_of p.funcs) h.0 ∙ function_of_is p.funcs n ∙ here)) h.1;
}

-- what an answer tells
pub types_told : (p : WholeProgram) (funcs : List Function) → funcs ≡ p.funcs → All GoodFunction funcs → (r : Result (Unit {0}) TypeFault) → MatchResult r (λ _. TypedProgram p) (IsFirstTypeFault p)
    → ((r ≡ Ok tt) ↔ TypedProgram p) × ((x : TypeFault) → (r ≡ Err x) ↔ IsFirstTypeFault p x)
types_told p funcs same good r h =
    let good' : All GoodFunction p.funcs = subst (All GoodFunction) same good in (
      ok_exactly (TypedProgram p) (IsFirstTypeFault p) (not_typed p good') (one_type_fault p good') r h,
      err_exactly (TypedProgram p) (IsFirstTypeFault p) (not_typed p good') (one_type_fault p good') r h,
    )
