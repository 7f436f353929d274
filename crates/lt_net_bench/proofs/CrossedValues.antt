-- What crosses is there, of its type, and the sender's own.
use Rattle.std.proofs.Common.{◌≡◌, ℕ, suc, ◌<◌, true, false, List, [], ◌∷◌, ◌++◌, length, map, Option, Some, None, refl, sym, ap, ◌∙◌, get_or}
use Rattle.std.specs.Prelude.{if◌then◌else◌}
use Rattle.std.proofs.Math.Seq.{get_or-append_seam}
use Rattle.lt_base.specs.declared.value.Value.{Value}
use Rattle.lt_base.specs.declared.value.Ty.{Ty}
use Rattle.lt_base.specs.declared.value.Cell.{Cell}
use Rattle.lt_base.specs.declared.value.Cell.TheVariants.{Absent, Here}
use Rattle.lt_base.specs.declared.function.Decl.{Decl}
use Rattle.lt_base.specs.Value.{ty_of}
use Rattle.lt_base.specs.Expression.{Expression, literal, variable, unary, binary, imported, choose, sampled, merged, delayed, follow, arrow, call}
use Rattle.lt_base.specs.Program.{Function, GoodFunction}
use Rattle.lt_base.specs.Typing.{TypedFunction, ty_at, input_types, AllFit, HasType}
use Rattle.lt_base.specs.Clocking.{Clocked, ClockedFunction}
use Rattle.lt_base.specs.Dependence.{Causal}
use Rattle.lt_base.specs.Calls.{EachCall}
use Rattle.lt_base.specs.Defined.{AllDefined}
use Rattle.lt_base.specs.Meaning.{ClockPairs, Environment, clock_of, calls, present, cell, here, stream_of}
use Rattle.lt_base.proofs.Defined.{callless_defined}
use Rattle.lt_base.proofs.Solution.{environments_solve}
use Rattle.lt_net_node.specs.Local.{upto, firsts, runs, newest}
use Rattle.lt_net_bench.proofs.LocalFronts.{stream_firsts}

-- a clocked expression calls nothing where no function is known
clocked_callless : (ds : List Decl) (e : Expression) (ck : ClockPairs) → Clocked [] ds e ck → EachCall (λ g. ⊥) e
clocked_callless ds (literal v) ck k = tt
clocked_callless ds (variable x) ck k = tt
clocked_callless ds (unary o a) ck k = clocked_callless ds a ck k
clocked_callless ds (binary o a b) ck k = (clocked_callless ds a ck k.0, clocked_callless ds b ck k.1)
clocked_callless ds (imported o a b) ck k = (clocked_callless ds a ck k.0, clocked_callless ds b ck k.1)
clocked_callless ds (choose c a b) ck k = (clocked_callless ds c ck k.0, clocked_callless ds a ck k.1, clocked_callless ds b ck k.2)
clocked_callless ds (sampled e c b) [] k = elim k [ ]
clocked_callless ds (sampled e c b) ((d, a) ∷ ck) k = clocked_callless ds e ck k.2.2
clocked_callless ds (merged c a b) ck k = (clocked_callless ds a ((c, true) ∷ ck) k.2, clocked_callless ds b ((c, false) ∷ ck) k.3)
clocked_callless ds (delayed v e) ck k = clocked_callless ds e ck k
clocked_callless ds (follow a b) ck k = (clocked_callless ds a ck k.0, clocked_callless ds b ck k.1)
clocked_callless ds (arrow a b) ck k = (clocked_callless ds a ck k.0, clocked_callless ds b ck k.1)
clocked_callless ds (call g args) ck k = elim k.0 [ ]

-- two lists that go on from one list with one element each
last_same : {A : Type 0} (xs ys : List A) (a b : A) → xs ≡ ys → xs ++ a ∷ [] ≡ ys ++ b ∷ [] → a ≡ b
last_same xs ys a b same h =
    sym (get_or-append_seam xs a [] a) ∙ ap (λ l. get_or l (length xs) a) h ∙ ap (λ n. get_or (ys ++ b ∷ []) n a) (ap length same) ∙ get_or-append_seam ys b [] a

-- a variable on the base clock that has a value of a type
pub record IsGiven (env : Environment) (x : ℕ) (t : Ty) (c : Cell) : Type 0 where
  pub value : Value
  pub cell_is : c ≡ Here value
  pub value_is : env x ≡ Some value
  pub type_is : ty_of value ≡ t

given_by : (env : Environment) (x : ℕ) (t : Ty) (c : Cell) (o : Option Value) → env x ≡ o → HasType o t → c ≡ here o → IsGiven env x t c
given_by env x t c None is h e = elim h [ ]
given_by env x t c (Some v) is h e = record { value = v; cell_is = e; value_is = is; type_is = h }

module _ (f : Function) (good : GoodFunction f) (causal : Causal f) (clocked : ClockedFunction [] f) (typed : TypedFunction [] f) (rows : ℕ → List Value) (m : ℕ)
    (fits : AllFit (input_types f) (upto (λ k. map Some (rows k)) (suc m))) where
  abbrev env : Environment
  env = newest (runs (calls [] 0) f rows (suc m))

  all_defined : AllDefined f.decls (runs (calls [] 0) f rows (suc m))
  all_defined =
      callless_defined [] f (calls [] 0) good causal clocked typed (λ x e h. clocked_callless f.decls e (clock_of f.decls x) (clocked.rights x e h))
      (runs (calls [] 0) f rows (suc m)) (upto (λ k. map Some (rows k)) (suc m)) (environments_solve (calls [] 0) f causal (upto (λ k. map Some (rows k)) (suc m))) fits

  -- the cell with which the stream of a variable on the base clock goes on has the variable's value, of its type
  pub goes_on_with : (x : ℕ) (t : Ty) (c : Cell) → x < length f.decls → ty_at f.decls x ≡ Some t → clock_of f.decls x ≡ [] → stream_of [] f (firsts rows m ++ rows m ∷ []) x ≡ stream_of [] f (firsts rows m) x ++ c ∷ [] →
      IsGiven (newest (runs (calls [] 0) f rows (suc m))) x t c
  goes_on_with x t c lt ty base stream =
      let shown : ℕ → Cell = λ k. cell (newest (runs (calls [] 0) f rows (suc k))) (clock_of f.decls x) x in
      let both : stream_of [] f (firsts rows m) x ++ c ∷ [] ≡ firsts shown m ++ shown m ∷ [] = sym stream ∙ stream_firsts [] f rows (suc m) x in
      let last : c ≡ shown m = last_same (stream_of [] f (firsts rows m) x) (firsts shown m) c (shown m) (stream_firsts [] f rows m x) both in
      let on : present (newest (runs (calls [] 0) f rows (suc m))) (clock_of f.decls x) ≡ true = ap (present (newest (runs (calls [] 0) f rows (suc m)))) base in
      let is : c ≡ here (newest (runs (calls [] 0) f rows (suc m)) x) = last ∙ ap (λ b. if b then here (newest (runs (calls [] 0) f rows (suc m)) x) else Absent) on in
      given_by (newest (runs (calls [] 0) f rows (suc m))) x t c (newest (runs (calls [] 0) f rows (suc m)) x) refl (all_defined.0 x t lt ty on) is
