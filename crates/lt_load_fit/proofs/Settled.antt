-- Steps that touch nothing.
use Rattle.std.proofs.Common.{◌≡◌, Result, Ok, Err, sym, subst, inl, inr}
use Rattle.std.specs.Prelude.{IsErrAnd}
use Rattle.lt_base.specs.declared.memory.Or.{Or}
use Rattle.lt_base.specs.declared.memory.Or.TheVariants.{Fault, Memory}
use Rattle.lt_answer.specs.Answered.{Verdict, AndThen, Refuses, Settles}
use Rattle.lt_answer.proofs.Stages.{settles_too}

-- one, by its error

module _ {U E : Type 0} (W : Verdict U E) where
  pub err_settled : (e : Or E) (r : Result U (Or E)) → IsErrAnd r (λ f. f ≡ e) → Refuses W e → Settles W r
  err_settled e (Ok x) is refused = absurd is
  err_settled e (Err f) is refused = subst (Refuses W) (sym is) refused

  pub memory_settled : (r : Result U (Or E)) → IsErrAnd r (λ f. f ≡ Memory) → Settles W r
  memory_settled r is = err_settled Memory r is tt

-- one after another

module _ {T U E : Type 0} (V : Verdict T E) (next : T → Verdict U E) where
  refused_first : (e : Or E) → Refuses V e → Refuses (AndThen V next) e
  refused_first (Fault e) right = inl right
  refused_first Memory right = tt

  -- the first is refused
  pub stop_settled : (e : Or E) (r : Result U (Or E)) → IsErrAnd r (λ f. f ≡ e) → Refuses V e → Settles (AndThen V next) r
  stop_settled e r is refused = err_settled (AndThen V next) e r is (refused_first e refused)

  -- the second is left
  pub then_settled : (x : T) (r : Result U (Or E)) → V (Ok x) → Settles (next x) r → Settles (AndThen V next) r
  then_settled x r first second = settles_too (next x) (AndThen V next) (λ o right. inr (x, first, right)) r second
