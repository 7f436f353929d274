-- A fact of each copy, from one of each expression at its clock.
use Rattle.std.proofs.Common.{ℕ, ◌+◌, Bool, true, false, List, [], ◌∷◌, All}
use Rattle.std.proofs.lemmas.List.Elements.{All-head, All-tail}
use Rattle.lt_base.specs.declared.value.Value.{Value}
use Rattle.lt_base.specs.declared.function.Decl.{Decl}
use Rattle.lt_base.specs.Expression.{Expression, literal, variable, unary, binary, imported, choose, sampled, merged, delayed, follow, arrow, call, Arguments, no_arguments, argument}
use Rattle.lt_base.specs.Meaning.{ClockPairs, clock_of, outer}
use Rattle.lt_expand.specs.Copies.{Library, Copy, grown, arguments_grown, arguments_inlined, copies, arguments_copies, equations_copies}
use Rattle.lt_expand.proofs.Standing.{Each}
use Rattle.lt_expand.proofs.Filled.{each_left, each_right, each_append}

-- facts of expressions and arguments at clocks that go down to their parts
pub record Inherited (At : ClockPairs → Expression → Type 0) (AtAll : ClockPairs → Arguments → Type 0) : Type 0 where
  pub one : (o : _) (ck : ClockPairs) (a : Expression) → At ck (unary o a) → At ck a
  pub two : (o : _) (ck : ClockPairs) (a b : Expression) → At ck (binary o a b) → At ck a × At ck b
  pub outside : (o : _) (ck : ClockPairs) (a b : Expression) → At ck (imported o a b) → At ck a × At ck b
  pub three : (ck : ClockPairs) (c a b : Expression) → At ck (choose c a b) → At ck c × At ck a × At ck b
  pub up : (ck : ClockPairs) (e : Expression) (c : ℕ) (b : Bool) → At ck (sampled e c b) → At (outer ck) e
  pub down : (ck : ClockPairs) (c : ℕ) (a b : Expression) → At ck (merged c a b) → At ((c, true) ∷ ck) a × At ((c, false) ∷ ck) b
  pub late : (ck : ClockPairs) (v : Value) (e : Expression) → At ck (delayed v e) → At ck e
  pub later : (ck : ClockPairs) (a b : Expression) → At ck (follow a b) → At ck a × At ck b
  pub first : (ck : ClockPairs) (a b : Expression) → At ck (arrow a b) → At ck a × At ck b
  pub inside : (ck : ClockPairs) (g : ℕ) (args : Arguments) → At ck (call g args) → AtAll ck args
  pub each : (ck : ClockPairs) (e : Expression) (args : Arguments) → AtAll ck (argument e args) → At ck e × AtAll ck args

module _ (lib : Library) (S : Copy → Type 0) (At : ClockPairs → Expression → Type 0) (AtAll : ClockPairs → Arguments → Type 0) (inherited : Inherited At AtAll) (P : Copy → Type 0) (here : (ck : ClockPairs) (g : ℕ) (args : Arguments) (n : ℕ) → At ck (call g args) → Each S (arguments_copies lib n ck args) → P (record { from = n + arguments_grown lib args; clock = ck; source = lib g; inputs = arguments_inlined lib n args })) where
  mutual
    pub each_copy : (e : Expression) (n : ℕ) (ck : ClockPairs) → At ck e → Each S (copies lib n ck e) → Each P (copies lib n ck e)
    each_copy (literal v) n ck h s = tt
    each_copy (variable x) n ck h s = tt
    each_copy (unary o a) n ck h s = each_copy a n ck (inherited.one o ck a h) s
    each_copy (binary o a b) n ck h s =
        let k = inherited.two o ck a b h in
        each_append P (copies lib n ck a) _ (each_copy a n ck k.0 (each_left S (copies lib n ck a) _ s)) (each_copy b (n + grown lib a) ck k.1 (each_right S (copies lib n ck a) _ s))
    each_copy (imported o a b) n ck h s =
        let k = inherited.outside o ck a b h in
        each_append P (copies lib n ck a) _ (each_copy a n ck k.0 (each_left S (copies lib n ck a) _ s)) (each_copy b (n + grown lib a) ck k.1 (each_right S (copies lib n ck a) _ s))
    each_copy (choose c a b) n ck h s =
        let k = inherited.three ck c a b h in
        let s' = each_right S (copies lib n ck c) _ s in
        each_append P (copies lib n ck c) _ (each_copy c n ck k.0 (each_left S (copies lib n ck c) _ s))
        (each_append P (copies lib (n + grown lib c) ck a) _ (each_copy a (n + grown lib c) ck k.1 (each_left S (copies lib (n + grown lib c) ck a) _ s')) (each_copy b ((n + grown lib c) + grown lib a) ck k.2 (each_right S (copies lib (n + grown lib c) ck a) _ s')))
    each_copy (sampled e c b) n ck h s = each_copy e n (outer ck) (inherited.up ck e c b h) s
    each_copy (merged c a b) n ck h s =
        let k = inherited.down ck c a b h in
        each_append P (copies lib n ((c, true) ∷ ck) a) _ (each_copy a n ((c, true) ∷ ck) k.0 (each_left S (copies lib n ((c, true) ∷ ck) a) _ s)) (each_copy b (n + grown lib a) ((c, false) ∷ ck) k.1 (each_right S (copies lib n ((c, true) ∷ ck) a) _ s))
    each_copy (delayed v e) n ck h s = each_copy e n ck (inherited.late ck v e h) s
    each_copy (follow a b) n ck h s =
        let k = inherited.later ck a b h in
        each_append P (copies lib n ck a) _ (each_copy a n ck k.0 (each_left S (copies lib n ck a) _ s)) (each_copy b (n + grown lib a) ck k.1 (each_right S (copies lib n ck a) _ s))
    each_copy (arrow a b) n ck h s =
        let k = inherited.first ck a b h in
        each_append P (copies lib n ck a) _ (each_copy a n ck k.0 (each_left S (copies lib n ck a) _ s)) (each_copy b (n + grown lib a) ck k.1 (each_right S (copies lib n ck a) _ s))
    each_copy (call g args) n ck h s =
        let s' = each_left S (arguments_copies lib n ck args) _ s in
        each_append P (arguments_copies lib n ck args) _ (each_argument_copy args n ck (inherited.inside ck g args h) s') (here ck g args n h s', tt)

    pub each_argument_copy : (args : Arguments) (n : ℕ) (ck : ClockPairs) → AtAll ck args → Each S (arguments_copies lib n ck args) → Each P (arguments_copies lib n ck args)
    each_argument_copy no_arguments n ck h s = tt
    each_argument_copy (argument e args) n ck h s =
        let k = inherited.each ck e args h in
        each_append P (copies lib n ck e) _ (each_copy e n ck k.0 (each_left S (copies lib n ck e) _ s)) (each_argument_copy args (n + grown lib e) ck k.1 (each_right S (copies lib n ck e) _ s))

  pub each_equation_copy : (ds : List Decl) (n : ℕ) (qs : List (ℕ × Expression)) → All (λ q. At (clock_of ds q.0) q.1) qs → Each S (equations_copies lib ds n qs) → Each P (equations_copies lib ds n qs)
  each_equation_copy ds n [] h s = tt
  each_equation_copy ds n (q ∷ qs) h s =
      each_append P (copies lib n (clock_of ds q.0) q.1) _
      (each_copy q.1 n (clock_of ds q.0) (All-head (λ q. At (clock_of ds q.0) q.1) q qs h) (each_left S (copies lib n (clock_of ds q.0) q.1) _ s))
      (each_equation_copy ds (n + grown lib q.1) qs (All-tail (λ q. At (clock_of ds q.0) q.1) q qs h) (each_right S (copies lib n (clock_of ds q.0) q.1) _ s))
