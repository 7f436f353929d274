-- Only the called functions of a library matter.
use Rattle.std.proofs.Common.{◌≡◌, ℕ, ◌+◌, true, false, List, [], ◌∷◌, ◌++◌, length, All, refl, ap}
use Rattle.std.proofs.lemmas.List.Elements.{All-head, All-tail}
use Rattle.lt_base.specs.declared.function.Decl.{Decl}
use Rattle.lt_base.specs.Expression.{Expression, literal, variable, unary, binary, imported, choose, sampled, merged, delayed, follow, arrow, call, Arguments, no_arguments, argument}
use Rattle.lt_base.specs.Program.{Function}
use Rattle.lt_base.specs.Meaning.{ClockPairs, clock_of, outer}
use Rattle.lt_base.specs.Calls.{EachCall, EachArgumentCall}
use Rattle.lt_expand.specs.Copies.{first_or_zero, Library, grown, arguments_grown, inlined, arguments_inlined, copies, arguments_copies, copied_decls, copied_equations, equations_inlined, equations_copies, with_copies}

module _ (lib lib' : Library) where
  abbrev pub Same : ℕ → Type 0
  Same g = lib g ≡ lib' g

  mutual
    pub grown_alike : (e : Expression) → EachCall Same e → grown lib e ≡ grown lib' e
    grown_alike (literal v) s = refl
    grown_alike (variable x) s = refl
    grown_alike (unary o a) s = grown_alike a s
    grown_alike (binary o a b) s = λ i. grown_alike a s.0 i + grown_alike b s.1 i
    grown_alike (imported o a b) s = λ i. grown_alike a s.0 i + grown_alike b s.1 i
    grown_alike (choose c a b) s = λ i. grown_alike c s.0 i + (grown_alike a s.1 i + grown_alike b s.2 i)
    grown_alike (sampled e c b) s = grown_alike e s
    grown_alike (merged c a b) s = λ i. grown_alike a s.0 i + grown_alike b s.1 i
    grown_alike (delayed v e) s = grown_alike e s
    grown_alike (follow a b) s = λ i. grown_alike a s.0 i + grown_alike b s.1 i
    grown_alike (arrow a b) s = λ i. grown_alike a s.0 i + grown_alike b s.1 i
    grown_alike (call g args) s = λ i. arguments_grown_alike args s.1 i + length (s.0 i).decls

    pub arguments_grown_alike : (args : Arguments) → EachArgumentCall Same args → arguments_grown lib args ≡ arguments_grown lib' args
    arguments_grown_alike no_arguments s = refl
    arguments_grown_alike (argument e args) s = λ i. grown_alike e s.0 i + arguments_grown_alike args s.1 i

  mutual
    pub inlined_alike : (e : Expression) (n m : ℕ) → n ≡ m → EachCall Same e → inlined lib n e ≡ inlined lib' m e
    inlined_alike (literal v) n m p s = refl
    inlined_alike (variable x) n m p s = refl
    inlined_alike (unary o a) n m p s = ap (unary o) (inlined_alike a n m p s)
    inlined_alike (binary o a b) n m p s = λ i. binary o (inlined_alike a n m p s.0 i) (inlined_alike b (n + grown lib a) (m + grown lib' a) (λ i. p i + grown_alike a s.0 i) s.1 i)
    inlined_alike (imported o a b) n m p s = λ i. imported o (inlined_alike a n m p s.0 i) (inlined_alike b (n + grown lib a) (m + grown lib' a) (λ i. p i + grown_alike a s.0 i) s.1 i)
    inlined_alike (choose c a b) n m p s =
        λ i. choose (inlined_alike c n m p s.0 i) (inlined_alike a (n + grown lib c) (m + grown lib' c) (λ i. p i + grown_alike c s.0 i) s.1 i) (inlined_alike b ((n + grown lib c) + grown lib a) ((m + grown lib' c) + grown lib' a) (λ i. (p i + grown_alike c s.0 i) + grown_alike a s.1 i) s.2 i)
    inlined_alike (sampled e c b) n m p s = ap (λ e. sampled e c b) (inlined_alike e n m p s)
    inlined_alike (merged c a b) n m p s = λ i. merged c (inlined_alike a n m p s.0 i) (inlined_alike b (n + grown lib a) (m + grown lib' a) (λ i. p i + grown_alike a s.0 i) s.1 i)
    inlined_alike (delayed v e) n m p s = ap (delayed v) (inlined_alike e n m p s)
    inlined_alike (follow a b) n m p s = λ i. follow (inlined_alike a n m p s.0 i) (inlined_alike b (n + grown lib a) (m + grown lib' a) (λ i. p i + grown_alike a s.0 i) s.1 i)
    inlined_alike (arrow a b) n m p s = λ i. arrow (inlined_alike a n m p s.0 i) (inlined_alike b (n + grown lib a) (m + grown lib' a) (λ i. p i + grown_alike a s.0 i) s.1 i)
    inlined_alike (call g args) n m p s = λ i. variable (first_or_zero (s.0 i).outs + (p i + arguments_grown_alike args s.1 i))

    pub arguments_inlined_alike : (args : Arguments) (n m : ℕ) → n ≡ m → EachArgumentCall Same args → arguments_inlined lib n args ≡ arguments_inlined lib' m args
    arguments_inlined_alike no_arguments n m p s = refl
    arguments_inlined_alike (argument e args) n m p s = λ i. argument (inlined_alike e n m p s.0 i) (arguments_inlined_alike args (n + grown lib e) (m + grown lib' e) (λ i. p i + grown_alike e s.0 i) s.1 i)

  mutual
    pub copies_alike : (e : Expression) (n m : ℕ) (ck : ClockPairs) → n ≡ m → EachCall Same e → copies lib n ck e ≡ copies lib' m ck e
    copies_alike (literal v) n m ck p s = refl
    copies_alike (variable x) n m ck p s = refl
    copies_alike (unary o a) n m ck p s = copies_alike a n m ck p s
    copies_alike (binary o a b) n m ck p s = λ i. copies_alike a n m ck p s.0 i ++ copies_alike b (n + grown lib a) (m + grown lib' a) ck (λ i. p i + grown_alike a s.0 i) s.1 i
    copies_alike (imported o a b) n m ck p s = λ i. copies_alike a n m ck p s.0 i ++ copies_alike b (n + grown lib a) (m + grown lib' a) ck (λ i. p i + grown_alike a s.0 i) s.1 i
    copies_alike (choose c a b) n m ck p s =
        λ i. copies_alike c n m ck p s.0 i ++ (copies_alike a (n + grown lib c) (m + grown lib' c) ck (λ i. p i + grown_alike c s.0 i) s.1 i ++ copies_alike b ((n + grown lib c) + grown lib a) ((m + grown lib' c) + grown lib' a) ck (λ i. (p i + grown_alike c s.0 i) + grown_alike a s.1 i) s.2 i)
    copies_alike (sampled e c b) n m ck p s = copies_alike e n m (outer ck) p s
    copies_alike (merged c a b) n m ck p s = λ i. copies_alike a n m ((c, true) ∷ ck) p s.0 i ++ copies_alike b (n + grown lib a) (m + grown lib' a) ((c, false) ∷ ck) (λ i. p i + grown_alike a s.0 i) s.1 i
    copies_alike (delayed v e) n m ck p s = copies_alike e n m ck p s
    copies_alike (follow a b) n m ck p s = λ i. copies_alike a n m ck p s.0 i ++ copies_alike b (n + grown lib a) (m + grown lib' a) ck (λ i. p i + grown_alike a s.0 i) s.1 i
    copies_alike (arrow a b) n m ck p s = λ i. copies_alike a n m ck p s.0 i ++ copies_alike b (n + grown lib a) (m + grown lib' a) ck (λ i. p i + grown_alike a s.0 i) s.1 i
    copies_alike (call g args) n m ck p s =
        λ i. arguments_copies_alike args n m ck p s.1 i ++ record { from = p i + arguments_grown_alike args s.1 i; clock = ck; source = s.0 i; inputs = arguments_inlined_alike args n m p s.1 i } ∷ []

    pub arguments_copies_alike : (args : Arguments) (n m : ℕ) (ck : ClockPairs) → n ≡ m → EachArgumentCall Same args → arguments_copies lib n ck args ≡ arguments_copies lib' m ck args
    arguments_copies_alike no_arguments n m ck p s = refl
    arguments_copies_alike (argument e args) n m ck p s = λ i. copies_alike e n m ck p s.0 i ++ arguments_copies_alike args (n + grown lib e) (m + grown lib' e) ck (λ i. p i + grown_alike e s.0 i) s.1 i

  abbrev AllSame : List (ℕ × Expression) → Type 0
  AllSame qs = All (λ q. EachCall Same q.1) qs

  equations_inlined_alike : (n m : ℕ) (qs : List (ℕ × Expression)) → n ≡ m → AllSame qs → equations_inlined lib n qs ≡ equations_inlined lib' m qs
  equations_inlined_alike n m [] p s = refl
  equations_inlined_alike n m (q ∷ qs) p s =
      let here = All-head (λ q. EachCall Same q.1) q qs s in
      let rest = equations_inlined_alike (n + grown lib q.1) (m + grown lib' q.1) qs (λ i. p i + grown_alike q.1 here i) (All-tail (λ q. EachCall Same q.1) q qs s) in
      λ i. (q.0, inlined_alike q.1 n m p here i) ∷ rest i

  equations_copies_alike : (ds : List Decl) (n m : ℕ) (qs : List (ℕ × Expression)) → n ≡ m → AllSame qs → equations_copies lib ds n qs ≡ equations_copies lib' ds m qs
  equations_copies_alike ds n m [] p s = refl
  equations_copies_alike ds n m (q ∷ qs) p s =
      let here = All-head (λ q. EachCall Same q.1) q qs s in
      let rest = equations_copies_alike ds (n + grown lib q.1) (m + grown lib' q.1) qs (λ i. p i + grown_alike q.1 here i) (All-tail (λ q. EachCall Same q.1) q qs s) in
      λ i. copies_alike q.1 n m (clock_of ds q.0) p here i ++ rest i

  pub opened_alike : (f : Function) → All (λ q. EachCall Same q.1) f.eqs → with_copies lib f ≡ with_copies lib' f
  opened_alike f s =
      let n = length f.decls in
      let a = equations_inlined_alike n n f.eqs refl s in
      let b = equations_copies_alike f.decls n n f.eqs refl s in
      λ i. record { name = f.name; decls = f.decls ++ copied_decls (b i); n_in = f.n_in; outs = f.outs; eqs = a i ++ copied_equations (b i) }
