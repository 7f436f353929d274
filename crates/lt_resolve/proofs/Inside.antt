-- The first fault stands in a function of the tree, and a tree has one program.
use Rattle.std.proofs.Common.{◌≡◌, ℕ, suc, ◌+◌, ◌<◌, ◌≤◌, Bool, true, false, List, [], ◌∷◌, ◌++◌, length, Option, None, Some, sym, ap, subst, arith, codes}
use Rattle.std.specs.Prelude.{nat_eq}
use Rattle.std.specs.List.{All}
use Rattle.std.specs.Option.{option_or, option_map}
use Rattle.std.proofs.lemmas.List.Elements.{All-nil, All-cons, All-head, All-tail, All-append}
use Rattle.std.proofs.lemmas.Option.{slice_get_within, get_or_from_slice_get}
use Rattle.lt_syntax.specs.declared.tree.NodeText.{NodeText}
use Rattle.lt_syntax.specs.Tree.{Tm, Lit, Var, Unary, Binary, Choice, Sampled, Merged, Delayed, Followed, Arrow, Call, Tms, Nil, Cons}
use Rattle.lt_resolve.specs.declared.fault.NameFault.{NameFault}
use Rattle.lt_resolve.specs.declared.fault.NameKind.{NameKind}
use Rattle.lt_resolve.specs.declared.fault.NameKind.TheVariants.{Twice, Unknown, NoEquation, TwoEquations, EquationForInput, NoMain, WrongCount, NotOneOutput, Recursive, Limit}
use Rattle.lt_resolve.specs.Names.{Name, number_of_name, if_missing, first_some}
use Rattle.lt_resolve.specs.Scopes.{functions}
use Rattle.lt_resolve.specs.Named.{main}
use Rattle.lt_resolve.specs.Uses.{Site, term_count, sites_in, argument_sites, equation_sites, sites_from, edges}
use Rattle.lt_resolve.specs.Faults.{Occurrence, First, first_in, twice_in, unknown_in, no_equation_in, two_equations_in, input_equation_in, sites, wanted, answered, unless, above, size, functions_limit, IsFirstNameFault}
use Rattle.lt_resolve.proofs.Edges.{sites_within}

-- what is found stands in one of the functions
below_functions : (f : ℕ → NodeText → Option Name) (i : ℕ) (t : List NodeText) (o : Occurrence) → first_in f i t ≡ Some o → o.0 < i + length t
below_functions f i [] o h = absurd (cc)
below_functions f i (n ∷ t) o h = go (below_functions f (i + 1) t o) (f i n) h
  where
    go : (first_in f (i + 1) t ≡ Some o → o.0 < i + 1 + length t) → (p : Option Name) → option_or (option_map {U = Occurrence} (λ x. (i, x)) p) (first_in f (i + 1) t) ≡ Some o → o.0 < i + suc (length t)
    go ih None h = let k = ih h in omega (arith, k)
    go ih (Some x) h = let pair : ◌≡◌ {A = Occurrence} (i, x) o = cc in let first : i ≡ o.0 = ap (λ (p : Occurrence). p.0) pair in omega (arith, first)

-- ---- the callers of calls

module _ (n : ℕ) (funcs : List Name) where
  abbrev Caller : Site → Type 0
  Caller s = s.caller < n

  module _ (i : ℕ) (l : i < n) where
    mutual
      callers : (a : Tm) → All Caller (sites_in funcs i a)
      callers (Lit v) = All-nil Caller
      callers (Var x) = All-nil Caller
      callers (Unary o a) = callers a
      callers (Binary o a b) = All-append Caller (sites_in funcs i a) (sites_in funcs i b) (callers a) (callers b)
      callers (Choice c a b) = All-append Caller (sites_in funcs i c) (sites_in funcs i a ++ sites_in funcs i b) (callers c) (All-append Caller (sites_in funcs i a) (sites_in funcs i b) (callers a) (callers b))
      callers (Sampled a c t) = callers a
      callers (Merged c a b) = All-append Caller (sites_in funcs i a) (sites_in funcs i b) (callers a) (callers b)
      callers (Delayed v a) = callers a
      callers (Followed a b) = All-append Caller (sites_in funcs i a) (sites_in funcs i b) (callers a) (callers b)
      callers (Arrow a b) = All-append Caller (sites_in funcs i a) (sites_in funcs i b) (callers a) (callers b)
      callers (Call f args) = All-cons Caller (record { caller = i; name = f; callee = number_of_name funcs f; arguments = term_count args }) (argument_sites funcs i args) l (argument_callers args)

      argument_callers : (args : Tms) → All Caller (argument_sites funcs i args)
      argument_callers Nil = All-nil Caller
      argument_callers (Cons a args) = All-append Caller (sites_in funcs i a) (argument_sites funcs i args) (callers a) (argument_callers args)

    equation_callers : (qs : List (Name × Tm)) → All Caller (equation_sites funcs i qs)
    equation_callers [] = All-nil Caller
    equation_callers (q ∷ qs) = All-append Caller (sites_in funcs i q.1) (equation_sites funcs i qs) (callers q.1) (equation_callers qs)

  function_callers : (i : ℕ) (t : List NodeText) → i + length t ≤ n → All Caller (sites_from funcs i t)
  function_callers i [] l = All-nil Caller
  function_callers i (m ∷ t) l = All-append Caller (equation_sites funcs i m.eqs) (sites_from funcs (i + 1) t) (equation_callers i (omega arith) m.eqs) (function_callers (i + 1) t (omega arith))

  below_sites : (test : Site → Bool) (ss : List Site) (o : Occurrence) → All Caller ss → first_some (λ s. unless (test s) s) ss ≡ Some o → o.0 < n
  below_sites test [] o a h = absurd (cc)
  below_sites test (s ∷ ss) o a h = go (below_sites test ss o (All-tail Caller s ss a)) (test s) h
    where
      go : (first_some (λ s. unless (test s) s) ss ≡ Some o → o.0 < n) → (b : Bool) → option_or (unless b s) (first_some (λ s. unless (test s) s) ss) ≡ Some o → o.0 < n
      go ih true h = ih h
      go ih false h = let pair : ◌≡◌ {A = Occurrence} (s.caller, s.name) o = cc in subst (λ k. k < n) (ap (λ (p : Occurrence). p.0) pair) (All-head Caller s ss a)

at_zero : (p : Option Name) (o : Occurrence) → option_map {U = Occurrence} (λ x. (0, x)) p ≡ Some o → o.0 ≡ 0
at_zero None o h = absurd (cc)
at_zero (Some x) o h = let pair : ◌≡◌ {A = Occurrence} (0, x) o = cc in sym (ap (λ (p : Occurrence). p.0) pair)

either : (a b : Option Occurrence) (o : Occurrence) (P : Type 0) → (a ≡ Some o → P) → (b ≡ Some o → P) → option_or a b ≡ Some o → P
either None b o P f g h = g h
either (Some x) b o P f g h = f h

module _ (t : List NodeText) (some : 0 < length t) where
  stands : (k : NameKind) (o : Occurrence) → First t k (Some o) → o.0 < length t
  stands Twice o h = let k = below_functions (twice_in (functions t)) 0 t o (sym h) in omega (arith, k)
  stands Unknown o h = let k = below_functions (λ _. unknown_in (functions t)) 0 t o (sym h) in omega (arith, k)
  stands NoEquation o h = let k = below_functions (λ _. no_equation_in) 0 t o (sym h) in omega (arith, k)
  stands TwoEquations o h = let k = below_functions (λ _. two_equations_in) 0 t o (sym h) in omega (arith, k)
  stands EquationForInput o h = let k = below_functions (λ _. input_equation_in) 0 t o (sym h) in omega (arith, k)
  stands NoMain o h = let k = at_zero (if_missing (functions t) main) o (sym h) in omega (arith, k, some)
  stands WrongCount o h = below_sites (length t) (functions t) (λ s. nat_eq s.arguments (wanted t s.callee)) (sites t) o (function_callers (length t) (functions t) 0 t (omega arith)) (sym h)
  stands NotOneOutput o h = below_sites (length t) (functions t) (λ s. nat_eq (answered t s.callee) 1) (sites t) o (function_callers (length t) (functions t) 0 t (omega arith)) (sym h)
  stands Recursive o h =
      let e : ℕ × ℕ = (o.0, h.callee) in
      let w = sites_within t h.place e (slice_get_within (edges (sites t)) h.place e h.stands) in
      subst (λ (p : ℕ × ℕ). p.0 < length t) (get_or_from_slice_get (edges (sites t)) h.place e e h.stands) w.0
  stands Limit o h =
      either (functions_limit t) (option_or (first_in (λ _ n. above 4096 (size n) (codes "variables")) 0 t) (option_or (first_in (λ _ n. above 64 (length n.ins) (codes "inputs")) 0 t) (first_in (λ _ n. above 64 (length n.outs) (codes "outputs")) 0 t))) o (o.0 < length t)
      (λ k. let z = at_zero (above 64 (length t) (codes "functions")) o k in omega (arith, z, some))
      (either (first_in (λ _ n. above 4096 (size n) (codes "variables")) 0 t) (option_or (first_in (λ _ n. above 64 (length n.ins) (codes "inputs")) 0 t) (first_in (λ _ n. above 64 (length n.outs) (codes "outputs")) 0 t)) o (o.0 < length t)
      (λ k. let m = below_functions (λ _ n. above 4096 (size n) (codes "variables")) 0 t o k in omega (arith, m))
      (either (first_in (λ _ n. above 64 (length n.ins) (codes "inputs")) 0 t) (first_in (λ _ n. above 64 (length n.outs) (codes "outputs")) 0 t) o (o.0 < length t)
      (λ k. let m = below_functions (λ _ n. above 64 (length n.ins) (codes "inputs")) 0 t o k in omega (arith, m))
      (λ k. let m = below_functions (λ _ n. above 64 (length n.outs) (codes "outputs")) 0 t o k in omega (arith, m))))
      (sym h)

  pub inside : (f : NameFault) → IsFirstNameFault t f → f.func < length t
  inside f h = stands f.kind (f.func, f.name) h.here
