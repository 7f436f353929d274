-- What resolving a tree without a fault establishes.
use Rattle.std.proofs.Common.{◌≡◌, ℕ, zero, suc, ◌+◌, ◌<◌, ◌≤◌, Bool, true, false, ◌||◌, List, [], ◌∷◌, ◌++◌, length, get_or, take, map, Option, None, Some, Contains, refl, sym, ap, ◌∙◌, subst, arith, ltb, eqb-true, ltb-false, ltb-true}
use Rattle.std.specs.Prelude.{nat_eq, if◌then◌else◌}
use Rattle.std.specs.List.{All, sum_by}
use Rattle.std.specs.Option.{option_map}
use Rattle.std.proofs.lemmas.List.{append-nil, map-append, length-map, get_or-map, get_or-take, length-take}
use Rattle.std.proofs.lemmas.List.Elements.{All-nil, All-cons, All-head, All-tail, Contains-append_left, Contains-append_right, Contains-push}
use Rattle.std.proofs.lemmas.List.Sums.{sum_by-cons}
use Rattle.lt_base.specs.Expression.{Expression, literal, variable, unary, binary, imported, choose, sampled, merged, delayed, follow, arrow, call, Arguments, no_arguments, argument}
use Rattle.lt_base.specs.Program.{Function, WholeProgram}
use Rattle.lt_base.specs.Meaning.{function_of}
use Rattle.lt_base.specs.Dependence.{has}
use Rattle.lt_base.specs.Graph.{Walks, NoClosedWalk}
use Rattle.lt_base.specs.Calls.{called, arguments_called, equations_called, function_called, CallsFunction}
use Rattle.lt_base.specs.Checked.{NamesDiffer, NamedProgram}
use Rattle.lt_base.specs.Sizes.{cost, arguments_cost}
use Rattle.lt_graph.specs.Edges.{Joined, AreWithin}
use Rattle.lt_syntax.specs.declared.tree.NodeText.{NodeText}
use Rattle.lt_syntax.specs.Program.{IsSpelled}
use Rattle.lt_syntax.specs.Tree.{Tm, Lit, Var, Unary, Binary, Choice, Sampled, Merged, Delayed, Followed, Arrow, Call, Tms, Nil, Cons}
use Rattle.lt_resolve.specs.declared.fault.NameKind.TheVariants as kind
use Rattle.lt_resolve.specs.Names.{Name, among, if_among, repeated_name}
use Rattle.lt_resolve.specs.Scopes.{declarations, variables, functions}
use Rattle.lt_resolve.specs.Named.{IsNamed, AreNamed, IsDeclared, IsNamedEquation, IsFunction, Along, Named}
use Rattle.lt_resolve.specs.Uses.{Site, term_delays, argument_delays, sites_in, argument_sites, equation_sites, sites_from, edge, edges}
use Rattle.lt_resolve.specs.Faults.{first_in, twice_in, sites, answered, unless, size, NoNameFault}
use Rattle.lt_resolve.specs.Resolves.{IsSmallFunction, IsResolved}
use Rattle.lt_resolve.proofs.Distinct.{none_left, none_right, at_among}
use Rattle.lt_resolve.proofs.Pairs.{along_length, all_right, all_left}
use Rattle.lt_resolve.proofs.Edges.{edges_append, sites_within}
use Rattle.lt_resolve.proofs.Rights.{all_of_first, fit, few_functions, few_inputs, few_outputs, few_sizes, no_other, right_tree}
use Rattle.lt_resolve.proofs.Programs.{function_names, variables_differ, uses_right, length_numbers}

-- ---- no function calls itself

module _ (vars funcs : List Name) (i : ℕ) where
  abbrev from_here : ℕ → ℕ × ℕ
  from_here h = (i, h)

  both : (xs ys : List Site) (a b : List ℕ) → edges xs ≡ map from_here a → edges ys ≡ map from_here b → edges (xs ++ ys) ≡ map from_here (a ++ b)
  both xs ys a b h k = edges_append xs ys ∙ (λ j. h j ++ k j) ∙ sym (map-append from_here a b)

  mutual
    edges_named : (a : Tm) (e : Expression) → IsNamed vars funcs a e → edges (sites_in funcs i a) ≡ map from_here (called e)
    edges_named (Lit v) (literal w) h = refl
    edges_named (Var x) (variable y) h = refl
    edges_named (Unary o a) (unary p e) h = edges_named a e h.1
    edges_named (Binary o a b) (binary p d e) h = both (sites_in funcs i a) (sites_in funcs i b) (called d) (called e) (edges_named a d h.1) (edges_named b e h.2)
    edges_named (Choice c a b) (choose f d e) h = both (sites_in funcs i c) (sites_in funcs i a ++ sites_in funcs i b) (called f) (called d ++ called e) (edges_named c f h.0) (both (sites_in funcs i a) (sites_in funcs i b) (called d) (called e) (edges_named a d h.1) (edges_named b e h.2))
    edges_named (Sampled a c t) (sampled e y u) h = edges_named a e h.0
    edges_named (Merged c a b) (merged y d e) h = both (sites_in funcs i a) (sites_in funcs i b) (called d) (called e) (edges_named a d h.1) (edges_named b e h.2)
    edges_named (Delayed v a) (delayed w e) h = edges_named a e h.1
    edges_named (Followed a b) (follow d e) h = both (sites_in funcs i a) (sites_in funcs i b) (called d) (called e) (edges_named a d h.0) (edges_named b e h.1)
    edges_named (Arrow a b) (arrow d e) h = both (sites_in funcs i a) (sites_in funcs i b) (called d) (called e) (edges_named a d h.0) (edges_named b e h.1)
    edges_named (Call f args) (call g es) h = ap (λ o. edge i o ++ edges (argument_sites funcs i args)) h.0 ∙ ap (λ l. (i, g) ∷ l) (edges_args args es h.1)
    edges_named (Call f args) (imported o d e) h = ap (λ o. edge i o ++ edges (argument_sites funcs i args)) h.0 ∙ edges_args args (argument d (argument e no_arguments)) h.2 ∙ ap (λ l. map from_here (called d ++ l)) (append-nil (called e))
    edges_named _ _ h = absurd h

    edges_args : (args : Tms) (es : Arguments) → AreNamed vars funcs args es → edges (argument_sites funcs i args) ≡ map from_here (arguments_called es)
    edges_args Nil no_arguments h = refl
    edges_args (Cons a args) (argument e es) h = both (sites_in funcs i a) (argument_sites funcs i args) (called e) (arguments_called es) (edges_named a e h.0) (edges_args args es h.1)
    edges_args _ _ h = absurd h

  edges_equations : (qs : List (Name × Tm)) (es : List (ℕ × Expression)) → Along (IsNamedEquation vars funcs) qs es → edges (equation_sites funcs i qs) ≡ map from_here (equations_called es)
  edges_equations [] [] h = refl
  edges_equations [] (e ∷ es) h = absurd h
  edges_equations (q ∷ qs) [] h = absurd h
  edges_equations (q ∷ qs) (e ∷ es) h = both (sites_in funcs i q.1) (equation_sites funcs i qs) (called e.1) (equations_called es) (edges_named q.1 e.1 h.0.1) (edges_equations qs es h.1)

contains_here : (i h : ℕ) (xs : List ℕ) → has h xs ≡ true → Contains {X = ℕ × ℕ} (map (λ k. (i, k)) xs) (i, h)
contains_here i h [] e = absurd (cc)
contains_here i h (x ∷ xs) e = go (contains_here i h xs) (nat_eq h x) refl e
  where
    go : (has h xs ≡ true → Contains {X = ℕ × ℕ} (map (λ k. (i, k)) xs) (i, h)) → (b : Bool) → nat_eq h x ≡ b → (b || has h xs) ≡ true → Contains {X = ℕ × ℕ} (map (λ k. (i, k)) (x ∷ xs)) (i, h)
    go ih true k e = subst (λ z. Contains {X = ℕ × ℕ} (map (λ k. (i, k)) (x ∷ xs)) (i, z)) (sym (eqb-true h x k)) (Contains-append_left ((i, x) ∷ []) (map (λ k. (i, k)) xs) (i, x) (Contains-push [] (i, x)))
    go ih false k e = Contains-append_right ((i, x) ∷ []) (map (λ k. (i, k)) xs) (i, h) (ih e)

joined_from : (funcs : List Name) (t : List NodeText) (fs : List Function) → Along (IsFunction funcs) t fs → (i g h k : ℕ) → k ≡ i + g → has h (function_called (function_of fs g)) ≡ true → Contains (edges (sites_from funcs i t)) (k, h)
joined_from funcs [] [] a i g h k e c = absurd (cc)
joined_from funcs [] (f ∷ fs) a i g h k e c = absurd a
joined_from funcs (n ∷ t) [] a i g h k e c = absurd a
joined_from funcs (n ∷ t) (f ∷ fs) a i zero h k e c =
    let same : k ≡ i = omega (arith, e) in
    subst (λ l. Contains l (k, h)) (sym (edges_append (equation_sites funcs i n.eqs) (sites_from funcs (i + 1) t)))
    (Contains-append_left (edges (equation_sites funcs i n.eqs)) (edges (sites_from funcs (i + 1) t)) (k, h)
    (subst (λ l. Contains l (k, h)) (sym (edges_equations (variables n) funcs i n.eqs f.eqs a.0.eqs)) (subst (λ z. Contains {X = ℕ × ℕ} (map (λ j. (i, j)) (equations_called f.eqs)) (z, h)) (sym same) (contains_here i h (equations_called f.eqs) c))))
joined_from funcs (n ∷ t) (f ∷ fs) a i (suc g) h k e c =
    subst (λ l. Contains l (k, h)) (sym (edges_append (equation_sites funcs i n.eqs) (sites_from funcs (i + 1) t)))
    (Contains-append_right (edges (equation_sites funcs i n.eqs)) (edges (sites_from funcs (i + 1) t)) (k, h) (joined_from funcs t fs a.1 (i + 1) g h k (omega (arith, e)) c))

module _ (R Q : ℕ → ℕ → Type 0) (f : (x y : ℕ) → R x y → Q x y) where
  walks_map : (zs : List ℕ) (x y : ℕ) → Walks R x zs y → Walks Q x zs y
  walks_map [] x y w = f x y w
  walks_map (z ∷ zs) x y w = (f x z w.0, walks_map zs z y w.1)

  no_walk : NoClosedWalk Q → NoClosedWalk R
  no_walk n [] w = n [] w
  no_walk n (x ∷ xs) w = n (x ∷ xs) (walks_map xs x x w)

-- ---- names of functions

in_place : (f : ℕ → NodeText → Option Name) (i : ℕ) (t : List NodeText) → first_in f i t ≡ None → (j k : ℕ) → k ≡ i + j → (d : NodeText) → j < length t → f k (get_or t j d) ≡ None
in_place f i [] h j k e d l = absurd (omega arith)
in_place f i (n ∷ t) h zero k e d l = let same : k ≡ i = omega (arith, e) in subst (λ m. f m n ≡ None) (sym same) (nothing (f i n) (none_left (option_map (λ x. (i, x)) (f i n)) (first_in f (i + 1) t) h))
  where
    nothing : (o : Option Name) → option_map {U = ℕ × Name} (λ x. (i, x)) o ≡ None → o ≡ None
    nothing None k = refl
    nothing (Some x) k = absurd (cc)
in_place f i (n ∷ t) h (suc j) k e d l = in_place f (i + 1) t (none_right (option_map (λ x. (i, x)) (f i n)) (first_in f (i + 1) t) h) j k (omega (arith, e)) d (omega arith)

module _ (t : List NodeText) (twice : first_in (twice_in (functions t)) 0 t ≡ None) where
  earlier : (i j : ℕ) → i < j → j < length (functions t) → get_or (functions t) i [] ≡ get_or (functions t) j [] → ⊥
  earlier i j l m e = go t refl
    where
      many : length (functions t) ≡ length t
      many = length-map t (λ (n : NodeText). n.name)

      go : (u : List NodeText) → u ≡ t → ⊥
      go [] s = let none : length t ≡ 0 = ap length (sym s) in absurd (omega (arith, many, none, m))
      go (d ∷ u) s =
          let in_t : j < length t = omega (arith, many, m) in
          let none = in_place (twice_in (functions t)) 0 t twice j j (omega arith) d in_t in
          let name : get_or (functions t) j [] ≡ (get_or t j d).name = get_or-map (λ (n : NodeText). n.name) t j d [] in_t in
          let out = none_left (if_among (take j (functions t)) (get_or t j d).name) (repeated_name [] (variables (get_or t j d))) none in
          let front : get_or (take j (functions t)) i [] ≡ (get_or t j d).name = get_or-take j (functions t) i [] l ∙ e ∙ name in
          let short : i < length (take j (functions t)) = rw length-take (omega (arith, l, m)) in
          let there : among (take j (functions t)) (get_or t j d).name ≡ true = subst (λ z. among (take j (functions t)) z ≡ true) front (at_among (take j (functions t)) i short) in
          contra (among (take j (functions t)) (get_or t j d).name) (get_or t j d).name there out
        where
          contra : (b : Bool) (x : Name) → b ≡ true → ◌≡◌ {A = Option Name} (if b then Some x else None) None → ⊥
          contra true x k h = absurd (cc)
          contra false x k h = absurd (cc)

  functions_differ : NamesDiffer (functions t)
  functions_differ i j l m e = go (ltb i j) refl (ltb j i) refl
    where
      go : (a : Bool) → ltb i j ≡ a → (b : Bool) → ltb j i ≡ b → i ≡ j
      go true p b q = absurd (earlier i j (ltb-true i j p) m e)
      go false p true q = absurd (earlier j i (ltb-true j i q) l (sym e))
      go false p false q = omega (arith, ltb-false i j p, ltb-false j i q)

-- ---- sizes

module _ (vars funcs : List Name) where
  abbrev weightless : ℕ → ℕ
  weightless g = 0

  mutual
    delays_named : (a : Tm) (e : Expression) → IsNamed vars funcs a e → cost 1 weightless e ≡ term_delays a
    delays_named (Lit v) (literal w) h = refl
    delays_named (Var x) (variable y) h = refl
    delays_named (Unary o a) (unary p e) h = delays_named a e h.1
    delays_named (Binary o a b) (binary p d e) h = λ i. delays_named a d h.1 i + delays_named b e h.2 i
    delays_named (Choice c a b) (choose f d e) h = λ i. delays_named c f h.0 i + delays_named a d h.1 i + delays_named b e h.2 i
    delays_named (Sampled a c t) (sampled e y u) h = delays_named a e h.0
    delays_named (Merged c a b) (merged y d e) h = λ i. delays_named a d h.1 i + delays_named b e h.2 i
    delays_named (Delayed v a) (delayed w e) h = λ i. 1 + delays_named a e h.1 i
    delays_named (Followed a b) (follow d e) h = λ i. 2 + delays_named a d h.0 i + delays_named b e h.1 i
    delays_named (Arrow a b) (arrow d e) h = λ i. 1 + delays_named a d h.0 i + delays_named b e h.1 i
    delays_named (Call f args) (call g es) h = let k = delays_args args es h.1 in omega (arith, k)
    delays_named (Call f args) (imported o d e) h = let k = delays_args args (argument d (argument e no_arguments)) h.2 in omega (arith, k)
    delays_named _ _ h = absurd h

    delays_args : (args : Tms) (es : Arguments) → AreNamed vars funcs args es → arguments_cost 1 weightless es ≡ argument_delays args
    delays_args Nil no_arguments h = refl
    delays_args (Cons a args) (argument e es) h = λ i. delays_named a e h.0 i + delays_args args es h.1 i
    delays_args _ _ h = absurd h

  delays_equations : (qs : List (Name × Tm)) (es : List (ℕ × Expression)) → Along (IsNamedEquation vars funcs) qs es → sum_by (λ e. cost 1 (λ _. 0) e.1) es ≡ sum_by (λ q. term_delays q.1) qs
  delays_equations [] [] h = refl
  delays_equations [] (e ∷ es) h = absurd h
  delays_equations (q ∷ qs) [] h = absurd h
  delays_equations (q ∷ qs) (e ∷ es) h =
      sum_by-cons (λ (e : ℕ × Expression). cost 1 (λ _. 0) e.1) e es
      ∙ (λ i. delays_named q.1 e.1 h.0.1 i + delays_equations qs es h.1 i)
      ∙ sym (sum_by-cons (λ (q : Name × Tm). term_delays q.1) q qs)

is_small : (funcs : List Name) (n : NodeText) (f : Function) → IsFunction funcs n f → size n ≤ 4096 → length n.ins ≤ 64 → length n.outs ≤ 64 → IsSmallFunction f
is_small funcs n f h a b c = record {
  variables = (let ds = along_length (IsDeclared (variables n)) (declarations n) f.decls h.decls in let es = delays_equations (variables n) funcs n.eqs f.eqs h.eqs in omega (arith, ds, es, a));
  inputs = (let i = h.n_in in omega (arith, i, b));
  outputs = (let o : length f.outs ≡ length n.outs = ap length h.outs ∙ length_numbers (length n.ins) (length n.outs) in omega (arith, o, c));
}

all_small : (funcs : List Name) (t : List NodeText) (fs : List Function) → Along (IsFunction funcs) t fs → All (λ n. size n ≤ 4096) t → All (λ n. length n.ins ≤ 64) t → All (λ n. length n.outs ≤ 64) t → All IsSmallFunction fs
all_small funcs [] [] h a b c = All-nil IsSmallFunction
all_small funcs [] (f ∷ fs) h a b c = absurd h
all_small funcs (n ∷ t) [] h a b c = absurd h
all_small funcs (n ∷ t) (f ∷ fs) h a b c =
    All-cons IsSmallFunction f fs (is_small funcs n f h.0 (All-head (λ n. size n ≤ 4096) n t a) (All-head (λ n. length n.ins ≤ 64) n t b) (All-head (λ n. length n.outs ≤ 64) n t c))
    (all_small funcs t fs h.1 (All-tail (λ n. size n ≤ 4096) n t a) (All-tail (λ n. length n.ins ≤ 64) n t b) (All-tail (λ n. length n.outs ≤ 64) n t c))

-- ---- callees are functions

callees_below : (n : ℕ) (ss : List Site) → AreWithin n (edges ss) → All (λ s. (g : ℕ) → s.callee ≡ Some g → g < n) ss
callees_below n [] h = All-nil (λ s. (g : ℕ) → s.callee ≡ Some g → g < n)
callees_below n (s ∷ ss) h =
    All-cons (λ s. (g : ℕ) → s.callee ≡ Some g → g < n) s ss
    (λ g e. (All-head (λ (e : ℕ × ℕ). (e.0 < n) × (e.1 < n)) (s.caller, g) [] (subst (λ o. AreWithin n (edge s.caller o)) e (all_left (λ (e : ℕ × ℕ). (e.0 < n) × (e.1 < n)) (edge s.caller s.callee) (edges ss) h))).1)
    (callees_below n ss (all_right (λ (e : ℕ × ℕ). (e.0 < n) × (e.1 < n)) (edge s.caller s.callee) (edges ss) h))

-- ---- the program

module _ (t : List NodeText) (p : WholeProgram) (spelled : IsSpelled t) (no : NoNameFault t) (named : Named t p) where
  one_output : All (λ s. nat_eq (answered t s.callee) 1 ≡ true) (sites t)
  one_output = all_of_first (λ s. unless (nat_eq (answered t s.callee) 1) s) (λ s. nat_eq (answered t s.callee) 1 ≡ true) (λ s h. go s (nat_eq (answered t s.callee) 1) h) (sites t) (sym (no kind.NotOneOutput))
    where
      go : (s : Site) (b : Bool) → unless b s ≡ None → b ≡ true
      go s true h = refl
      go s false h = absurd (cc)

  checked : NamedProgram p
  checked = record {
    functions = subst NamesDiffer (sym (function_names (functions t) t p.funcs named.funcs)) (functions_differ t (sym (no kind.Twice)));
    variables = variables_differ (functions t) t p.funcs named.funcs (right_tree t spelled no).all;
    uses = uses_right t p.funcs named.funcs (fit t spelled (no_other t no)) one_output (callees_below (length t) (sites t) (sites_within t));
    not_recursive = no_walk (CallsFunction p.funcs) (Joined (edges (sites t))) (λ g h c. joined_from (functions t) t p.funcs named.funcs 0 g h g (omega arith) c) (no kind.Recursive);
  }

  pub is_resolved : IsResolved t p
  is_resolved = record {
    faultless = no;
    named = named;
    checked = checked;
    functions = (let same = along_length (IsFunction (functions t)) t p.funcs named.funcs in omega (arith, same, few_functions t spelled (no_other t no)));
    small = all_small (functions t) t p.funcs named.funcs (few_sizes t spelled (no_other t no)) (few_inputs t spelled (no_other t no)) (few_outputs t spelled (no_other t no));
  }
