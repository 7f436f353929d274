-- A tree without a fault is right.
use Rattle.std.proofs.Common.{◌≡◌, ℕ, ◌+◌, ◌≤◌, Bool, true, false, ◌||◌, List, [], ◌∷◌, ◌++◌, length, take, map, Option, None, Some, is_some, codes, refl, sym, ap, ◌∙◌, arith, eqb-true, ltb-false}
use Rattle.std.specs.Prelude.{nat_eq, nat_lt, if◌then◌else◌}
use Rattle.std.specs.List.{All}
use Rattle.std.specs.Option.{option_or, option_map}
use Rattle.std.proofs.lemmas.List.Elements.{All-nil, All-cons, All-head, All-tail, All-append, All-same}
use Rattle.lt_base.specs.declared.operators.Imp.{Imp}
use Rattle.lt_base.specs.declared.value.Ty.{Ty}
use Rattle.lt_syntax.specs.declared.tree.NodeText.{NodeText}
use Rattle.lt_syntax.specs.Tree.{Tm, Lit, Var, Unary, Binary, Choice, Sampled, Merged, Delayed, Followed, Arrow, Call, Tms, Nil, Cons}
use Rattle.lt_syntax.specs.Program.{Group, Node, IsPlain, IsNode, Each, decls, declared, node_tree, IsSpelled}
use Rattle.lt_resolve.specs.declared.fault.NameKind.TheVariants as kind
use Rattle.lt_resolve.specs.Names.{Name, number_of_name, among, if_missing, if_among, repeated_name, first_some}
use Rattle.lt_resolve.specs.Scopes.{declarations, variables, functions}
use Rattle.lt_resolve.specs.Named.{operator_of, main}
use Rattle.lt_resolve.specs.Uses.{Site, term_count, unknown, unknown_argument, if_uncallable, sites_in, argument_sites, equation_sites, sites_from}
use Rattle.lt_resolve.specs.Known.{HasNumber, IsCallable, IsKnown, AreKnown}
use Rattle.lt_resolve.specs.Right.{ClockKnown, NodeIsRight, IsRightTree}
use Rattle.lt_resolve.specs.Faults.{first_in, twice_in, unknown_clock, unknown_declared, unknown_equation, unknown_in, no_equation_in, two_equations_in, input_equation_in, sites, wanted, unless, above, size, functions_limit, NoOtherFault, NoNameFault}
use Rattle.lt_resolve.proofs.Numbers.{has_number}
use Rattle.lt_resolve.proofs.Distinct.{none_left, none_right}
use Rattle.lt_resolve.proofs.Pairs.{all_left, all_right}

-- ---- what is found nowhere holds nowhere

map_none : {A B : Type 0} (f : A → B) (o : Option A) → option_map f o ≡ None → o ≡ None
map_none f None h = refl
map_none f (Some x) h = absurd (cc)

pub all_of_first : {A B : Type 0} (f : A → Option B) (P : A → Type 0) → ((x : A) → f x ≡ None → P x) → (xs : List A) → first_some f xs ≡ None → All P xs
all_of_first f P g [] h = All-nil P
all_of_first f P g (x ∷ xs) h = All-cons P x xs (g x (none_left (f x) (first_some f xs) h)) (all_of_first f P g xs (none_right (f x) (first_some f xs) h))

pub all_of_functions : (f : ℕ → NodeText → Option Name) (P : NodeText → Type 0) → ((i : ℕ) (n : NodeText) → f i n ≡ None → P n) → (i : ℕ) (t : List NodeText) → first_in f i t ≡ None → All P t
all_of_functions f P g i [] h = All-nil P
all_of_functions f P g i (n ∷ t) h =
    All-cons P n t (g i n (map_none (λ x. (i, x)) (f i n) (none_left (option_map (λ x. (i, x)) (f i n)) (first_in f (i + 1) t) h)))
    (all_of_functions f P g (i + 1) t (none_right (option_map (λ x. (i, x)) (f i n)) (first_in f (i + 1) t) h))

pub both_all : {A : Type 0} (P Q : A → Type 0) (xs : List A) → All P xs → All Q xs → All (λ x. P x × Q x) xs
both_all P Q xs a b = λ k d l. (a k d l, b k d l)

missing_none : (names : List Name) (x : Name) → if_missing names x ≡ None → HasNumber names x
missing_none names x h = has_number names x ∙ go (among names x) h
  where
    go : (b : Bool) → ◌≡◌ {A = Option Name} (if b then None else Some x) None → b ≡ true
    go true k = refl
    go false k = absurd (cc)

above_none : (limit n : ℕ) (word : Name) → above limit n word ≡ None → n ≤ limit
above_none limit n word h = go (nat_lt limit n) refl h
  where
    go : (b : Bool) → nat_lt limit n ≡ b → ◌≡◌ {A = Option Name} (if b then Some word else None) None → n ≤ limit
    go true e k = absurd (cc)
    go false e k = ltb-false limit n e

-- ---- terms

-- the call has as many arguments as is wanted
abbrev pub Fits : List NodeText → Site → Type 0
Fits t s = nat_eq s.arguments (wanted t s.callee) ≡ true

module _ (t : List NodeText) (vars funcs : List Name) (i : ℕ) where
  callable : (f : Name) (n : ℕ) → if_uncallable funcs f ≡ None → nat_eq n (wanted t (number_of_name funcs f)) ≡ true → IsCallable (number_of_name funcs f) (operator_of f) n
  callable f n h k = go (number_of_name funcs f) (operator_of f) (has_number funcs f) (go2 (among funcs f || is_some (operator_of f)) h) k
    where
      go2 : (b : Bool) → ◌≡◌ {A = Option Name} (if b then None else Some f) None → b ≡ true
      go2 true k = refl
      go2 false k = absurd (cc)

      go : (o : Option ℕ) (p : Option Imp) → is_some o ≡ among funcs f → (among funcs f || is_some p) ≡ true → nat_eq n (wanted t o) ≡ true → IsCallable o p n
      go (Some g) p s h k = tt
      go None (Some o) s h k = eqb-true n 2 k
      go None None s h k = let no : (among funcs f || false) ≡ false = ap (λ b. b || false) (sym s) in absurd (cc)

  mutual
    known_term : (a : Tm) → unknown vars funcs a ≡ None → All (Fits t) (sites_in funcs i a) → IsKnown vars funcs a
    known_term (Lit v) h s = tt
    known_term (Var x) h s = missing_none vars x h
    known_term (Unary o a) h s = known_term a h s
    known_term (Binary o a b) h s = (known_term a (none_left (unknown vars funcs a) (unknown vars funcs b) h) (all_left (Fits t) (sites_in funcs i a) (sites_in funcs i b) s), known_term b (none_right (unknown vars funcs a) (unknown vars funcs b) h) (all_right (Fits t) (sites_in funcs i a) (sites_in funcs i b) s))
    known_term (Choice c a b) h s =
        let h1 = none_right (unknown vars funcs c) (option_or (unknown vars funcs a) (unknown vars funcs b)) h in
        let s1 = all_right (Fits t) (sites_in funcs i c) (sites_in funcs i a ++ sites_in funcs i b) s in (
          known_term c (none_left (unknown vars funcs c) (option_or (unknown vars funcs a) (unknown vars funcs b)) h) (all_left (Fits t) (sites_in funcs i c) (sites_in funcs i a ++ sites_in funcs i b) s),
          known_term a (none_left (unknown vars funcs a) (unknown vars funcs b) h1) (all_left (Fits t) (sites_in funcs i a) (sites_in funcs i b) s1),
          known_term b (none_right (unknown vars funcs a) (unknown vars funcs b) h1) (all_right (Fits t) (sites_in funcs i a) (sites_in funcs i b) s1),
        )
    known_term (Sampled a c p) h s = (known_term a (none_left (unknown vars funcs a) (if_missing vars c) h) s, missing_none vars c (none_right (unknown vars funcs a) (if_missing vars c) h))
    known_term (Merged c a b) h s =
        let h1 = none_right (if_missing vars c) (option_or (unknown vars funcs a) (unknown vars funcs b)) h in (
          missing_none vars c (none_left (if_missing vars c) (option_or (unknown vars funcs a) (unknown vars funcs b)) h),
          known_term a (none_left (unknown vars funcs a) (unknown vars funcs b) h1) (all_left (Fits t) (sites_in funcs i a) (sites_in funcs i b) s),
          known_term b (none_right (unknown vars funcs a) (unknown vars funcs b) h1) (all_right (Fits t) (sites_in funcs i a) (sites_in funcs i b) s),
        )
    known_term (Delayed v a) h s = known_term a h s
    known_term (Followed a b) h s = (known_term a (none_left (unknown vars funcs a) (unknown vars funcs b) h) (all_left (Fits t) (sites_in funcs i a) (sites_in funcs i b) s), known_term b (none_right (unknown vars funcs a) (unknown vars funcs b) h) (all_right (Fits t) (sites_in funcs i a) (sites_in funcs i b) s))
    known_term (Arrow a b) h s = (known_term a (none_left (unknown vars funcs a) (unknown vars funcs b) h) (all_left (Fits t) (sites_in funcs i a) (sites_in funcs i b) s), known_term b (none_right (unknown vars funcs a) (unknown vars funcs b) h) (all_right (Fits t) (sites_in funcs i a) (sites_in funcs i b) s))
    known_term (Call f args) h s = (
      callable f (term_count args) (none_left (if_uncallable funcs f) (unknown_argument vars funcs args) h) (All-head (Fits t) (record { caller = i; name = f; callee = number_of_name funcs f; arguments = term_count args }) (argument_sites funcs i args) s),
      known_args args (none_right (if_uncallable funcs f) (unknown_argument vars funcs args) h) (All-tail (Fits t) (record { caller = i; name = f; callee = number_of_name funcs f; arguments = term_count args }) (argument_sites funcs i args) s),
    )

    known_args : (args : Tms) → unknown_argument vars funcs args ≡ None → All (Fits t) (argument_sites funcs i args) → AreKnown vars funcs args
    known_args Nil h s = tt
    known_args (Cons a args) h s = (known_term a (none_left (unknown vars funcs a) (unknown_argument vars funcs args) h) (all_left (Fits t) (sites_in funcs i a) (argument_sites funcs i args) s), known_args args (none_right (unknown vars funcs a) (unknown_argument vars funcs args) h) (all_right (Fits t) (sites_in funcs i a) (argument_sites funcs i args) s))

  known_equations : (eqs : List (Name × Tm)) → All (λ q. unknown vars funcs q.1 ≡ None) eqs → All (Fits t) (equation_sites funcs i eqs) → All (λ q. IsKnown vars funcs q.1) eqs
  known_equations [] h s = All-nil (λ q. IsKnown vars funcs q.1)
  known_equations (q ∷ eqs) h s =
      All-cons (λ q. IsKnown vars funcs q.1) q eqs
      (known_term q.1 (All-head (λ q. unknown vars funcs q.1 ≡ None) q eqs h) (all_left (Fits t) (sites_in funcs i q.1) (equation_sites funcs i eqs) s))
      (known_equations eqs (All-tail (λ q. unknown vars funcs q.1 ≡ None) q eqs h) (all_right (Fits t) (sites_in funcs i q.1) (equation_sites funcs i eqs) s))

-- ---- functions

-- what the kinds of single functions leave of a function
pub record Clean (funcs : List Name) (n : NodeText) : Type 0 where
  pub apart : repeated_name [] (variables n) ≡ None
  pub known : unknown_in funcs n ≡ None
  pub each : no_equation_in n ≡ None
  pub once : two_equations_in n ≡ None
  pub inputs : input_equation_in n ≡ None
  pub few : size n ≤ 4096
  pub base : All (λ d. d.clock ≡ []) n.ins

clean_right : (t : List NodeText) (funcs : List Name) (i : ℕ) (n : NodeText) → Clean funcs n → All (Fits t) (equation_sites funcs i n.eqs) → NodeIsRight funcs n
clean_right t funcs i n c s = record {
  apart = c.apart;
  clocks = all_of_first (λ d. unknown_clock vars d.clock) (ClockKnown vars) (λ d h. all_of_first (λ p. if_missing vars p.0) (λ p. HasNumber vars p.0) (λ p k. missing_none vars p.0 k) d.clock h) (declarations n) (none_left (unknown_declared vars (declarations n)) eqs c.known);
  lefts = all_of_first (unknown_equation vars funcs) (λ q. HasNumber vars q.0) (λ q h. missing_none vars q.0 (none_left (if_missing vars q.0) (unknown vars funcs q.1) h)) n.eqs later;
  known = known_equations t vars funcs i n.eqs (all_of_first (unknown_equation vars funcs) (λ q. unknown vars funcs q.1 ≡ None) (λ q h. none_right (if_missing vars q.0) (unknown vars funcs q.1) h) n.eqs later) s;
  each = c.each;
  once = c.once;
  inputs = c.inputs;
  base = c.base;
  few = (let few = c.few in omega arith);
}
  where
    vars : List Name
    vars = variables n

    eqs : Option Name
    eqs = first_some (unknown_equation (variables n) funcs) n.eqs

    later : first_some (unknown_equation (variables n) funcs) n.eqs ≡ None
    later = none_right (unknown_declared (variables n) (declarations n)) (first_some (unknown_equation (variables n) funcs) n.eqs) c.known

-- where its names are declared
abbrev IfKnown : List Name → (NodeText → Type 0) → NodeText → Type 0
IfKnown funcs P n = unknown_in funcs n ≡ None → P n

right_from : (whole : List NodeText) (funcs : List Name) (i : ℕ) (t : List NodeText) → All (IfKnown funcs (Clean funcs)) t → All (Fits whole) (sites_from funcs i t) → All (IfKnown funcs (NodeIsRight funcs)) t
right_from whole funcs i [] c s = All-nil (IfKnown funcs (NodeIsRight funcs))
right_from whole funcs i (n ∷ t) c s =
    All-cons (IfKnown funcs (NodeIsRight funcs)) n t
    (λ k. clean_right whole funcs i n (All-head (IfKnown funcs (Clean funcs)) n t c k) (all_left (Fits whole) (equation_sites funcs i n.eqs) (sites_from funcs (i + 1) t) s))
    (right_from whole funcs (i + 1) t (All-tail (IfKnown funcs (Clean funcs)) n t c) (all_right (Fits whole) (equation_sites funcs i n.eqs) (sites_from funcs (i + 1) t) s))

-- ---- inputs have no clocks

declared_base : (names : List Name) (ty : Ty) (clock : List (Name × Bool)) → clock ≡ [] → All (λ d. d.clock ≡ []) (declared names ty clock)
declared_base [] ty clock h = All-nil (λ d. d.clock ≡ [])
declared_base (x ∷ names) ty clock h = All-cons (λ d. d.clock ≡ []) (record { name = x; ty = ty; clock = clock }) (declared names ty clock) h (declared_base names ty clock h)

plain_base : (gs : List Group) → Each IsPlain gs → All (λ d. d.clock ≡ []) (decls gs)
plain_base [] h = All-nil (λ d. d.clock ≡ [])
plain_base (g ∷ gs) h = All-append (λ d. d.clock ≡ []) (declared g.names g.ty g.clock) (decls gs) (declared_base g.names g.ty g.clock h.0.1) (plain_base gs h.1)

nodes_base : (limit : ℕ) (nodes : List Node) → Each (IsNode limit) nodes → All (λ n. All (λ d. d.clock ≡ []) n.ins) (map node_tree nodes)
nodes_base limit [] h = All-nil (λ n. All (λ d. d.clock ≡ []) n.ins)
nodes_base limit (n ∷ nodes) h = All-cons (λ n. All (λ d. d.clock ≡ []) n.ins) (node_tree n) (map node_tree nodes) (plain_base n.ins h.0.0) (nodes_base limit nodes h.1)

pub inputs_on_base : (t : List NodeText) → IsSpelled t → All (λ n. All (λ d. d.clock ≡ []) n.ins) t
inputs_on_base t s = All-same (λ n. All (λ d. d.clock ≡ []) n.ins) t (map node_tree s.1.program.nodes) (sym s.1.program.meant) (nodes_base 200 s.1.program.nodes s.1.program.good)

-- ---- trees

module _ (t : List NodeText) (spelled : IsSpelled t) (no : NoOtherFault t) where
  limits : (functions_limit t ≡ None) × (first_in (λ _ n. above 4096 (size n) (codes "variables")) 0 t ≡ None) × (first_in (λ _ n. above 64 (length n.ins) (codes "inputs")) 0 t ≡ None) × (first_in (λ _ n. above 64 (length n.outs) (codes "outputs")) 0 t ≡ None)
  limits =
      let a = functions_limit t in
      let b = first_in (λ _ n. above 4096 (size n) (codes "variables")) 0 t in
      let c = first_in (λ _ n. above 64 (length n.ins) (codes "inputs")) 0 t in
      let d = first_in (λ _ n. above 64 (length n.outs) (codes "outputs")) 0 t in
      let all : option_or a (option_or b (option_or c d)) ≡ None = sym (no kind.Limit tt) in
      let r1 = none_right a (option_or b (option_or c d)) all in
      let r2 = none_right b (option_or c d) r1 in
      (none_left a (option_or b (option_or c d)) all, none_left b (option_or c d) r1, none_left c d r2, none_right c d r2)

  pub few_functions : length t ≤ 64
  few_functions = above_none 64 (length t) (codes "functions") (map_none (λ w. (0, w)) (above 64 (length t) (codes "functions")) limits.0)

  pub few_sizes : All (λ n. size n ≤ 4096) t
  few_sizes = all_of_functions (λ _ n. above 4096 (size n) (codes "variables")) (λ n. size n ≤ 4096) (λ i n h. above_none 4096 (size n) (codes "variables") h) 0 t limits.1

  pub few_inputs : All (λ n. length n.ins ≤ 64) t
  few_inputs = all_of_functions (λ _ n. above 64 (length n.ins) (codes "inputs")) (λ n. length n.ins ≤ 64) (λ i n h. above_none 64 (length n.ins) (codes "inputs") h) 0 t limits.2

  pub few_outputs : All (λ n. length n.outs ≤ 64) t
  few_outputs = all_of_functions (λ _ n. above 64 (length n.outs) (codes "outputs")) (λ n. length n.outs ≤ 64) (λ i n h. above_none 64 (length n.outs) (codes "outputs") h) 0 t limits.3

  pub fit : All (Fits t) (sites t)
  fit = all_of_first (λ s. unless (nat_eq s.arguments (wanted t s.callee)) s) (Fits t) (λ s h. go s (nat_eq s.arguments (wanted t s.callee)) h) (sites t) (sym (no kind.WrongCount tt))
    where
      go : (s : Site) (b : Bool) → unless b s ≡ None → b ≡ true
      go s true h = refl
      go s false h = absurd (cc)

  -- no variable of a function is declared twice
  pub all_apart : All (λ n. repeated_name [] (variables n) ≡ None) t
  all_apart = all_of_functions (twice_in (functions t)) (λ n. repeated_name [] (variables n) ≡ None) (λ i n h. none_right (if_among (take i (functions t)) n.name) (repeated_name [] (variables n)) h) 0 t (sym (no kind.Twice tt))

  clean : All (IfKnown (functions t) (Clean (functions t))) t
  clean =
      let each : All (λ n. no_equation_in n ≡ None) t = all_of_functions (λ _. no_equation_in) (λ n. no_equation_in n ≡ None) (λ i n h. h) 0 t (sym (no kind.NoEquation tt)) in
      let once : All (λ n. two_equations_in n ≡ None) t = all_of_functions (λ _. two_equations_in) (λ n. two_equations_in n ≡ None) (λ i n h. h) 0 t (sym (no kind.TwoEquations tt)) in
      let inputs : All (λ n. input_equation_in n ≡ None) t = all_of_functions (λ _. input_equation_in) (λ n. input_equation_in n ≡ None) (λ i n h. h) 0 t (sym (no kind.EquationForInput tt)) in
      let few = few_sizes in
      let base = inputs_on_base t spelled in
      λ k d l known. record { apart = all_apart k d l; known = known; each = each k d l; once = once k d l; inputs = inputs k d l; few = few k d l; base = base k d l }

  -- each function is right where its names are declared
  pub right_if_known : All (λ n. unknown_in (functions t) n ≡ None → NodeIsRight (functions t) n) t
  right_if_known = right_from t (functions t) 0 t clean fit

  pub has_main : HasNumber (functions t) main
  has_main = missing_none (functions t) main (map_none (λ x. (0, x)) (if_missing (functions t) main) (sym (no kind.NoMain tt)))

-- no kind occurs, where unknown names do not
pub no_fault : (t : List NodeText) → NoOtherFault t → first_in (λ _. unknown_in (functions t)) 0 t ≡ None → NoNameFault t
no_fault t free known kind.Twice = free kind.Twice tt
no_fault t free known kind.Unknown = sym known
no_fault t free known kind.NoEquation = free kind.NoEquation tt
no_fault t free known kind.TwoEquations = free kind.TwoEquations tt
no_fault t free known kind.EquationForInput = free kind.EquationForInput tt
no_fault t free known kind.NoMain = free kind.NoMain tt
no_fault t free known kind.WrongCount = free kind.WrongCount tt
no_fault t free known kind.NotOneOutput = free kind.NotOneOutput tt
no_fault t free known kind.Recursive = free kind.Recursive tt
no_fault t free known kind.Limit = free kind.Limit tt

pub no_other : (t : List NodeText) → NoNameFault t → NoOtherFault t
no_other t free k other = free k

pub right_tree : (t : List NodeText) → IsSpelled t → NoNameFault t → IsRightTree t
right_tree t spelled free =
    let other = no_other t free in
    let known : All (λ n. unknown_in (functions t) n ≡ None) t = all_of_functions (λ _. unknown_in (functions t)) (λ n. unknown_in (functions t) n ≡ None) (λ i n h. h) 0 t (sym (free kind.Unknown)) in
    record {
      all = λ k d l. right_if_known t spelled other k d l (known k d l);
      main = has_main t spelled other;
      few = few_functions t spelled other;
    }
