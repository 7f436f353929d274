-- A tree that is taken apart.
use Rattle.std.proofs.Common.{◌≡◌, ℕ, ◌+◌, ◌<◌, Bool, true, false, List, [], ◌∷◌, ◌++◌, length, get_or, take, drop, Option, None, Some, Result, Ok, Err, refl, sym, ap, ◌∙◌, subst, arith, Bor}
use Rattle.std.specs.Prelude.{if◌then◌else◌, MatchResult}
use Rattle.std.specs.List.{All}
use Rattle.lt_base.specs.Or.{ForFault}
use Rattle.std.specs.Result.{IsErrAnd}
use Rattle.std.specs.Option.{option_or, option_map}
use Rattle.std.proofs.Math.Seq.{take-append_seam}
use Rattle.std.proofs.lemmas.List.{append_assoc, length-append, length-take}
use Rattle.lt_base.specs.declared.memory.Or.{Or}
use Rattle.lt_base.specs.declared.memory.Or.TheVariants.{Fault, Memory}
use Rattle.lt_base.specs.Expression.{Expression}
use Rattle.lt_base.specs.Program.{Function, WholeProgram, GoodProgram}
use Rattle.lt_syntax.specs.declared.tree.NodeText.{NodeText}
use Rattle.lt_syntax.specs.Tree.{Tm}
use Rattle.lt_syntax.specs.Program.{IsSpelled}
use Rattle.lt_resolve.specs.declared.fault.NameKind.{NameKind}
use Rattle.lt_resolve.specs.declared.fault.NameKind.TheVariants as kind
use Rattle.lt_resolve.specs.declared.fault.NameFault.{NameFault}
use Rattle.lt_resolve.specs.declared.function.Draft.{Draft}
use Rattle.lt_resolve.specs.Names.{Name, number_of_name, among, if_among, repeated_name, first_some}
use Rattle.lt_resolve.specs.Scopes.{declarations, variables, functions}
use Rattle.lt_resolve.specs.Named.{IsDeclared, IsFunction, Along, Named, numbers_from, main}
use Rattle.lt_resolve.specs.Known.{HasNumber}
use Rattle.lt_resolve.specs.Resolves.{IsResolved, Resolves}
use Rattle.lt_resolve.specs.Drafts.{IsDraft, IsDraftEquation, completed}
use Rattle.lt_resolve.specs.Right.{NodeIsRight}
use Rattle.lt_resolve.specs.Faults.{Occurrence, First, NoOtherFault, first_in, twice_in, unknown_declared, unknown_equation, unknown_in, IsFirstNameFault, NoNameFault}
use Rattle.lt_resolve.specs.Told.{RefusesName, BlamesName, ShowsFault, Cleared}
use Rattle.lt_resolve.specs.Checks.{Locates}
use Rattle.lt_resolve.proofs.Distinct.{none_left, none_right}
use Rattle.lt_resolve.proofs.Lists.{at_place, at_function}
use Rattle.lt_resolve.proofs.Order.{also, is_first, none_cleared, first_of_all}
use Rattle.lt_resolve.proofs.Pairs.{along_length}
use Rattle.lt_resolve.proofs.Good.{equations_named}
use Rattle.lt_resolve.proofs.Rights.{all_apart, right_if_known, has_main, no_fault, right_tree}
use Rattle.lt_resolve.proofs.Programs.{good_program}
use Rattle.lt_resolve.proofs.Resolved.{is_resolved}

-- ---- what is shown

-- the name stands in the function of this number
abbrev pub Standing : ℕ → Option Name → Option Occurrence → Type 0
Standing i found o = o ≡ option_map (λ x. (i, x)) found

pub blames_here : (k : NameKind) (i : ℕ) (found : Option Name) (e : Or (Bor Name)) (r : Or NameFault) → Locates k i e r → RefusesName found e → BlamesName k (Standing i found) r
blames_here k i found (Fault x) (Fault g) h s =
    let pair : ◌≡◌ {A = Option Occurrence} (Some (i, x.now)) (Some (g.func, g.name)) = λ j. Some (sym h.1 j, sym h.2 j) in
    (h.0, sym (ap (option_map (λ x. (i, x))) s ∙ pair))
blames_here k i found (Fault x) Memory h s = tt
blames_here k i found Memory (Fault g) h s = absurd h
blames_here k i found Memory Memory h s = tt

pub shows_here : {T : Type 0} (k : NameKind) (i : ℕ) (found : Option Name) (x : T) → found ≡ None → ShowsFault {T = T} k (Standing i found) (Ok x)
shows_here k i found x none = sym (ap (option_map (λ x. (i, x))) none)

-- an error that is handed on
pub shows_on : {T : Type 0} (k : NameKind) (P Q : Option Occurrence → Type 0) (e : Or NameFault) (r : Result T (Or NameFault)) → IsErrAnd r (λ f. f ≡ e) → ((p : Occurrence) → P (Some p) → Q (Some p)) → BlamesName k P e → ShowsFault k Q r
shows_on k P Q e (Ok x) h wider b = absurd h
shows_on k P Q e (Err f) h wider b = go f (subst (BlamesName k P) (sym h) b)
  where
    go : (f : Or NameFault) → BlamesName k P f → BlamesName k Q f
    go (Fault g) b = (b.0, wider (g.func, g.name) b.1)
    go Memory b = tt

-- nothing was found where none stands there
pub none_standing : (i : ℕ) (found : Option Name) → Standing i found None → found ≡ None
none_standing i None h = refl
none_standing i (Some x) h = absurd (cc)

found_first : (i : ℕ) (a b : Option Name) (p : Occurrence) → Standing i a (Some p) → Standing i (option_or a b) (Some p)
found_first i None b p h = absurd (cc)
found_first i (Some x) b p h = h

-- what is found at a place is found first
pub standing_at : {A : Type 0} (f : A → Option Name) (i : ℕ) (xs : List A) (k : ℕ) (x : A) → k < length xs → x ≡ get_or xs k x → first_some f (drop k xs) ≡ first_some f xs → (p : Occurrence) → Standing i (f x) (Some p) → Standing i (first_some f xs) (Some p)
standing_at f i xs k x l e rest p h = subst (λ o. Standing i o (Some p)) (sym (at_place f xs k x l e) ∙ rest) (found_first i (f x) (first_some f (drop (k + 1) xs)) p h)

found_or : (a b : Option Occurrence) (p : Occurrence) → Some p ≡ a → Some p ≡ option_or a b
found_or None b p h = absurd (cc)
found_or (Some x) b p h = h

-- and what is found in a function
pub in_function : (f : ℕ → NodeText → Option Name) (t : List NodeText) (i place : ℕ) (n : NodeText) → i < length t → n ≡ get_or t i n → place ≡ i → first_in f i (drop i t) ≡ first_in f 0 t → (p : Occurrence) → Standing place (f i n) (Some p) → Some p ≡ first_in f 0 t
in_function f t i place n l e same rest p h =
    found_or (option_map (λ x. (i, x)) (f i n)) (first_in f (i + 1) (drop (i + 1) t)) p (subst (λ k. Standing k (f i n) (Some p)) same h) ∙ sym (at_function f t i n l e) ∙ rest

-- ---- a function and its equations

module _ (funcs : List Name) (h : NodeText) (qs : List (Name × Tm)) where
  abbrev pub joined : NodeText
  joined = record h { eqs = qs }

  pub unknown_joined : h.eqs ≡ [] → unknown_in funcs joined ≡ option_or (unknown_in funcs h) (first_some (unknown_equation (variables h) funcs) qs)
  unknown_joined none =
      let declared = unknown_declared (variables h) (declarations h) in
      sym (ap (λ o. option_or o (first_some (unknown_equation (variables h) funcs) qs)) (ap (λ es. option_or declared (first_some (unknown_equation (variables h) funcs) es)) none ∙ go declared))
    where
      go : (o : Option Name) → option_or o None ≡ o
      go None = refl
      go (Some x) = refl

  pub standing_head : h.eqs ≡ [] → (i : ℕ) (p : Occurrence) → Standing i (unknown_in funcs h) (Some p) → Standing i (unknown_in funcs joined) (Some p)
  standing_head none i p k = subst (λ o. Standing i o (Some p)) (sym (unknown_joined none)) (found_first i (unknown_in funcs h) (first_some (unknown_equation (variables h) funcs) qs) p k)

  pub standing_equations : h.eqs ≡ [] → unknown_in funcs h ≡ None → (i : ℕ) (p : Occurrence) → Standing i (first_some (unknown_equation (variables h) funcs) qs) (Some p) → Standing i (unknown_in funcs joined) (Some p)
  standing_equations none known i p k = subst (λ o. Standing i o (Some p)) (sym (unknown_joined none ∙ ap (λ o. option_or o (first_some (unknown_equation (variables h) funcs) qs)) known)) k

  pub all_known : h.eqs ≡ [] → unknown_in funcs h ≡ None → first_some (unknown_equation (variables h) funcs) qs ≡ None → unknown_in funcs joined ≡ None
  all_known none known others = unknown_joined none ∙ ap (λ o. option_or o (first_some (unknown_equation (variables h) funcs) qs)) known ∙ others

  pub joined_function : (d : Draft) (es : List (ℕ × Expression)) → d.node.now ≡ h → IsDraft funcs d → Along (IsDraftEquation (variables h) funcs) qs es → NodeIsRight funcs joined → IsFunction funcs joined (completed (record d { eqs = es }))
  joined_function d es same draft along right = record {
    name = ap (λ (n : NodeText). n.name) same;
    decls = subst (λ n. Along (IsDeclared (variables n)) (declarations n) d.decls) same draft.decls;
    n_in = ap (λ (n : NodeText). length n.ins) same;
    outs = ap (λ (n : NodeText). numbers_from (length n.ins) (length n.outs)) same;
    eqs = equations_named (variables h) funcs qs es along right.known;
  }

  module _ (none : h.eqs ≡ []) (s : NodeText) (is : s ≡ h) (vs : List Name) (are : vs ≡ variables s) where
    pub right_joined : (place : ℕ) → Standing place (unknown_in funcs s) None → Standing place (first_some (unknown_equation vs funcs) qs) None → (unknown_in funcs joined ≡ None → NodeIsRight funcs joined) → NodeIsRight funcs joined
    right_joined place a b right =
        right (all_known none
        (subst (λ n. unknown_in funcs n ≡ None) is (none_standing place (unknown_in funcs s) a))
        (subst (λ v. first_some (unknown_equation v funcs) qs ≡ None) (are ∙ ap variables is) (none_standing place (first_some (unknown_equation vs funcs) qs) b)))

    pub function_joined : (d : Draft) (es : List (ℕ × Expression)) → d.node.now ≡ s → IsDraft funcs d → Along (IsDraftEquation vs funcs) qs es → NodeIsRight funcs joined → (w : Draft) → w ≡ record d { eqs = es } → IsFunction funcs joined (completed w)
    function_joined d es node draft along right w same =
        subst (λ w. IsFunction funcs joined (completed w)) (sym same)
        (joined_function d es (node ∙ is) draft (subst (λ v. Along (IsDraftEquation v funcs) qs es) (are ∙ ap variables is) along) right)

-- as many as were taken
pub taken_length : {A B : Type 0} (R : A → B → Type 0) (xs : List A) (k : ℕ) (ys : List B) → k < length xs → Along R (take k xs) ys → length ys ≡ k
taken_length R xs k ys l h = along_length R (take k xs) ys h ∙ rw length-take (omega (arith, l))

-- ---- the names of the functions

apart_from : (funcs before : List Name) (i : ℕ) (u : List NodeText) → funcs ≡ before ++ functions u → length before ≡ i → first_in (twice_in funcs) i u ≡ None → repeated_name before (functions u) ≡ None
apart_from funcs before i [] e k h = refl
apart_from funcs before i (n ∷ u) e k h =
    let here = nothing (none_left (option_map (λ x. (i, x)) (twice_in funcs i n)) (first_in (twice_in funcs) (i + 1) u) h) in
    let front : take i funcs ≡ before = (λ j. take (sym k j) (e j)) ∙ take-append_seam before (functions (n ∷ u)) in
    let new : if_among before n.name ≡ None = ap (λ l. if_among l n.name) (sym front) ∙ none_left (if_among (take i funcs) n.name) (repeated_name [] (variables n)) here in
    let long : length (before ++ n.name ∷ []) ≡ i + 1 = length-append before (n.name ∷ []) ∙ ap (λ m. m + 1) k in
    go (among before n.name) new (apart_from funcs (before ++ n.name ∷ []) (i + 1) u (e ∙ sym (append_assoc before (n.name ∷ []) (functions u))) long (none_right (option_map (λ x. (i, x)) (twice_in funcs i n)) (first_in (twice_in funcs) (i + 1) u) h))
  where
    nothing : option_map {U = Occurrence} (λ x. (i, x)) (twice_in funcs i n) ≡ None → twice_in funcs i n ≡ None
    nothing h = none_standing i (twice_in funcs i n) (sym h)

    go : (b : Bool) → ◌≡◌ {A = Option Name} (if b then Some n.name else None) None → repeated_name (before ++ n.name ∷ []) (functions u) ≡ None → ◌≡◌ {A = Option Name} (if b then Some n.name else repeated_name (before ++ n.name ∷ []) (functions u)) None
    go true p k = absurd (cc)
    go false p k = k

pub functions_apart : (t : List NodeText) → NoOtherFault t → repeated_name [] (functions t) ≡ None
functions_apart t free = apart_from (functions t) [] 0 t refl refl (sym (free kind.Twice tt))

-- ---- kinds

pub no_others : (t : List NodeText) → First t kind.Twice None → Cleared t 2 10 → NoOtherFault t
no_others t twice c kind.Twice o = twice
no_others t twice c kind.Unknown o = absurd o
no_others t twice c kind.NoEquation o = c kind.NoEquation (omega arith) (omega arith)
no_others t twice c kind.TwoEquations o = c kind.TwoEquations (omega arith) (omega arith)
no_others t twice c kind.EquationForInput o = c kind.EquationForInput (omega arith) (omega arith)
no_others t twice c kind.NoMain o = c kind.NoMain (omega arith) (omega arith)
no_others t twice c kind.WrongCount o = c kind.WrongCount (omega arith) (omega arith)
no_others t twice c kind.NotOneOutput o = c kind.NotOneOutput (omega arith) (omega arith)
no_others t twice c kind.Recursive o = c kind.Recursive (omega arith) (omega arith)
no_others t twice c kind.Limit o = c kind.Limit (omega arith) (omega arith)

-- an unknown name is the first fault
pub unknown_first : (t : List NodeText) → NoOtherFault t → (f : NameFault) → f.kind ≡ kind.Unknown → First t kind.Unknown (Some (f.func, f.name)) → IsFirstNameFault t f
unknown_first t free f e h =
    let twice : Cleared t 0 1 = also t 0 0 (omega arith) kind.Twice refl (none_cleared t 0) (free kind.Twice tt) in
    first_of_all t 0 f (none_cleared t 0) (is_first t 0 1 (omega arith) kind.Unknown refl twice f e h)

-- a place further
pub one_longer : {A : Type 0} (xs : List A) (x : A) → length (xs ++ x ∷ []) ≡ length xs + 1
one_longer xs x = length-append xs (x ∷ [])

-- and refuses the tree
pub unknown_refuses : (t : List NodeText) → NoOtherFault t → (e : Or NameFault) (r : Result WholeProgram (Or NameFault)) → IsErrAnd r (λ f. f ≡ e) → BlamesName kind.Unknown (First t kind.Unknown) e → MatchResult r (λ p. Resolves t (Ok p)) (λ e. ForFault e (λ f. Resolves t (Err f)))
unknown_refuses t free e (Ok p) h b = absurd h
unknown_refuses t free e (Err f) h b = go f (subst (BlamesName kind.Unknown (First t kind.Unknown)) (sym h) b)
  where
    go : (f : Or NameFault) → BlamesName kind.Unknown (First t kind.Unknown) f → ForFault f (λ f. Resolves t (Err f))
    go (Fault g) b = unknown_first t free g b.0 b.1
    go Memory b = tt

-- ---- the program

module _ (t : List NodeText) (spelled : IsSpelled t) (free : NoOtherFault t) (fs : List Name) (same : fs ≡ functions t) (ns : List NodeText) (are : ns ≡ t) where
  pub apart_all : All (λ n. repeated_name [] (variables n) ≡ None) ns
  apart_all = subst (λ ns. All (λ n. repeated_name [] (variables n) ≡ None) ns) (sym are) (all_apart t spelled free)

  pub right_all : All (λ n. unknown_in fs n ≡ None → NodeIsRight fs n) ns
  right_all =
      subst (λ ns. All (λ n. unknown_in fs n ≡ None → NodeIsRight fs n) ns) (sym are)
      (subst (λ fs. All (λ n. unknown_in fs n ≡ None → NodeIsRight fs n) t) (sym same) (right_if_known t spelled free))

  pub main_named : HasNumber fs main
  main_named = subst (λ fs. HasNumber fs main) (sym same) (has_main t spelled free)

  -- the first unknown name of these nodes is the tree's
  pub blames_tree : (e : Or NameFault) → BlamesName kind.Unknown (λ o. o ≡ first_in (λ _. unknown_in fs) 0 ns) e → BlamesName kind.Unknown (First t kind.Unknown) e
  blames_tree e b =
      subst (λ fs. BlamesName kind.Unknown (λ o. o ≡ first_in (λ _. unknown_in fs) 0 t) e) same
      (subst (λ ns. BlamesName kind.Unknown (λ o. o ≡ first_in (λ _. unknown_in fs) 0 ns) e) are b)

  module _ (gs : List Function) (known : None ≡ first_in (λ _. unknown_in fs) 0 ns) (along : Along (IsFunction fs) ns gs) (l : List Function) (is : l ≡ gs) (m : ℕ) (number : number_of_name fs main ≡ Some m) where
    faultless : NoNameFault t
    faultless = no_fault t free (sym (subst (λ fs. None ≡ first_in (λ _. unknown_in fs) 0 t) same (subst (λ ns. None ≡ first_in (λ _. unknown_in fs) 0 ns) are known)))

    along_tree : Along (IsFunction (functions t)) t l
    along_tree = subst (Along (IsFunction (functions t)) t) (sym is) (subst (λ fs. Along (IsFunction fs) t gs) same (subst (λ ns. Along (IsFunction fs) ns gs) are along))

    main_number : number_of_name (functions t) main ≡ Some m
    main_number = subst (λ fs. number_of_name fs main ≡ Some m) same number

    pub program_good : GoodProgram (record { funcs = l; main = m })
    program_good = good_program t l m along_tree main_number (right_tree t spelled faultless)

    pub program_resolved : (p : WholeProgram) → p ≡ record { funcs = l; main = m } → IsResolved t p
    program_resolved p e = is_resolved t p spelled faultless (subst (Named t) (sym e) (record { funcs = along_tree; main = main_number }))
