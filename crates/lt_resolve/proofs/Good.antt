-- A function without a fault is a good one.
use Rattle.std.proofs.Common.{◌≡◌, ℕ, zero, suc, ◌+◌, ◌-◌, ◌<◌, ◌≤◌, ◌^◌, Bool, true, false, cond, List, [], ◌∷◌, ◌++◌, length, get_or, take, map, reverse, Some, refl, sym, ap, ◌∙◌, subst, arith, eqb-true, ltb-true, ltb-false}
use Rattle.std.specs.Prelude.{nat_eq, nat_lt}
use Rattle.std.specs.List.{All, count_by}
use Rattle.std.specs.Str.{bytes_eq}
use Rattle.std.specs.Cmp.{nat_eq_equiv}
use Rattle.std.proofs.lemmas.Bool.Decides.{nat_tests}
use Rattle.std.proofs.lemmas.List.{length-map, map-append, reverse-reverse, length-append, append_assoc, get_or_append_left, get_or-append_right}
use Rattle.std.proofs.lemmas.List.Elements.{All-nil, All-cons, All-head, All-tail}
use Rattle.std.proofs.lemmas.List.Sums.{sum_by-cons}
use Rattle.lt_base.specs.declared.function.Decl.{Decl}
use Rattle.lt_base.specs.Expression.{Expression}
use Rattle.lt_base.specs.Program.{Function, GoodFunction, VarsBelow}
use Rattle.lt_base.specs.Equations.{left_count, inside}
use Rattle.lt_base.proofs.Lookups.{lefts_cons, inside_one, inside_none, inside_most}
use Rattle.lt_syntax.specs.declared.tree.DeclText.{DeclText}
use Rattle.lt_syntax.specs.declared.tree.NodeText.{NodeText}
use Rattle.lt_syntax.specs.Tree.{Tm}
use Rattle.lt_resolve.specs.Names.{Name, number_of_name, among}
use Rattle.lt_resolve.specs.Scopes.{declarations, declared_names, variables, left_names}
use Rattle.lt_resolve.specs.declared.function.Draft.{Draft}
use Rattle.lt_resolve.specs.Known.{IsKnown}
use Rattle.lt_resolve.specs.Drafts.{IsDraftEquation, IsDraft, completed}
use Rattle.lt_resolve.specs.Named.{IsPair, IsDeclared, IsNamedEquation, IsFunction, Along, numbers_from}
use Rattle.lt_resolve.specs.Right.{NodeIsRight}
use Rattle.lt_resolve.proofs.Numbers.{number_below, numbered}
use Rattle.lt_resolve.proofs.Distinct.{same_name, eq_self, differ, times, not_among_none, among_some, once, none_missing, none_among, at_among}
use Rattle.lt_resolve.proofs.Below.{vars_below}
use Rattle.lt_resolve.proofs.Repeats.{variables_are}
use Rattle.lt_resolve.proofs.Pairs.{along_length, along_right, all_unreversed}

nothing_reversed : {A : Type 0} (xs : List A) → reverse xs ≡ [] → xs ≡ []
nothing_reversed xs h = sym (reverse-reverse xs) ∙ ap reverse h

along_nothing : {A B : Type 0} (R : A → B → Type 0) (ys : List B) → Along R [] ys → ys ≡ []
along_nothing R [] h = refl
along_nothing R (y ∷ ys) h = absurd h

-- inputs without clocks
base_clocks : (vars : List Name) (ds rest : List DeclText) (es : List Decl) → Along (IsDeclared vars) (ds ++ rest) es → All (λ d. d.clock ≡ []) ds → All (λ e. e.clock ≡ []) (take (length ds) es)
base_clocks vars [] rest es h b = All-nil (λ e. e.clock ≡ [])
base_clocks vars (d ∷ ds) rest [] h b = absurd h
base_clocks vars (d ∷ ds) rest (e ∷ es) h b =
    All-cons (λ e. e.clock ≡ []) e (take (length ds) es)
    (nothing_reversed e.clock (along_nothing (IsPair vars) (reverse e.clock) (subst (λ c. Along (IsPair vars) c (reverse e.clock)) (All-head (λ d. d.clock ≡ []) d ds b) h.0.clock)))
    (base_clocks vars ds rest es h.1 (All-tail (λ d. d.clock ≡ []) d ds b))

clock_below : (vars : List Name) (d : DeclText) (e : Decl) → IsDeclared vars d e → All (λ p. p.0 < length vars) e.clock
clock_below vars d e h =
    all_unreversed (λ (p : ℕ × Bool). p.0 < length vars) e.clock
    (along_right (IsPair vars) (λ p. p.0 < length vars) (λ p q r. number_below vars p.0 q.0 r.0) d.clock (reverse e.clock) h.clock)

numbers_below : (first n m : ℕ) → first + n ≤ m → All (λ y. y < m) (numbers_from first n)
numbers_below first zero m l = All-nil (λ y. y < m)
numbers_below first (suc n) m l = All-cons (λ y. y < m) first (numbers_from (suc first) n) (omega arith) (numbers_below (suc first) n m (omega arith))

numbers_count : (y first n : ℕ) → count_by (nat_eq y) (numbers_from first n) ≡ inside first (first + n) y
numbers_count y first zero = sym (inside_none first y)
numbers_count y first (suc n) = sum_by-cons (λ z. cond (nat_eq y z) 1 0) first (numbers_from (suc first) n) ∙ ap (λ k. cond (nat_eq y first) 1 0 + k) (numbers_count y (suc first) n) ∙ inside_one first n y

-- an equation of variable x is one whose left side has its name
same_test : (vars : List Name) (x : ℕ) (y : Name) (i : ℕ) → ((j k : ℕ) → j < length vars → k < length vars → get_or vars j [] ≡ get_or vars k [] → j ≡ k) → x < length vars → number_of_name vars y ≡ Some i → nat_eq x i ≡ bytes_eq (get_or vars x []) y
same_test vars x y i apart l h = go (nat_eq x i) refl (bytes_eq (get_or vars x []) y) refl
  where
    is : get_or vars i [] ≡ y
    is = numbered vars y i h

    go : (a : Bool) → nat_eq x i ≡ a → (b : Bool) → bytes_eq (get_or vars x []) y ≡ b → a ≡ b
    go true e true f = refl
    go true e false f = let g : bytes_eq (get_or vars x []) y ≡ true = subst (λ z. bytes_eq z y ≡ true) (sym (ap (λ k. get_or vars k []) (eqb-true x i e) ∙ is)) (eq_self y) in absurd (cc)
    go false e true f = let same = apart x i l (number_below vars y i h) (same_name (get_or vars x []) y f ∙ sym is) in let g : nat_eq x i ≡ true = subst (λ k. nat_eq x k ≡ true) same (nat_eq_equiv.refl x) in absurd (cc)
    go false e false f = refl

module _ (vars funcs : List Name) (x : ℕ) where
  -- how often a variable is on the left
  count_named : ((j k : ℕ) → j < length vars → k < length vars → get_or vars j [] ≡ get_or vars k [] → j ≡ k) → x < length vars → (qs : List (Name × Tm)) (es : List (ℕ × Expression)) → Along (IsNamedEquation vars funcs) qs es → left_count x es ≡ times (get_or vars x []) (map (λ q. q.0) qs)
  count_named apart l [] [] h = refl
  count_named apart l [] (e ∷ es) h = absurd h
  count_named apart l (q ∷ qs) [] h = absurd h
  count_named apart l (q ∷ qs) (e ∷ es) h =
      lefts_cons x e es
      ∙ (λ i. cond (same_test vars x q.0 e.0 apart l h.0.0 i) 1 0 + count_named apart l qs es h.1 i)
      ∙ sym (sum_by-cons (λ y. cond (bytes_eq (get_or vars x []) y) 1 0) q.0 (map (λ q. q.0) qs))

  -- a number that is no variable
  count_none : length vars ≤ x → (qs : List (Name × Tm)) (es : List (ℕ × Expression)) → Along (IsNamedEquation vars funcs) qs es → left_count x es ≡ 0
  count_none l [] [] h = refl
  count_none l [] (e ∷ es) h = absurd h
  count_none l (q ∷ qs) [] h = absurd h
  count_none l (q ∷ qs) (e ∷ es) h =
      let below = number_below vars q.0 e.0 h.0.0 in
      let no : nat_eq x e.0 ≡ false = not_eq x e.0 (omega arith) in
      let rest = count_none l qs es h.1 in
      lefts_cons x e es ∙ (λ i. cond (no i) 1 0 + rest i)
    where
      not_eq : (a b : ℕ) → b < a → nat_eq a b ≡ false
      not_eq a b l = grind (arith, nat_tests)

inside_is_one : (low high x : ℕ) → low ≤ x → x < high → inside low high x ≡ 1
inside_is_one low high x p q = grind (arith, nat_tests)

inside_is_none : (low high x : ℕ) → x < low → inside low high x ≡ 0
inside_is_none low high x p = grind (arith, nat_tests)

inside_past : (low high x : ℕ) → high ≤ x → inside low high x ≡ 0
inside_past low high x p = grind (arith, nat_tests)

module _ (funcs : List Name) (n : NodeText) (f : Function) (is : IsFunction funcs n f) (right : NodeIsRight funcs n) where
  vars : List Name
  vars = variables n

  many : length f.decls ≡ length (variables n)
  many = along_length (IsDeclared (variables n)) (declarations n) f.decls is.decls ∙ sym (length-map (declarations n) (λ (d : DeclText). d.name))

  parts : length (variables n) ≡ length n.ins + (length n.outs + length n.locals)
  parts = length-map (declarations n) (λ (d : DeclText). d.name) ∙ length-append n.ins (n.outs ++ n.locals) ∙ ap (λ k. length n.ins + k) (length-append n.outs n.locals)

  left_named : (x : ℕ) → x < length (variables n) → left_count x f.eqs ≡ times (get_or (variables n) x []) (left_names n)
  left_named x l = count_named (variables n) funcs x (differ (variables n) right.apart) l n.eqs f.eqs is.eqs

  -- an input has no equation
  of_input : (x : ℕ) → x < length n.ins → left_count x f.eqs ≡ 0
  of_input x l =
      let v = get_or (variables n) x [] in
      let small : x < length (declared_names n.ins) = subst (λ k. x < k) (sym (length-map n.ins (λ (d : DeclText). d.name))) l in
      let same : get_or (declared_names n.ins) x [] ≡ v = sym (ap (λ l. get_or l x []) (variables_are n) ∙ get_or_append_left (declared_names n.ins) (declared_names n.outs ++ declared_names n.locals) [] x small) in
      let there : among (declared_names n.ins) v ≡ true = subst (λ z. among (declared_names n.ins) z ≡ true) same (at_among (declared_names n.ins) x small) in
      left_named x (subst (λ k. x < k) (sym parts) (omega arith)) ∙ not_among_none v (left_names n) (none_among (declared_names n.ins) (left_names n) right.inputs v there)

  -- every other variable has one
  of_other : (x : ℕ) → length n.ins ≤ x → x < length (variables n) → left_count x f.eqs ≡ 1
  of_other x low high =
      let v = get_or (variables n) x [] in
      let rest = declared_names n.outs ++ declared_names n.locals in
      let size : length (declared_names n.ins) ≡ length n.ins = length-map n.ins (λ (d : DeclText). d.name) in
      let whole : declared_names (n.outs ++ n.locals) ≡ rest = map-append (λ (d : DeclText). d.name) n.outs n.locals in
      let long : length rest ≡ length n.outs + length n.locals = length-append (declared_names n.outs) (declared_names n.locals) ∙ (λ i. length-map n.outs (λ (d : DeclText). d.name) i + length-map n.locals (λ (d : DeclText). d.name) i) in
      let same : get_or rest (x - length n.ins) [] ≡ v = sym (ap (λ l. get_or l x []) (variables_are n) ∙ get_or-append_right (declared_names n.ins) rest (length n.ins) x [] size low) in
      let there : among rest v ≡ true = subst (λ z. among rest z ≡ true) same (at_among rest (x - length n.ins) (omega (arith, long, parts))) in
      let listed : among (left_names n) v ≡ true = none_missing (left_names n) (declared_names (n.outs ++ n.locals)) right.each v (subst (λ l. among l v ≡ true) (sym whole) there) in
      let some = among_some v (left_names n) listed in
      let most = once v (left_names n) right.once in
      left_named x high ∙ omega (arith, some, most)

  left_counts : (x : ℕ) → left_count x f.eqs ≡ inside f.n_in (length f.decls) x
  left_counts x = go (nat_lt x (length n.ins)) refl (nat_lt x (length (variables n))) refl ∙ (λ i. inside (sym is.n_in i) (sym many i) x)
    where
      go : (a : Bool) → nat_lt x (length n.ins) ≡ a → (b : Bool) → nat_lt x (length (variables n)) ≡ b → left_count x f.eqs ≡ inside (length n.ins) (length (variables n)) x
      go true e b g = of_input x (ltb-true x (length n.ins) e) ∙ sym (inside_is_none (length n.ins) (length (variables n)) x (ltb-true x (length n.ins) e))
      go false e true g = of_other x (ltb-false x (length n.ins) e) (ltb-true x (length (variables n)) g) ∙ sym (inside_is_one (length n.ins) (length (variables n)) x (ltb-false x (length n.ins) e) (ltb-true x (length (variables n)) g))
      go false e false g = count_none (variables n) funcs x (ltb-false x (length (variables n)) g) n.eqs f.eqs is.eqs ∙ sym (inside_past (length n.ins) (length (variables n)) x (ltb-false x (length (variables n)) g))

  pub good_function : GoodFunction f
  good_function = record {
    inputs = (let n_in = is.n_in in omega (arith, n_in, many, parts));
    inputs_on_base = subst (λ k. All (λ d. d.clock ≡ []) (take k f.decls)) (sym is.n_in) (base_clocks (variables n) n.ins (n.outs ++ n.locals) f.decls is.decls right.base);
    clocks = along_right (IsDeclared (variables n)) (λ d. All (λ p. p.0 < length f.decls) d.clock) (λ d e h. subst (λ k. All (λ p. p.0 < k) e.clock) (sym many) (clock_below (variables n) d e h)) (declarations n) f.decls is.decls;
    outs = subst (All (λ y. y < length f.decls)) (sym is.outs) (numbers_below (length n.ins) (length n.outs) (length f.decls) (omega (arith, many, parts)));
    outs_once = λ y. subst (λ k. k ≤ 1) (sym (ap (count_by (nat_eq y)) is.outs ∙ numbers_count y (length n.ins) (length n.outs))) (inside_most (length n.ins) (length n.ins + length n.outs) y);
    rights = along_right (IsNamedEquation (variables n) funcs) (λ e. VarsBelow (length f.decls) e.1) (λ q e h. subst (λ k. VarsBelow k e.1) (sym many) (vars_below (variables n) funcs q.1 e.1 h.1)) n.eqs f.eqs is.eqs;
    lefts = left_counts;
  }

-- ---- drafts

module _ (funcs vars : List Name) (d : Draft) (names : vars ≡ variables d.node.now) where
  -- a draft put together from its parts
  pub drafted : (d0 d1 d2 d3 : List Decl) → d0 ≡ [] → ((b : List DeclText) → Along (IsDeclared vars) b d0 → Along (IsDeclared vars) (b ++ d.node.now.ins) d1)
      → ((b : List DeclText) → Along (IsDeclared vars) b d1 → Along (IsDeclared vars) (b ++ d.node.now.outs) d2) → ((b : List DeclText) → Along (IsDeclared vars) b d2 → Along (IsDeclared vars) (b ++ d.node.now.locals) d3)
      → d.decls ≡ d3 → Along (IsDraftEquation vars funcs) d.node.now.eqs d.eqs → IsDraft funcs d
  drafted d0 d1 d2 d3 e0 h1 h2 h3 e3 h =
      let m = d.node.now in
      record {
        decls = subst (λ v. Along (IsDeclared v) (declarations m) d.decls) names
            (subst (Along (IsDeclared vars) (declarations m)) (sym e3)
            (subst (λ ds. Along (IsDeclared vars) ds d3) (append_assoc m.ins m.outs m.locals) (h3 (m.ins ++ m.outs) (h2 m.ins (h1 [] (subst (Along (IsDeclared vars) []) (sym e0) tt))))));
        eqs = subst (λ v. Along (IsDraftEquation v funcs) m.eqs d.eqs) names h;
      }

pub equations_named : (vs funcs : List Name) (qs : List (Name × Tm)) (es : List (ℕ × Expression)) → Along (IsDraftEquation vs funcs) qs es → All (λ q. IsKnown vs funcs q.1) qs → Along (IsNamedEquation vs funcs) qs es
equations_named vs funcs [] [] h k = tt
equations_named vs funcs [] (e ∷ es) h k = absurd h
equations_named vs funcs (q ∷ qs) [] h k = absurd h
equations_named vs funcs (q ∷ qs) (e ∷ es) h k = ((h.0.0, h.0.1 (All-head (λ q. IsKnown vs funcs q.1) q qs k)), equations_named vs funcs qs es h.1 (All-tail (λ q. IsKnown vs funcs q.1) q qs k))

-- the function of a draft without a fault
pub is_completed : (funcs : List Name) (d : Draft) → IsDraft funcs d → NodeIsRight funcs d.node.now → IsFunction funcs d.node.now (completed d)
is_completed funcs d h r = record {
  name = refl;
  decls = h.decls;
  n_in = refl;
  outs = refl;
  eqs = equations_named (variables d.node.now) funcs d.node.now.eqs d.eqs h.eqs r.known;
}

pub good_draft : (funcs : List Name) (d : Draft) → IsDraft funcs d → NodeIsRight funcs d.node.now → GoodFunction (completed d)
good_draft funcs d h r = good_function funcs d.node.now (completed d) (is_completed funcs d h r) r

pub room_of_draft : (funcs : List Name) (n : NodeText) → NodeIsRight funcs n → length n.ins + length n.outs < 2 ^ 32
room_of_draft funcs n r =
    let many = length-append n.ins (n.outs ++ n.locals) in
    let parts = length-append n.outs n.locals in
    let few = r.few in
    omega (arith, many, parts, few)
