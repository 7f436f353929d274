-- The tables of a function: what its variables depend on, and the numbers of their equations.
use Rattle.std.proofs.Common.{◌≡◌, ℕ, zero, suc, ◌<◌, ◌≤◌, ◌+◌, ◌-◌, inl, inr, Bool, true, false, cond, List, [], ◌∷◌, ◌++◌, length, map, take, reverse, get_or, set, Option, Some, None, All, refl, sym, ap, ◌∙◌, subst, arith, eqb-true}
use Rattle.std.specs.Prelude.{nat_eq, if◌then◌else◌}
use Rattle.std.specs.List.{slice_get}
use Rattle.std.proofs.lemmas.List.{take_more, take_all, append_assoc, get_or-reverse, length-reverse, get_or-set_same, get_or-set_other, map_more}
use Rattle.std.proofs.lemmas.List.Sums.{sum_by-take-le}
use Rattle.std.proofs.lemmas.Option.{slice_get_read, slice_get_within, get_or_from_slice_get}
use Rattle.std.proofs.lemmas.Bool.Decides.{eqb_tells}
use Rattle.lt_base.specs.declared.function.Decl.{Decl}
use Rattle.lt_base.specs.declared.expression.Expr.{Expr}
use Rattle.lt_base.specs.Expression.{Expression, literal, variable, unary, binary, imported, choose, sampled, merged, delayed, follow, arrow, call, Arguments, no_arguments, argument, shape, arguments_of}
use Rattle.lt_base.specs.Program.{Function, GoodFunction, VarsBelow, ArgumentVarsBelow}
use Rattle.lt_base.specs.Meaning.{ClockPairs, clock_of, right_of}
use Rattle.lt_base.specs.Equations.{left_count, inside, EquationsIn}
use Rattle.lt_base.specs.Order.{EachRead, EachArgumentRead, EachClockVar}
use Rattle.lt_base.specs.Dependence.{has, reads, arguments_reads, clock_vars, dependencies_of, Depends}
use Rattle.lt_base.proofs.Lookups.{same_self, right_left, right_right, no_right, lefts_append, lefts_cons, inside_most, all_found, left_below}
use Rattle.lt_base.proofs.Reading.{each_at, each_clock_at, has_cases}
use Rattle.lt_graph.specs.Tables.{IsTable}
use Rattle.lt_cause.specs.Orders.{HasDependencies, NumberOf}

pub clock_of_is : (ds : List Decl) (x : ℕ) (d : Decl) → x < length ds → clock_of ds x ≡ (get_or ds x d).clock
clock_of_is [] x d l = absurd (omega arith)
clock_of_is (e ∷ ds) zero d l = refl
clock_of_is (e ∷ ds) (suc x) d l = clock_of_is ds x d (omega arith)

-- ---- what was appended

clock_vars_push : (ck : ClockPairs) (p : ℕ × Bool) → clock_vars (ck ++ p ∷ []) ≡ clock_vars ck ++ p.0 ∷ []
clock_vars_push [] p = refl
clock_vars_push (q ∷ ck) p = ap (λ l. q.0 ∷ l) (clock_vars_push ck p)

pub clock_more : (to fn pushed : List ℕ) (seen : List (ℕ × Bool)) (p : ℕ × Bool) → to ≡ fn ++ clock_vars seen → pushed ≡ to ++ p.0 ∷ [] → pushed ≡ fn ++ clock_vars (seen ++ p ∷ [])
clock_more to fn pushed seen p before push =
    push ∙ ap (λ t. t ++ p.0 ∷ []) before ∙ append_assoc fn (clock_vars seen) (p.0 ∷ []) ∙ ap (λ t. fn ++ t) (sym (clock_vars_push seen p))

-- ---- one equation more

module _ (f : Function) (good : GoodFunction f) (i : ℕ) (q : ℕ × Expression) (at : slice_get f.eqs i ≡ Some q) where
  in_equations : (qs : List (ℕ × Expression)) → EquationsIn f qs → (k : ℕ) (q : ℕ × Expression) → slice_get qs k ≡ Some q → right_of f.eqs q.0 ≡ Some q.1
  in_equations [] a k q h = absurd (cc)
  in_equations (p ∷ qs) a zero q h = let same : p ≡ q = cc in subst (λ (q : ℕ × Expression). right_of f.eqs q.0 ≡ Some q.1) same a.0
  in_equations (p ∷ qs) a (suc k) q h = in_equations qs a.1 k q h

  pub found_right : right_of f.eqs q.0 ≡ Some q.1
  found_right = in_equations f.eqs (all_found f good) i q at

  pub left_inside : q.0 < length f.decls
  left_inside = left_below f good q.0 q.1 found_right

  within : i < length f.eqs
  within = slice_get_within f.eqs i q at

  more : take (i + 1) f.eqs ≡ take i f.eqs ++ q ∷ []
  more = take_more f.eqs i q within ∙ ap (λ p. take i f.eqs ++ p ∷ []) (get_or_from_slice_get f.eqs i q q at)

  lefts_more : (x : ℕ) → left_count x (take (i + 1) f.eqs) ≡ left_count x (take i f.eqs) + cond (nat_eq x q.0) 1 0
  lefts_more x = let c = lefts_cons x q [] in ap (left_count x) more ∙ lefts_append x (take i f.eqs) (q ∷ []) ∙ omega (arith, c)

  -- it is the variable's first equation
  pub first_time : left_count q.0 (take i f.eqs) ≡ 0
  first_time =
      let m = lefts_more q.0 in
      let s = same_self q.0 in
      let o : left_count q.0 (take (i + 1) f.eqs) ≡ left_count q.0 (take i f.eqs) + 1 = m ∙ ap (λ b. left_count q.0 (take i f.eqs) + cond b 1 0) s in
      let t = sum_by-take-le (λ (e : ℕ × Expression). cond (nat_eq q.0 e.0) 1 0) f.eqs (i + 1) in
      let n : left_count q.0 f.eqs ≤ 1 = subst (λ k. k ≤ 1) (sym (good.lefts q.0)) (inside_most f.n_in (length f.decls) q.0) in
      omega (arith, o, t, n)

  right_more : (x : ℕ) → right_of (take (i + 1) f.eqs) x ≡ (if nat_eq x q.0 then Some q.1 else right_of (take i f.eqs) x)
  right_more x = ap (λ l. right_of l x) more ∙ by (nat_eq x q.0) refl
    where
      others : (o : Option Expression) → right_of (take i f.eqs) x ≡ o → nat_eq x q.0 ≡ false → right_of (take i f.eqs ++ q ∷ []) x ≡ right_of (take i f.eqs) x
      others None h e = right_right (take i f.eqs) (q ∷ []) x h ∙ ap (λ b. if b then Some q.1 else None) e ∙ sym h
      others (Some a) h e = right_left (take i f.eqs) (q ∷ []) x a h ∙ sym h

      by : (b : Bool) → nat_eq x q.0 ≡ b → right_of (take i f.eqs ++ q ∷ []) x ≡ (if b then Some q.1 else right_of (take i f.eqs) x)
      by true e =
          let none : right_of (take i f.eqs) x ≡ None = no_right (take i f.eqs) x (ap (λ w. left_count w (take i f.eqs)) (eqb-true x q.0 e) ∙ first_time) in
          right_right (take i f.eqs) (q ∷ []) x none ∙ ap (λ b. if b then Some q.1 else None) e
      by false e = others (right_of (take i f.eqs) x) refl e

  -- the table of dependencies has it
  pub dependencies_more : (table : List (List ℕ)) (left : ℕ) (list : List ℕ) → left ≡ q.0 → left < length table → list ≡ reads q.1 ++ clock_vars (clock_of f.decls q.0)
      → ((x : ℕ) → get_or table x [] ≡ dependencies_of (right_of (take i f.eqs) x) (clock_of f.decls x)) → (x : ℕ) → get_or (set table left list) x [] ≡ dependencies_of (right_of (take (i + 1) f.eqs) x) (clock_of f.decls x)
  dependencies_more table left list var inside is told x = elim (eqb_tells x left) [
    | inl e ↦
        let same : x ≡ q.0 = e.1 ∙ var in
        let test : nat_eq x q.0 ≡ true = ap (nat_eq x) (sym var) ∙ e.0 in
        subst (λ w. get_or (set table left list) w [] ≡ list) (sym e.1) (get_or-set_same table left list [] inside)
        ∙ is
        ∙ ap (λ w. reads q.1 ++ clock_vars (clock_of f.decls w)) (sym same)
        ∙ ap (λ o. dependencies_of o (clock_of f.decls x)) (sym (right_more x ∙ ap (λ b. if b then Some q.1 else right_of (take i f.eqs) x) test))
    | inr e ↦
        let test : nat_eq x q.0 ≡ false = ap (nat_eq x) (sym var) ∙ e.0 in
        get_or-set_other table left x list [] e.1
        ∙ told x
        ∙ ap (λ o. dependencies_of o (clock_of f.decls x)) (sym (right_more x ∙ ap (λ b. if b then Some q.1 else right_of (take i f.eqs) x) test))
  ]

  -- the table of numbers has it
  number_kept : (x : ℕ) → nat_eq x q.0 ≡ false → (o : Option ℕ) → NumberOf f i x o → NumberOf f (i + 1) x o
  number_kept x e None h = let m = lefts_more x in let b : ◌≡◌ {A = ℕ} (cond (nat_eq x q.0) 1 0) 0 = ap (λ b. cond b 1 0) e in omega (arith, h, m, b)
  number_kept x e (Some k) h = (h.0, ((let l = h.1.0 in omega (arith, l)), h.1.1, h.1.2))

  pub numbers_more : (table : List (Option ℕ)) (left : ℕ) → left ≡ q.0 → left < length table → ((x : ℕ) → x < length f.decls → NumberOf f i x (get_or table x None))
      → (x : ℕ) → x < length f.decls → NumberOf f (i + 1) x (get_or (set table left (Some i)) x None)
  numbers_more table left var inside told x l = elim (eqb_tells x left) [
    | inl e ↦ subst (NumberOf f (i + 1) x) (sym (subst (λ w. get_or (set table left (Some i)) w None ≡ Some i) (sym e.1) (get_or-set_same table left (Some i) None inside))) (q, (omega arith, at, sym (e.1 ∙ var)))
    | inr e ↦ subst (NumberOf f (i + 1) x) (sym (get_or-set_other table left x (Some i) None e.1)) (number_kept x (ap (nat_eq x) (sym var) ∙ e.0) (get_or table x None) (told x l))
  ]

-- ---- variables that are read are the function's

mutual
  each_below : (n : ℕ) (e : Expression) → VarsBelow n e → EachRead (λ y. y < n) e
  each_below n (literal v) b = tt
  each_below n (variable x) b = b
  each_below n (unary o x) b = each_below n x b
  each_below n (binary o x y) b = (each_below n x b.0, each_below n y b.1)
  each_below n (imported o x y) b = (each_below n x b.0, each_below n y b.1)
  each_below n (choose c x y) b = (each_below n c b.0, each_below n x b.1, each_below n y b.2)
  each_below n (sampled e c p) b = (each_below n e b.0, b.1)
  each_below n (merged c x y) b = (b.0, each_below n x b.1, each_below n y b.2)
  each_below n (delayed v e) b = tt
  each_below n (follow x y) b = each_below n x b.0
  each_below n (arrow x y) b = (each_below n x b.0, each_below n y b.1)
  each_below n (call g args) b = each_argument_below n args b

  each_argument_below : (n : ℕ) (args : Arguments) → ArgumentVarsBelow n args → EachArgumentRead (λ y. y < n) args
  each_argument_below n no_arguments b = tt
  each_argument_below n (argument e args) b = (each_below n e b.0, each_argument_below n args b.1)

clock_below : (n : ℕ) (ck : ClockPairs) → All (λ p. p.0 < n) ck → EachClockVar (λ y. y < n) ck
clock_below n [] a = tt
clock_below n (p ∷ ck) a = (a 0 p (omega arith), clock_below n ck (λ k d l. a (suc k) d (omega (arith, l))))

clocks_inside : (n : ℕ) (ds : List Decl) → All (λ d. All (λ p. p.0 < n) d.clock) ds → (x : ℕ) → All (λ p. p.0 < n) (clock_of ds x)
clocks_inside n [] a x = λ k d l. absurd (omega (arith, l))
clocks_inside n (e ∷ ds) a zero = a 0 e (omega arith)
clocks_inside n (e ∷ ds) a (suc x) = clocks_inside n ds (λ k d l. a (suc k) d (omega (arith, l))) x

depends_by : (f : Function) → GoodFunction f → (x y : ℕ) (o : Option Expression) → right_of f.eqs x ≡ o → has y (dependencies_of o (clock_of f.decls x)) ≡ true → y < length f.decls
depends_by f good x y None e h = absurd (cc)
depends_by f good x y (Some a) e h = elim (has_cases y (reads a) (clock_vars (clock_of f.decls x)) h) [
  | inl k ↦ each_at (λ z. z < length f.decls) a (each_below (length f.decls) a (Rattle.lt_base.proofs.Lookups.right_all (λ (q : ℕ × Expression). VarsBelow (length f.decls) q.1) f.eqs good.rights x a e)) y k
  | inr k ↦ each_clock_at (λ z. z < length f.decls) (clock_of f.decls x) (clock_below (length f.decls) (clock_of f.decls x) (clocks_inside (length f.decls) f.decls good.clocks x)) y k
]

pub depends_inside : (f : Function) → GoodFunction f → (x y : ℕ) → Depends f x y → y < length f.decls
depends_inside f good x y h = depends_by f good x y (right_of f.eqs x) refl h

pub table_inside : (f : Function) → GoodFunction f → (table : List (List ℕ)) → HasDependencies f table → IsTable table
table_inside f good table t x y h = let l = depends_inside f good x y (subst (λ xs. has y xs ≡ true) (t.tells x) h) in let n = t.size in omega (arith, l, n)

-- an equation that was read
pub equation_read : (f : Function) (inside items : List (ℕ × Expression)) (k : ℕ) (q : ℕ × Expression) → items ≡ inside → inside ≡ f.eqs → k < length items → q ≡ get_or items k q → slice_get f.eqs k ≡ Some q
equation_read f inside items k q a b l r = ap (λ ys. slice_get ys k) (sym (a ∙ b)) ∙ slice_get_read items (length items) k q refl l r

-- the list of one variable
pub depends_made : (ds slice : List Decl) (left : ℕ) (d : Decl) (q : ℕ × Expression) (right : Expression) (empty some all : List ℕ) → slice ≡ ds → left ≡ q.0 → right ≡ q.1 → q.0 < length ds → empty ≡ [] → some ≡ empty ++ reads right
    → all ≡ some ++ clock_vars ((get_or slice left d).clock) → all ≡ reads q.1 ++ clock_vars (clock_of ds q.0)
depends_made ds slice left d q right empty some all same var is inside none first then' =
    let here : left < length slice = let l = ap length same in omega (arith, l, var, inside) in
    let clock : (get_or slice left d).clock ≡ clock_of ds q.0 = sym (clock_of_is slice left d here) ∙ (λ i. clock_of (same i) (var i)) in
    let some' : some ≡ reads q.1 = first ∙ (λ i. none i ++ reads (is i)) in
    then' ∙ (λ i. some' i ++ clock_vars (clock i))
