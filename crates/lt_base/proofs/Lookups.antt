-- Look-ups in declarations, equations and functions, and in lists to which more was appended.
use Rattle.std.proofs.Common.{◌≡◌, ℕ, zero, suc, ◌+◌, ◌<◌, ◌≤◌, Bool, true, false, cond, List, [], ◌∷◌, ◌++◌, length, Option, Some, None, refl, sym, ap, ◌∙◌, subst, arith, length-append, take, All, eqb-true, ltb-true, ltb-false}
use Rattle.std.specs.Prelude.{nat_eq, nat_lt, nat_le, ◌&&◌, if◌then◌else◌}
use Rattle.std.specs.List.{count_by}
use Rattle.std.specs.Cmp.{nat_eq_equiv}
use Rattle.std.proofs.lemmas.List.{append_assoc, append-nil, take-append-le}
use Rattle.std.proofs.lemmas.List.Elements.{All-head, All-tail, All-append}
use Rattle.std.proofs.lemmas.List.Sums.{sum_by-cons, sum_by-append}
use Rattle.std.proofs.lemmas.Bool.Decides.{nat_tests}
use Rattle.lt_base.specs.declared.function.Decl.{Decl}
use Rattle.lt_base.specs.Expression.{Expression, literal, variable, unary, binary, imported, choose, sampled, merged, delayed, follow, arrow, call, Arguments, no_arguments, argument}
use Rattle.lt_base.specs.Program.{Function, GoodFunction, VarsBelow, ArgumentVarsBelow}
use Rattle.lt_base.specs.Meaning.{clock_of, right_of, function_of}
use Rattle.lt_base.specs.Equations.{left_count, inside, EquationsIn, Appended}
use Rattle.lt_base.specs.Typing.{ty_at}

pub not_same : (x n : ℕ) → n < x → nat_eq x n ≡ false
not_same x n h = grind (arith, nat_tests)

pub same_self : (n : ℕ) → nat_eq n n ≡ true
same_self n = nat_eq_equiv.refl n

-- ---- declarations

pub clock_left : (ds more : List Decl) (x : ℕ) → x < length ds → clock_of (ds ++ more) x ≡ clock_of ds x
clock_left [] more x h = absurd (omega arith)
clock_left (d ∷ ds) more zero h = refl
clock_left (d ∷ ds) more (suc x) h = clock_left ds more x (omega arith)

pub ty_left : (ds more : List Decl) (x : ℕ) → x < length ds → ty_at (ds ++ more) x ≡ ty_at ds x
ty_left [] more x h = absurd (omega arith)
ty_left (d ∷ ds) more zero h = refl
ty_left (d ∷ ds) more (suc x) h = ty_left ds more x (omega arith)

pub clock_right : (ds more : List Decl) (i x : ℕ) → x ≡ length ds + i → clock_of (ds ++ more) x ≡ clock_of more i
clock_right [] more i x h = ap (clock_of more) (omega (arith, h))
clock_right (d ∷ ds) more i zero h = absurd (omega (arith, h))
clock_right (d ∷ ds) more i (suc x) h = clock_right ds more i x (omega (arith, h))

pub ty_right : (ds more : List Decl) (i x : ℕ) → x ≡ length ds + i → ty_at (ds ++ more) x ≡ ty_at more i
ty_right [] more i x h = ap (ty_at more) (omega (arith, h))
ty_right (d ∷ ds) more i zero h = absurd (omega (arith, h))
ty_right (d ∷ ds) more i (suc x) h = ty_right ds more i x (omega (arith, h))

-- ---- equations

right_left_by : (y : ℕ) (e : Expression) (eqs more : List (ℕ × Expression)) (x : ℕ) (a : Expression) → ((right_of eqs x ≡ Some a) → right_of (eqs ++ more) x ≡ Some a) → (t : Bool) → (if t then Some e else right_of eqs x) ≡ Some a → (if t then Some e else right_of (eqs ++ more) x) ≡ Some a
right_left_by y e eqs more x a ih true h = h
right_left_by y e eqs more x a ih false h = ih h

pub right_left : (eqs more : List (ℕ × Expression)) (x : ℕ) (a : Expression) → right_of eqs x ≡ Some a → right_of (eqs ++ more) x ≡ Some a
right_left [] more x a h = absurd (cc)
right_left ((y, e) ∷ eqs) more x a h = right_left_by y e eqs more x a (right_left eqs more x a) (nat_eq x y) h

right_right_by : (e : Expression) (eqs more : List (ℕ × Expression)) (x : ℕ) → ((right_of eqs x ≡ None) → right_of (eqs ++ more) x ≡ right_of more x) → (t : Bool) → (if t then Some e else right_of eqs x) ≡ None → (if t then Some e else right_of (eqs ++ more) x) ≡ right_of more x
right_right_by e eqs more x ih true h = absurd (cc)
right_right_by e eqs more x ih false h = ih h

pub right_right : (eqs more : List (ℕ × Expression)) (x : ℕ) → right_of eqs x ≡ None → right_of (eqs ++ more) x ≡ right_of more x
right_right [] more x h = refl
right_right ((y, e) ∷ eqs) more x h = right_right_by e eqs more x (right_right eqs more x) (nat_eq x y) h

no_right_by : (e : Expression) (eqs : List (ℕ × Expression)) (x : ℕ) (n : ℕ) → (n ≡ 0 → right_of eqs x ≡ None) → (t : Bool) → cond t 1 0 + n ≡ 0 → (if t then Some e else right_of eqs x) ≡ None
no_right_by e eqs x n ih true h = absurd (omega (arith, h))
no_right_by e eqs x n ih false h = ih (omega (arith, h))

pub no_right : (eqs : List (ℕ × Expression)) (x : ℕ) → count_by (λ e. nat_eq x e.0) eqs ≡ 0 → right_of eqs x ≡ None
no_right [] x h = refl
no_right ((y, e) ∷ eqs) x h = no_right_by e eqs x (count_by (λ e. nat_eq x e.0) eqs) (no_right eqs x) (nat_eq x y) (sym (sum_by-cons (λ (z : ℕ × Expression). cond (nat_eq x z.0) 1 0) (y, e) eqs) ∙ h)

-- a number that is no variable has no equation
pub beyond : (f : Function) → GoodFunction f → (x : ℕ) → length f.decls ≤ x → right_of f.eqs x ≡ None
beyond f good x h = no_right f.eqs x (good.lefts x ∙ none f.n_in (length f.decls) h)
  where
    none : (n m : ℕ) → m ≤ x → ◌≡◌ {A = ℕ} (if nat_le n x && nat_lt x m then 1 else 0) 0
    none n m h = grind (arith, nat_tests)

-- an input has no equation
pub input_none : (f : Function) → GoodFunction f → (x : ℕ) → x < f.n_in → right_of f.eqs x ≡ None
input_none f good x h = no_right f.eqs x (good.lefts x ∙ none f.n_in (length f.decls) h)
  where
    none : (n m : ℕ) → x < n → ◌≡◌ {A = ℕ} (if nat_le n x && nat_lt x m then 1 else 0) 0
    none n m h = grind (arith, nat_tests)

some_right_by : (e : Expression) (eqs : List (ℕ × Expression)) (x : ℕ) (n : ℕ) → (right_of eqs x ≡ None → n ≡ 0) → (t : Bool) → (if t then Some e else right_of eqs x) ≡ None → cond t 1 0 + n ≡ 0
some_right_by e eqs x n ih true h = absurd (cc)
some_right_by e eqs x n ih false h = omega (arith, ih h)

pub right_counts : (eqs : List (ℕ × Expression)) (x : ℕ) → right_of eqs x ≡ None → count_by (λ e. nat_eq x e.0) eqs ≡ 0
right_counts [] x h = refl
right_counts ((y, e) ∷ eqs) x h = sum_by-cons (λ (z : ℕ × Expression). cond (nat_eq x z.0) 1 0) (y, e) eqs ∙ some_right_by e eqs x (count_by (λ e. nat_eq x e.0) eqs) (right_counts eqs x) (nat_eq x y) h

-- a variable without an equation is an input
pub is_input : (f : Function) → GoodFunction f → (x : ℕ) → x < length f.decls → right_of f.eqs x ≡ None → x < f.n_in
is_input f good x d h = go f.n_in (length f.decls) d (sym (good.lefts x) ∙ right_counts f.eqs x h)
  where
    go : (n m : ℕ) → x < m → ◌≡◌ {A = ℕ} (if nat_le n x && nat_lt x m then 1 else 0) 0 → x < n
    go n m d h = grind (arith, nat_tests)

-- the number of an equation is that of a variable
pub left_below : (f : Function) → GoodFunction f → (x : ℕ) (e : Expression) → right_of f.eqs x ≡ Some e → x < length f.decls
left_below f good x e h =
    let go : (b : Bool) → nat_lt x (length f.decls) ≡ b → x < length f.decls =
    elim [ true ↦ λ t. ltb-true x (length f.decls) t | false ↦ λ t. absurd (past (beyond f good x (ltb-false x (length f.decls) t))) ] in
    go (nat_lt x (length f.decls)) refl
  where
    past : right_of f.eqs x ≡ None → ⊥
    past n = cc

-- ---- how often a left side stands in a list

pub lefts_cons : (x : ℕ) (q : ℕ × Expression) (qs : List (ℕ × Expression)) → left_count x (q ∷ qs) ≡ cond (nat_eq x q.0) 1 0 + left_count x qs
lefts_cons x q qs = sum_by-cons (λ (z : ℕ × Expression). cond (nat_eq x z.0) 1 0) q qs

pub lefts_append : (x : ℕ) (xs ys : List (ℕ × Expression)) → left_count x (xs ++ ys) ≡ left_count x xs + left_count x ys
lefts_append x xs ys = sum_by-append (λ (z : ℕ × Expression). cond (nat_eq x z.0) 1 0) xs ys

pub inside_none : (n x : ℕ) → inside n (n + 0) x ≡ 0
inside_none n x = grind (arith, nat_tests)

pub inside_one : (m k x : ℕ) → cond (nat_eq x m) 1 0 + inside (suc m) (suc m + k) x ≡ inside m (m + suc k) x
inside_one m k x = grind (arith, nat_tests)

pub inside_two : (low middle high x : ℕ) → low ≤ middle → middle ≤ high → inside low middle x + inside middle high x ≡ inside low high x
inside_two low middle high x p q = grind (arith, nat_tests)

pub inside_most : (low high x : ℕ) → inside low high x ≤ 1
inside_most low high x = grind (arith, nat_tests)

pub inside_low : (low high x : ℕ) → 0 < inside low high x → low ≤ x
inside_low low high x h = grind (arith, nat_tests)

pub inside_high : (low high x : ℕ) → 0 < inside low high x → x < high
inside_high low high x h = grind (arith, nat_tests)

pub inside_not : (low high x : ℕ) → x < low → inside low high x ≡ 0
inside_not low high x h = grind (arith, nat_tests)

-- two lists, each with one equation for the numbers of its range
pub lefts_two : (x low middle high : ℕ) (xs ys : List (ℕ × Expression)) → low ≤ middle → middle ≤ high → left_count x xs ≡ inside low middle x → left_count x ys ≡ inside middle high x → left_count x (xs ++ ys) ≡ inside low high x
lefts_two x low middle high xs ys p q h k = lefts_append x xs ys ∙ (λ i. h i + k i) ∙ inside_two low middle high x p q

-- ---- a list in which no left side stands twice finds each of its equations

later_by : (x : ℕ) (q : ℕ × Expression) (qs : List (ℕ × Expression)) (o : Option Expression) → 0 < left_count x qs → left_count x (q ∷ qs) ≤ 1 → (0 < left_count x (q ∷ qs) → o ≡ (if nat_eq x q.0 then Some q.1 else right_of qs x)) → (t : Bool) → nat_eq x q.0 ≡ t → o ≡ right_of qs x
later_by x q qs o l m h true t = let k = lefts_cons x q qs ∙ ap (λ b. cond b 1 0 + left_count x qs) t in absurd (omega (arith, k, l, m))
later_by x q qs o l m h false t = let k = lefts_cons x q qs ∙ ap (λ b. cond b 1 0 + left_count x qs) t in h (omega (arith, k, l)) ∙ ap (λ b. if b then Some q.1 else right_of qs x) t

pub found : (f : Function) (qs : List (ℕ × Expression)) → ((x : ℕ) → left_count x qs ≤ 1) → ((x : ℕ) → 0 < left_count x qs → right_of f.eqs x ≡ right_of qs x) → EquationsIn f qs
found f [] m h = tt
found f (q ∷ qs) m h =
    let k = lefts_cons q.0 q qs ∙ ap (λ b. cond b 1 0 + left_count q.0 qs) (same_self q.0) in (
      h q.0 (omega (arith, k)) ∙ ap (λ b. if b then Some q.1 else right_of qs q.0) (same_self q.0),
      found f qs (λ x. let n = lefts_cons x q qs in let l = m x in omega (arith, n, l)) (λ x l. later_by x q qs (right_of f.eqs x) l (m x) (h x) (nat_eq x q.0) refl),
    )

-- a good function finds each of its equations
pub all_found : (f : Function) → GoodFunction f → EquationsIn f f.eqs
all_found f good = found f f.eqs (λ x. subst (λ k. k ≤ 1) (sym (good.lefts x)) (inside_most f.n_in (length f.decls) x)) (λ x l. refl)

-- ---- facts of every element

pub right_all : (P : ℕ × Expression → Type 0) (eqs : List (ℕ × Expression)) → All P eqs → (x : ℕ) (e : Expression) → right_of eqs x ≡ Some e → P (x, e)
right_all P [] a x e h = absurd (cc)
right_all P ((y, b) ∷ eqs) a x e h =
    let go : (t : Bool) → nat_eq x y ≡ t → (if t then Some b else right_of eqs x) ≡ Some e → P (x, e) =
    elim [
      | true ↦ λ t k. let same : b ≡ e = cc in subst P (λ i. (sym (eqb-true x y t) i, same i)) (All-head P (y, b) eqs a)
      | false ↦ λ t k. right_all P eqs (All-tail P (y, b) eqs a) x e k
    ] in
    go (nat_eq x y) refl h

pub function_all : (P : Function → Type 0) (fs : List Function) → All P fs → (g : ℕ) (f : Function) → function_of fs g ≡ Some f → P f
function_all P [] a g f h = absurd (cc)
function_all P (k ∷ fs) a zero f h = let same : k ≡ f = cc in subst P same (All-head P k fs a)
function_all P (k ∷ fs) a (suc g) f h = function_all P fs (All-tail P k fs a) g f h

pub function_below : (fs : List Function) (g : ℕ) (f : Function) → function_of fs g ≡ Some f → g < length fs
function_below [] g f h = absurd (cc)
function_below (k ∷ fs) zero f h = omega arith
function_below (k ∷ fs) (suc g) f h = let l = function_below fs g f h in omega (arith, l)

pub function_there : (fs : List Function) (g : ℕ) → g < length fs → (f : Function) × (function_of fs g ≡ Some f)
function_there [] g h = absurd (omega arith)
function_there (k ∷ fs) zero h = (k, refl)
function_there (k ∷ fs) (suc g) h = function_there fs g (omega arith)

-- ---- appended declarations and equations

pub appended_none : (ds : List Decl) (es : List (ℕ × Expression)) → Appended ds es [] [] ds es
appended_none ds es = record { decls_are = sym (append-nil ds); eqs_are = sym (append-nil es) }

pub appended_two : (ds ds1 ds2 more more' : List Decl) (es es1 es2 new new' : List (ℕ × Expression)) → Appended ds es more new ds1 es1 → Appended ds1 es1 more' new' ds2 es2 → Appended ds es (more ++ more') (new ++ new') ds2 es2
appended_two ds ds1 ds2 more more' es es1 es2 new new' a b = record {
  decls_are = b.decls_are ∙ ap (λ l. l ++ more') a.decls_are ∙ append_assoc ds more more';
  eqs_are = b.eqs_are ∙ ap (λ l. l ++ new') a.eqs_are ∙ append_assoc es new new';
}

pub appended_length : (ds ds' more : List Decl) (es es' new : List (ℕ × Expression)) → Appended ds es more new ds' es' → length ds' ≡ length ds + length more
appended_length ds ds' more es es' new a = ap length a.decls_are ∙ length-append ds more

-- ---- variables below a higher number

mutual
  pub below_more : (n m : ℕ) → n ≤ m → (e : Expression) → VarsBelow n e → VarsBelow m e
  below_more n m l (literal v) h = tt
  below_more n m l (variable x) h = omega arith
  below_more n m l (unary o a) h = below_more n m l a h
  below_more n m l (binary o a b) h = (below_more n m l a h.0, below_more n m l b h.1)
  below_more n m l (imported o a b) h = (below_more n m l a h.0, below_more n m l b h.1)
  below_more n m l (choose c a b) h = (below_more n m l c h.0, below_more n m l a h.1, below_more n m l b h.2)
  below_more n m l (sampled e c b) h = (below_more n m l e h.0, omega arith)
  below_more n m l (merged c a b) h = (omega arith, below_more n m l a h.1, below_more n m l b h.2)
  below_more n m l (delayed v e) h = below_more n m l e h
  below_more n m l (follow a b) h = (below_more n m l a h.0, below_more n m l b h.1)
  below_more n m l (arrow a b) h = (below_more n m l a h.0, below_more n m l b h.1)
  below_more n m l (call g args) h = arguments_below_more n m l args h

  pub arguments_below_more : (n m : ℕ) → n ≤ m → (args : Arguments) → ArgumentVarsBelow n args → ArgumentVarsBelow m args
  arguments_below_more n m l no_arguments h = tt
  arguments_below_more n m l (argument e args) h = (below_more n m l e h.0, arguments_below_more n m l args h.1)

-- ---- a function with more variables is still a good one

module _ (f : Function) (more : List Decl) (eqs : List (ℕ × Expression)) where
  abbrev pub with_more : Function
  with_more = record { name = f.name; decls = f.decls ++ more; n_in = f.n_in; outs = f.outs; eqs = eqs }

  -- where the new clocks and all right sides read its variables, and each variable that is no input has one equation
  pub more_good : GoodFunction f → All (λ d. All (λ p. p.0 < length (f.decls ++ more)) d.clock) more → All (λ q. VarsBelow (length (f.decls ++ more)) q.1) eqs → ((x : ℕ) → left_count x eqs ≡ inside f.n_in (length (f.decls ++ more)) x) → GoodFunction with_more
  more_good good clocks rights once =
      let n = length (f.decls ++ more) in
      let low : length f.decls ≤ n = let l = length-append f.decls more in omega (arith, l) in
      let front : take f.n_in (f.decls ++ more) ≡ take f.n_in f.decls = take-append-le f.n_in f.decls more good.inputs in
      record {
        inputs = let i = good.inputs in omega (arith, i, low);
        inputs_on_base = subst (All (λ d. d.clock ≡ [])) (sym front) good.inputs_on_base;
        clocks = All-append (λ d. All (λ p. p.0 < n) d.clock) f.decls more (λ k d l j p m. let i = good.clocks k d l j p m in omega (arith, i, low)) clocks;
        outs = λ k y l. let i = good.outs k y l in omega (arith, i, low);
        outs_once = good.outs_once;
        rights = rights;
        lefts = once;
      }
