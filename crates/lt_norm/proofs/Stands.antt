-- Lifting delays keeps the variables of a function and their streams.
use Rattle.std.proofs.Common.{◌≡◌, ℕ, suc, ◌+◌, ◌<◌, ◌≤◌, Bool, true, false, List, [], ◌∷◌, ◌++◌, length, map, Option, Some, None, refl, sym, ap, ◌∙◌, subst, arith, length-append, eqb-true, ltb-true, ltb-false}
use Rattle.std.proofs.lemmas.List.{length-map}
use Rattle.std.specs.Prelude.{nat_eq, nat_lt, if◌then◌else◌}
use Rattle.lt_base.specs.declared.function.Decl.{Decl}
use Rattle.lt_base.specs.Value.{ty_of}
use Rattle.lt_base.specs.Expression.{Expression, literal, variable, unary, binary, imported, choose, sampled, merged, delayed, follow, arrow, call}
use Rattle.lt_base.specs.Program.{Function, GoodFunction}
use Rattle.lt_base.specs.Meaning.{ClockPairs, Callee, clock_of, right_of}
use Rattle.lt_base.specs.Typing.{ty_at}
use Rattle.lt_base.specs.Kept.{Keeps}
use Rattle.std.proofs.lemmas.Bool.Decides.{nat_tests}
use Rattle.lt_base.proofs.Lookups.{not_same, same_self, clock_left, clock_right, ty_left, ty_right, right_left, right_right, beyond}
use Rattle.lt_norm.specs.Lift.{Delay, right_delays, right_lifted, right_fresh, equations_delays, equations_lifted, equations_fresh, new_decl, new_equations, lift_function, Stand}
use Rattle.lt_norm.proofs.Told.{two, fresh_length, stand_left, stand_right, told_right}

pub right_length : (n : ℕ) (ck : ClockPairs) (e : Expression) → length (right_fresh n ck e) ≡ right_delays e
right_length n ck (delayed v e) = fresh_length n ck e
right_length n ck (literal v) = fresh_length n ck (literal v)
right_length n ck (variable x) = fresh_length n ck (variable x)
right_length n ck (unary o a) = fresh_length n ck (unary o a)
right_length n ck (binary o a b) = fresh_length n ck (binary o a b)
right_length n ck (imported o a b) = fresh_length n ck (imported o a b)
right_length n ck (choose c a b) = fresh_length n ck (choose c a b)
right_length n ck (sampled e c b) = fresh_length n ck (sampled e c b)
right_length n ck (merged c a b) = fresh_length n ck (merged c a b)
right_length n ck (follow a b) = refl
right_length n ck (arrow a b) = refl
right_length n ck (call g args) = refl

pub equations_length : (ds : List Decl) (n : ℕ) (qs : List (ℕ × Expression)) → length (equations_fresh ds n qs) ≡ equations_delays qs
equations_length ds n [] = refl
equations_length ds n (q ∷ qs) = two _ _ _ _ (right_length n (clock_of ds q.0) q.1) (equations_length ds (n + right_delays q.1) qs)

-- ---- the new variables stand

module _ (F : Function) where
  stands_by : (n : ℕ) (rs : List Delay) → n + length rs ≤ length F.decls → ((i x : ℕ) → x ≡ n + i → clock_of F.decls x ≡ clock_of (map new_decl rs) i) → ((i x : ℕ) → x ≡ n + i → ty_at F.decls x ≡ ty_at (map new_decl rs) i) → ((x : ℕ) → n ≤ x → right_of F.eqs x ≡ right_of (new_equations n rs) x) → Stand F n rs
  stands_by n [] l c t q = tt
  stands_by n (r ∷ rs) l c t q =
      let k = delayed r.1 r.2 in (
        omega arith,
        c 0 n (omega arith),
        t 0 n (omega arith),
        q n (omega arith) ∙ ap (λ b. if b then Some k else right_of (new_equations (suc n) rs) n) (same_self n),
        stands_by (suc n) rs (omega (arith, l)) (λ i x e. c (suc i) x (omega (arith, e))) (λ i x e. t (suc i) x (omega (arith, e))) (λ x h. q x (omega (arith, h)) ∙ ap (λ b. if b then Some k else right_of (new_equations (suc n) rs) x) (not_same x n h)),
      )

-- ---- old right sides

lifted_none_by : (e e' : Expression) (t : Bool) (o o' : Option Expression) → (o ≡ None → o' ≡ None) → (if t then Some e else o) ≡ None → (if t then Some e' else o') ≡ None
lifted_none_by e e' true o o' ih h = absurd (cc)
lifted_none_by e e' false o o' ih h = ih h

pub lifted_none : (n : ℕ) (qs : List (ℕ × Expression)) (x : ℕ) → right_of qs x ≡ None → right_of (equations_lifted n qs) x ≡ None
lifted_none n [] x h = refl
lifted_none n ((y, e) ∷ qs) x h = lifted_none_by e (right_lifted n e) (nat_eq x y) _ _ (lifted_none (n + right_delays e) qs x) h

pub new_none : (n : ℕ) (rs : List Delay) (x : ℕ) → x < n → right_of (new_equations n rs) x ≡ None
new_none n [] x h = refl
new_none n (r ∷ rs) x h =
    ap (λ b. if b then Some (delayed r.1 r.2) else right_of (new_equations (suc n) rs) x) (not_below x n h) ∙ new_none (suc n) rs x (omega arith)
  where
    not_below : (x n : ℕ) → x < n → nat_eq x n ≡ false
    not_below x n h = grind (arith, nat_tests)

-- where the lifted delays of a right side begin
pub record Begins (F : Function) (ds : List Decl) (lo : ℕ) (qs : List (ℕ × Expression)) (x : ℕ) (e : Expression) : Type 0 where
  pub from : ℕ
  pub low : lo ≤ from
  pub stands : right_of qs x ≡ Some (right_lifted from e)
  pub rest : Stand F from (right_fresh from (clock_of ds x) e)

abbrev pub some_or : Option Expression → Expression → Expression
some_or None d = d
some_or (Some x) d = x

module _ (F : Function) (ds : List Decl) where
  begins_by : (n y x : ℕ) (a e : Expression) (qs : List (ℕ × Expression)) → Stand F n (right_fresh n (clock_of ds y) a ++ equations_fresh ds (n + right_delays a) qs) → (right_of qs x ≡ Some e → Begins F ds (n + right_delays a) (equations_lifted (n + right_delays a) qs) x e) → (t : Bool) → nat_eq x y ≡ t → (if t then Some a else right_of qs x) ≡ Some e → Begins F ds n (equations_lifted n ((y, a) ∷ qs)) x e
  begins_by n y x a e qs s ih true t h =
      let same : x ≡ y = eqb-true x y t in
      let is : a ≡ e = ap (λ o. some_or o a) h in
      record {
        from = n;
        low = omega arith;
        stands = ap (λ b. if b then Some (right_lifted n a) else right_of (equations_lifted (n + right_delays a) qs) x) t ∙ ap (λ z. Some (right_lifted n z)) is;
        rest = subst (λ z. Stand F n (right_fresh n (clock_of ds x) z)) is (subst (λ z. Stand F n (right_fresh n (clock_of ds z) a)) (sym same) (stand_left F n _ _ s));
      }
  begins_by n y x a e qs s ih false t h =
      let b = ih h in
      record {
        from = b.from;
        low = (let l = b.low in omega (arith, l));
        stands = ap (λ b. if b then Some (right_lifted n a) else right_of (equations_lifted (n + right_delays a) qs) x) t ∙ b.stands;
        rest = b.rest;
      }

  begins : (n : ℕ) (qs : List (ℕ × Expression)) (x : ℕ) (e : Expression) → Stand F n (equations_fresh ds n qs) → right_of qs x ≡ Some e → Begins F ds n (equations_lifted n qs) x e
  begins n [] x e s h = absurd (cc)
  begins n ((y, a) ∷ qs) x e s h =
      begins_by n y x a e qs s (begins (n + right_delays a) qs x e (stand_right F n _ _ _ (right_length n (clock_of ds y) a) s)) (nat_eq x y) refl h

-- ---- facts of rows

-- a fact of each lifted delay
abbrev pub Rows : (Delay → Type 0) → List Delay → Type 0
Rows P [] = Unit {0}
Rows P (r ∷ rs) = P r × Rows P rs

pub rows_append : (P : Delay → Type 0) (xs ys : List Delay) → Rows P xs → Rows P ys → Rows P (xs ++ ys)
rows_append P [] ys p q = q
rows_append P (x ∷ xs) ys p q = (p.0, rows_append P xs ys p.1 q)

module _ (F : Function) (P : Delay → Type 0) (Q : ℕ → Expression → Type 0) (holds : (z : ℕ) (r : Delay) → P r → clock_of F.decls z ≡ r.0 → ty_at F.decls z ≡ Some (ty_of r.1) → Q z (delayed r.1 r.2)) where
  row_by : (n z : ℕ) (r : Delay) (e : Expression) (o : Option Expression) → clock_of F.decls n ≡ r.0 → ty_at F.decls n ≡ Some (ty_of r.1) → P r → (o ≡ Some e → Q z e) → (t : Bool) → nat_eq z n ≡ t → (if t then Some (delayed r.1 r.2) else o) ≡ Some e → Q z e
  row_by n z r e o c k p ih true t h =
      let same : z ≡ n = eqb-true z n t in
      subst (Q z) (ap (λ o. some_or o e) h) (holds z r p (ap (clock_of F.decls) same ∙ c) (ap (ty_at F.decls) same ∙ k))
  row_by n z r e o c k p ih false t h = ih h

  row_at : (n : ℕ) (rs : List Delay) (z : ℕ) (e : Expression) → Stand F n rs → Rows P rs → right_of (new_equations n rs) z ≡ Some e → Q z e
  row_at n [] z e s k h = absurd (cc)
  row_at n (r ∷ rs) z e s k h = row_by n z r e _ s.1 s.2 k.0 (row_at (suc n) rs z e s.4 k.1) (nat_eq z n) refl h

-- ---- the function with lifted delays

module _ (f : Function) (good : GoodFunction f) where
  abbrev pub rows : List Delay
  rows = equations_fresh f.decls (length f.decls) f.eqs

  abbrev pub F : Function
  F = lift_function f

  pub lift_more : length F.decls ≡ length f.decls + length rows
  lift_more = length-append f.decls (map new_decl rows) ∙ ap (λ k. length f.decls + k) (length-map rows new_decl)

  pub lift_stands : Stand F (length f.decls) rows
  lift_stands =
      stands_by F (length f.decls) rows (omega (arith, lift_more)) (λ i x e. clock_right f.decls (map new_decl rows) i x e) (λ i x e. ty_right f.decls (map new_decl rows) i x e) (λ x h. right_right (equations_lifted (length f.decls) f.eqs) (new_equations (length f.decls) rows) x (lifted_none (length f.decls) f.eqs x (beyond f good x h)))

  -- an old variable's new right side
  pub lift_begins : (x : ℕ) (e : Expression) → right_of f.eqs x ≡ Some e → Begins F f.decls (length f.decls) (equations_lifted (length f.decls) f.eqs) x e
  lift_begins x e h = begins F f.decls (length f.decls) f.eqs x e lift_stands h

  -- a fact of every equation, from one of those of f and one of the lifted delays
  module _ (Q : ℕ → Expression → Type 0) (P : Delay → Type 0) (old : (x : ℕ) (e : Expression) → x < length f.decls → right_of f.eqs x ≡ Some e → (n : ℕ) → length f.decls ≤ n → Stand F n (right_fresh n (clock_of f.decls x) e) → Q x (right_lifted n e)) (each : Rows P rows) (holds : (z : ℕ) (r : Delay) → length f.decls ≤ z → P r → clock_of F.decls z ≡ r.0 → ty_at F.decls z ≡ Some (ty_of r.1) → Q z (delayed r.1 r.2)) where
    at_old : (x : ℕ) → x < length f.decls → (e' : Expression) → right_of F.eqs x ≡ Some e' → (o : Option Expression) → right_of f.eqs x ≡ o → Q x e'
    at_old x d e' h None q =
        absurd (nothing (sym (right_right (equations_lifted (length f.decls) f.eqs) (new_equations (length f.decls) rows) x (lifted_none (length f.decls) f.eqs x q) ∙ new_none (length f.decls) rows x d) ∙ h))
      where
        nothing : None ≡ Some e' → ⊥
        nothing p = absurd (cc)
    at_old x d e' h (Some e) q =
        let b = lift_begins x e q in
        let same : right_lifted b.from e ≡ e' = ap (λ o. some_or o e') (sym (right_left (equations_lifted (length f.decls) f.eqs) (new_equations (length f.decls) rows) x _ b.stands) ∙ h) in
        subst (Q x) same (old x e d q b.from b.low b.rest)

    at_new : (x : ℕ) → length f.decls ≤ x → (e' : Expression) → right_of F.eqs x ≡ Some e' → Q x e'
    at_new x l e' h =
        let h' = sym (right_right (equations_lifted (length f.decls) f.eqs) (new_equations (length f.decls) rows) x (lifted_none (length f.decls) f.eqs x (beyond f good x l))) ∙ h in
        row_at F P (λ z e. length f.decls ≤ z → Q z e) (λ z r p c t l. holds z r l p c t) (length f.decls) rows x e' lift_stands each h' l

    at_any : (x : ℕ) (e' : Expression) → right_of F.eqs x ≡ Some e' → (t : Bool) → nat_lt x (length f.decls) ≡ t → Q x e'
    at_any x e' h true t = at_old x (ltb-true x (length f.decls) t) e' h (right_of f.eqs x) refl
    at_any x e' h false t = at_new x (ltb-false x (length f.decls) t) e' h

    pub each_equation : (x : ℕ) (e : Expression) → right_of F.eqs x ≡ Some e → Q x e
    each_equation x e h = at_any x e h (nat_lt x (length f.decls)) refl

  pub lift_clocks : (x : ℕ) → x < length f.decls → clock_of F.decls x ≡ clock_of f.decls x
  lift_clocks x d = clock_left f.decls (map new_decl rows) x d

  pub lift_types : (x : ℕ) → x < length f.decls → ty_at F.decls x ≡ ty_at f.decls x
  lift_types x d = ty_left f.decls (map new_decl rows) x d

  -- every equation of f is told
  pub lift_keeps : (callee : Callee) → Keeps callee F f
  lift_keeps callee = record {
    more = omega (arith, lift_more);
    inputs = λ x d h. right_right (equations_lifted (length f.decls) f.eqs) (new_equations (length f.decls) rows) x (lifted_none (length f.decls) f.eqs x h) ∙ new_none (length f.decls) rows x d;
    clocks = lift_clocks;
    rights = λ x e d h.
        let b = lift_begins x e h in
        record {
          form = right_lifted b.from e;
          stands = right_left (equations_lifted (length f.decls) f.eqs) (new_equations (length f.decls) rows) x _ b.stands;
          tells = λ es rs s. told_right callee F es rs s e b.from (clock_of f.decls x) b.rest;
        };
  }
