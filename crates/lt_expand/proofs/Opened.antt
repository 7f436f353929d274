-- A function with copies in place of its calls keeps its variables and tells their equations.
use Rattle.std.proofs.Common.{◌≡◌, ℕ, zero, suc, ◌+◌, ◌<◌, ◌≤◌, Bool, true, false, List, [], ◌∷◌, ◌++◌, length, Option, Some, None, refl, sym, ap, ◌∙◌, subst, arith, length-append, eqb-true}
use Rattle.std.specs.Prelude.{nat_eq, if◌then◌else◌}
use Rattle.std.proofs.lemmas.List.{length-map, append_assoc}
use Rattle.lt_base.specs.declared.function.Decl.{Decl}
use Rattle.lt_base.specs.Expression.{Expression}
use Rattle.lt_base.specs.Program.{Function, GoodFunction}
use Rattle.lt_base.specs.Equations.{left_count, inside, EquationsIn, EachRight}
use Rattle.lt_base.specs.Meaning.{ClockPairs, Callee, clock_of, right_of}
use Rattle.lt_base.specs.Typing.{ty_at}
use Rattle.lt_base.specs.Placed.{renamed, below}
use Rattle.lt_base.specs.Checked.{EachUse}
use Rattle.lt_base.specs.Kept.{Keeps}
use Rattle.lt_base.proofs.Lookups.{clock_left, clock_right, ty_left, ty_right, right_left, right_right, no_right, right_counts, found, lefts_two, inside_not, inside_most}
use Rattle.lt_expand.specs.Copies.{raise, Library, Copy, grown, inlined, copies, input_equations, copy_decl, copy_decls, copy_equations, copied_decls, copied_equations, equations_grown, equations_inlined, equations_copies, with_copies}
use Rattle.lt_expand.proofs.Standing.{Each, Declared, Stands, span, Numbered}
use Rattle.lt_expand.proofs.Fitting.{Answering}
use Rattle.lt_expand.proofs.Filled.{each_left, each_right, equations_filled, copied_length}
use Rattle.lt_expand.proofs.Told.{told}
use Rattle.lt_expand.proofs.Counted.{Countable, lefts_copied, lefts_inlined}

-- ---- what is declared in a copy

copy_clock : (m : ℕ) (ck : ClockPairs) (ds : List Decl) (x : ℕ) → x < length ds → clock_of (copy_decls m ck ds) x ≡ below (raise m) (clock_of ds x) ck
copy_clock m ck [] x l = absurd (omega arith)
copy_clock m ck (d ∷ ds) zero l = refl
copy_clock m ck (d ∷ ds) (suc x) l = copy_clock m ck ds x (omega arith)

copy_type : (m : ℕ) (ck : ClockPairs) (ds : List Decl) (x : ℕ) → x < length ds → ty_at (copy_decls m ck ds) x ≡ ty_at ds x
copy_type m ck [] x l = absurd (omega arith)
copy_type m ck (d ∷ ds) zero l = refl
copy_type m ck (d ∷ ds) (suc x) l = copy_type m ck ds x (omega arith)

one_declared : (F : Function) (c : Copy) (before after : List Decl) → F.decls ≡ before ++ (copy_decls c.from c.clock c.source.decls ++ after) → length before ≡ c.from → Declared F c
one_declared F c before after e n =
    let here = copy_decls c.from c.clock c.source.decls in
    let m = length-map c.source.decls (copy_decl c.from c.clock) in
    let l = ap length e ∙ length-append before (here ++ after) in
    let k = length-append here after in
    record {
      numbers = λ x b. omega (arith, l, k, m, n, b);
      clocks = λ x b. ap (λ ds. clock_of ds (x + c.from)) e ∙ clock_right before (here ++ after) x (x + c.from) (omega (arith, n)) ∙ clock_left here after x (omega (arith, m, b)) ∙ copy_clock c.from c.clock c.source.decls x b;
      types = λ x b. ap (λ ds. ty_at ds (x + c.from)) e ∙ ty_right before (here ++ after) x (x + c.from) (omega (arith, n)) ∙ ty_left here after x (omega (arith, m, b)) ∙ copy_type c.from c.clock c.source.decls x b;
    }

all_declared : (F : Function) (before : List Decl) (cs : List Copy) → F.decls ≡ before ++ copied_decls cs → Numbered (length before) cs → Each (Declared F) cs
all_declared F before [] e n = tt
all_declared F before (c ∷ cs) e n =
    let here = copy_decls c.from c.clock c.source.decls in
    let m = length-map c.source.decls (copy_decl c.from c.clock) in
    let k = length-append before here in (
      one_declared F c before (copied_decls cs) e (sym n.0),
      all_declared F (before ++ here) cs (e ∙ sym (append_assoc before here (copied_decls cs))) (subst (λ j. Numbered j cs) (omega (arith, m, k)) n.1),
    )

-- ---- its equations

abbrev pub given_or : Option Expression → Expression → Expression
given_or None d = d
given_or (Some x) d = x

module _ (F : Function) where
  pub equations_left : (xs ys : List (ℕ × Expression)) → EquationsIn F (xs ++ ys) → EquationsIn F xs
  equations_left [] ys s = tt
  equations_left (x ∷ xs) ys s = (s.0, equations_left xs ys s.1)

  pub equations_right : (xs ys : List (ℕ × Expression)) → EquationsIn F (xs ++ ys) → EquationsIn F ys
  equations_right [] ys s = s
  equations_right (x ∷ xs) ys s = equations_right xs ys s.1

  copy_right_by : (m y x : ℕ) (a e : Expression) (o : Option Expression) → right_of F.eqs (y + m) ≡ Some (renamed (raise m) a) → (o ≡ Some e → right_of F.eqs (x + m) ≡ Some (renamed (raise m) e)) → (t : Bool) → nat_eq x y ≡ t → (if t then Some a else o) ≡ Some e → right_of F.eqs (x + m) ≡ Some (renamed (raise m) e)
  copy_right_by m y x a e o s ih true t h =
      let same : x ≡ y = eqb-true x y t in
      ap (λ z. right_of F.eqs (z + m)) same ∙ s ∙ ap (λ z. Some (renamed (raise m) z)) (ap (λ o. given_or o a) h)
  copy_right_by m y x a e o s ih false t h = ih h

  copy_right : (m : ℕ) (qs : List (ℕ × Expression)) (x : ℕ) (e : Expression) → EquationsIn F (copy_equations m qs) → right_of qs x ≡ Some e → right_of F.eqs (x + m) ≡ Some (renamed (raise m) e)
  copy_right m [] x e s h = absurd (cc)
  copy_right m ((y, a) ∷ qs) x e s h = copy_right_by m y x a e (right_of qs x) s.0 (copy_right m qs x e s.1) (nat_eq x y) refl h

  all_stand : (cs : List Copy) → Each (Declared F) cs → EquationsIn F (copied_equations cs) → Each (Stands F) cs
  all_stand [] d s = tt
  all_stand (c ∷ cs) d s =
      let ins = input_equations c.from c.inputs in
      let here = copy_equations c.from c.source.eqs in
      let own = equations_left (ins ++ here) (copied_equations cs) s in (
        record { declared = d.0; inputs = equations_left ins here own; rights = λ x e. copy_right c.from c.source.eqs x e (equations_right ins here own) },
        all_stand cs d.1 (equations_right (ins ++ here) (copied_equations cs) s),
      )

-- ---- where the copies for a right side begin

pub record Begins (lib : Library) (S : Copy → Type 0) (ds : List Decl) (high : ℕ) (P : Expression → Type 0) (qs : List (ℕ × Expression)) (x : ℕ) (e : Expression) : Type 0 where
  pub from : ℕ
  pub within : from + grown lib e ≤ high
  pub stands : right_of qs x ≡ Some (inlined lib from e)
  pub rest : Each S (copies lib from (clock_of ds x) e)
  pub fact : P e

module _ (lib : Library) (S : Copy → Type 0) (ds : List Decl) (P : Expression → Type 0) where
  begins_by : (n high y x : ℕ) (a e : Expression) (qs : List (ℕ × Expression)) → n + (grown lib a + equations_grown lib qs) ≤ high → Each S (copies lib n (clock_of ds y) a) → P a → (right_of qs x ≡ Some e → Begins lib S ds high P (equations_inlined lib (n + grown lib a) qs) x e) → (t : Bool) → nat_eq x y ≡ t → (if t then Some a else right_of qs x) ≡ Some e → Begins lib S ds high P (equations_inlined lib n ((y, a) ∷ qs)) x e
  begins_by n high y x a e qs l s p ih true t h =
      let same : x ≡ y = eqb-true x y t in
      let is : a ≡ e = ap (λ o. given_or o a) h in
      record {
        from = n;
        within = subst (λ z. n + grown lib z ≤ high) is (omega (arith, l));
        stands = ap (λ b. if b then Some (inlined lib n a) else right_of (equations_inlined lib (n + grown lib a) qs) x) t ∙ ap (λ z. Some (inlined lib n z)) is;
        rest = subst (λ z. Each S (copies lib n (clock_of ds x) z)) is (subst (λ z. Each S (copies lib n (clock_of ds z) a)) (sym same) s);
        fact = subst P is p;
      }
  begins_by n high y x a e qs l s p ih false t h =
      let b = ih h in
      record {
        from = b.from;
        within = b.within;
        stands = ap (λ b. if b then Some (inlined lib n a) else right_of (equations_inlined lib (n + grown lib a) qs) x) t ∙ b.stands;
        rest = b.rest;
        fact = b.fact;
      }

  begins : (n high : ℕ) (qs : List (ℕ × Expression)) (x : ℕ) (e : Expression) → n + equations_grown lib qs ≤ high → Each S (equations_copies lib ds n qs) → EachRight P qs → right_of qs x ≡ Some e → Begins lib S ds high P (equations_inlined lib n qs) x e
  begins n high [] x e l s p h = absurd (cc)
  begins n high ((y, a) ∷ qs) x e l s p h =
      begins_by n high y x a e qs l
      (each_left S (copies lib n (clock_of ds y) a) _ s)
      p.0
      (begins (n + grown lib a) high qs x e (omega (arith, l)) (each_right S (copies lib n (clock_of ds y) a) _ s) p.1)
      (nat_eq x y) refl h

-- ---- the function

module _ (lib : Library) (f : Function) (good : GoodFunction f) where
  abbrev pub N : ℕ
  N = length f.decls

  abbrev pub F : Function
  F = with_copies lib f

  abbrev pub cs : List Copy
  cs = equations_copies lib f.decls N f.eqs

  module _ (countable : Each Countable cs) where
    pub opened_more : length F.decls ≡ N + span cs
    opened_more = length-append f.decls (copied_decls cs) ∙ ap (λ k. N + k) (copied_length cs)

    pub opened_numbers : Numbered N cs
    opened_numbers = (equations_filled lib f.decls N f.eqs).numbered

    -- each variable that is no input has one equation
    pub opened_lefts : (x : ℕ) → left_count x F.eqs ≡ inside f.n_in (length F.decls) x
    opened_lefts x =
        let i = good.inputs in
        lefts_two x f.n_in N (length F.decls) (equations_inlined lib N f.eqs) (copied_equations cs) i (omega (arith, opened_more))
        (lefts_inlined lib x N f.eqs ∙ good.lefts x)
        (lefts_copied x N cs opened_numbers countable ∙ ap (λ k. inside N k x) (sym opened_more))

    pub opened_found : EquationsIn F F.eqs
    opened_found = found F F.eqs (λ x. subst (λ k. k ≤ 1) (sym (opened_lefts x)) (inside_most f.n_in (length F.decls) x)) (λ x l. refl)

    pub opened_stand : Each (Stands F) cs
    opened_stand =
        all_stand F cs (all_declared F f.decls cs refl opened_numbers) (equations_right F (equations_inlined lib N f.eqs) (copied_equations cs) opened_found)

    pub inlined_none : (x : ℕ) → right_of f.eqs x ≡ None → right_of (equations_inlined lib N f.eqs) x ≡ None
    inlined_none x h = no_right (equations_inlined lib N f.eqs) x (lefts_inlined lib x N f.eqs ∙ right_counts f.eqs x h)

    pub old_none : (x : ℕ) → x < N → right_of f.eqs x ≡ None → right_of F.eqs x ≡ None
    old_none x d h =
        right_right (equations_inlined lib N f.eqs) (copied_equations cs) x (inlined_none x h)
        ∙ no_right (copied_equations cs) x (lefts_copied x N cs opened_numbers countable ∙ inside_not N (N + span cs) x d)

    -- a variable of f has its right side with copies
    pub opened_begins : (S : Copy → Type 0) → Each S cs → (P : Expression → Type 0) → EachRight P f.eqs → (x : ℕ) (e : Expression) → right_of f.eqs x ≡ Some e → Begins lib S f.decls (length F.decls) P (equations_inlined lib N f.eqs) x e
    opened_begins S all P p x e h =
        let k = (equations_filled lib f.decls N f.eqs).all in
        begins lib S f.decls P N (length F.decls) f.eqs x e (omega (arith, opened_more, k)) all p h

    pub opened_right : (S : Copy → Type 0) (P : Expression → Type 0) (x : ℕ) (e : Expression) → (b : Begins lib S f.decls (length F.decls) P (equations_inlined lib N f.eqs) x e) → right_of F.eqs x ≡ Some (inlined lib b.from e)
    opened_right S P x e b = right_left (equations_inlined lib N f.eqs) (copied_equations cs) x _ b.stands

    pub opened_clocks : (x : ℕ) → x < N → clock_of F.decls x ≡ clock_of f.decls x
    opened_clocks x d = clock_left f.decls (copied_decls cs) x d

    pub opened_types : (x : ℕ) → x < N → ty_at F.decls x ≡ ty_at f.decls x
    opened_types x d = ty_left f.decls (copied_decls cs) x d

    -- every equation of f is told
    pub opened_keeps : (callee : Callee) (fs : List Function) → EachRight (EachUse (λ g n. Answering callee fs (lib g) g n)) f.eqs → Keeps callee F f
    opened_keeps callee fs uses = record {
      more = omega (arith, opened_more);
      inputs = old_none;
      clocks = opened_clocks;
      rights = λ x e d h.
          let P = EachUse (λ g n. Answering callee fs (lib g) g n) in
          let b = opened_begins (Stands F) opened_stand P uses x e h in
          record {
            form = inlined lib b.from e;
            stands = opened_right (Stands F) P x e b;
            tells = λ es rs s. told callee F es rs s fs lib e b.from (clock_of f.decls x) b.fact b.rest;
          };
    }
