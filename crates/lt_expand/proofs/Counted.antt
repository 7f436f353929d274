-- Each variable of a copy has one equation.
use Rattle.std.proofs.Common.{◌≡◌, ℕ, suc, ◌+◌, ◌-◌, ◌<◌, Bool, true, false, cond, List, [], ◌∷◌, ◌++◌, length, refl, sym, ap, ◌∙◌, arith, ltb-true, ltb-false}
use Rattle.std.specs.Prelude.{nat_eq, nat_lt}
use Rattle.std.proofs.lemmas.Bool.Decides.{nat_tests}
use Rattle.lt_base.specs.Expression.{Expression, Arguments, no_arguments, argument}
use Rattle.lt_base.specs.Program.{Function, GoodFunction}
use Rattle.lt_base.specs.Checked.{argument_count}
use Rattle.lt_base.specs.Equations.{left_count, inside}
use Rattle.lt_base.proofs.Lookups.{lefts_cons, lefts_two, inside_none, inside_one}
use Rattle.lt_expand.specs.Copies.{Library, Copy, grown, inlined, input_equations, copy_equation, copy_equations, copied_equations, equations_inlined}
use Rattle.lt_expand.proofs.Standing.{Each, span, Numbered}

-- what a copy needs for this: a good source, and as many arguments as that has inputs
pub record Countable (c : Copy) : Type 0 where
  pub good : GoodFunction c.source
  pub arity : argument_count c.inputs ≡ c.source.n_in

lefts_inputs : (x m : ℕ) (args : Arguments) → left_count x (input_equations m args) ≡ inside m (m + argument_count args) x
lefts_inputs x m no_arguments = sym (inside_none m x)
lefts_inputs x m (argument e args) =
    lefts_cons x (m, e) (input_equations (suc m) args)
    ∙ ap (λ k. cond (nat_eq x m) 1 0 + k) (lefts_inputs x (suc m) args)
    ∙ inside_one m (argument_count args) x
    ∙ ap (λ k. inside m (m + k) x) (omega arith)

raised_same : (x y m : ℕ) → nat_eq (x + m) (y + m) ≡ nat_eq x y
raised_same x y m = grind (arith, nat_tests)

raised_not : (x y m : ℕ) → x < m → nat_eq x (y + m) ≡ false
raised_not x y m h = grind (arith, nat_tests)

lefts_above : (x m : ℕ) (qs : List (ℕ × Expression)) → left_count (x + m) (copy_equations m qs) ≡ left_count x qs
lefts_above x m [] = refl
lefts_above x m (q ∷ qs) =
    lefts_cons (x + m) (copy_equation m q) (copy_equations m qs)
    ∙ (λ i. cond (raised_same x q.0 m i) 1 0 + lefts_above x m qs i)
    ∙ sym (lefts_cons x q qs)

lefts_below : (x m : ℕ) (qs : List (ℕ × Expression)) → x < m → left_count x (copy_equations m qs) ≡ 0
lefts_below x m [] h = refl
lefts_below x m (q ∷ qs) h =
    lefts_cons x (copy_equation m q) (copy_equations m qs) ∙ (λ i. cond (raised_not x q.0 m h i) 1 0 + lefts_below x m qs h i)

lefts_copy : (h : Function) → GoodFunction h → (x m : ℕ) → left_count x (copy_equations m h.eqs) ≡ inside (m + h.n_in) (m + length h.decls) x
lefts_copy h good x m = go (nat_lt x m) refl
  where
    below_it : (n k : ℕ) → x < m → 0 ≡ inside (m + n) (m + k) x
    below_it n k l = grind (arith, nat_tests)

    above_it : (n k y : ℕ) → x ≡ y + m → inside n k y ≡ inside (m + n) (m + k) x
    above_it n k y l = grind (arith, nat_tests)

    up : (y : ℕ) → x ≡ y + m → left_count x (copy_equations m h.eqs) ≡ inside (m + h.n_in) (m + length h.decls) x
    up y e = ap (λ z. left_count z (copy_equations m h.eqs)) e ∙ lefts_above y m h.eqs ∙ good.lefts y ∙ above_it h.n_in (length h.decls) y e

    go : (t : Bool) → nat_lt x m ≡ t → left_count x (copy_equations m h.eqs) ≡ inside (m + h.n_in) (m + length h.decls) x
    go true t = let l = ltb-true x m t in lefts_below x m h.eqs l ∙ below_it h.n_in (length h.decls) l
    go false t = let l = ltb-false x m t in up (x - m) (omega (arith, l))

lefts_one : (x : ℕ) (c : Copy) → Countable c → left_count x (input_equations c.from c.inputs ++ copy_equations c.from c.source.eqs) ≡ inside c.from (c.from + length c.source.decls) x
lefts_one x c h =
    let i = h.good.inputs in
    lefts_two x c.from (c.from + c.source.n_in) (c.from + length c.source.decls) (input_equations c.from c.inputs) (copy_equations c.from c.source.eqs) (omega arith) (omega (arith, i))
    (lefts_inputs x c.from c.inputs ∙ ap (λ k. inside c.from (c.from + k) x) h.arity)
    (lefts_copy c.source h.good x c.from)

-- the equations of copies are those of their numbers, each once
pub lefts_copied : (x n : ℕ) (cs : List Copy) → Numbered n cs → Each Countable cs → left_count x (copied_equations cs) ≡ inside n (n + span cs) x
lefts_copied x n [] m u = sym (inside_none n x)
lefts_copied x n (c ∷ cs) m u =
    let k = n + length c.source.decls in
    lefts_two x n k (n + (length c.source.decls + span cs)) (input_equations c.from c.inputs ++ copy_equations c.from c.source.eqs) (copied_equations cs) (omega arith) (omega arith)
    (lefts_one x c u.0 ∙ ap (λ j. inside j (j + length c.source.decls) x) m.0)
    (lefts_copied x k cs m.1 u.1 ∙ ap (λ j. inside k j x) (omega arith))

pub lefts_inlined : (lib : Library) (x n : ℕ) (qs : List (ℕ × Expression)) → left_count x (equations_inlined lib n qs) ≡ left_count x qs
lefts_inlined lib x n [] = refl
lefts_inlined lib x n (q ∷ qs) =
    lefts_cons x (q.0, inlined lib n q.1) (equations_inlined lib (n + grown lib q.1) qs)
    ∙ ap (λ k. cond (nat_eq x q.0) 1 0 + k) (lefts_inlined lib x (n + grown lib q.1) qs)
    ∙ sym (lefts_cons x q qs)
