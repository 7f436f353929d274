-- The parts of a function with copies are those of the function with all that it calls.
use Rattle.std.proofs.Common.{◌≡◌, ℕ, suc, ◌+◌, true, false, List, [], ◌∷◌, ◌++◌, length, refl, arith}
use Rattle.std.specs.List.{sum_by}
use Rattle.std.proofs.lemmas.List.Sums.{sum_by-cons, sum_by-append}
use Rattle.lt_base.specs.declared.function.Decl.{Decl}
use Rattle.lt_base.specs.Expression.{Expression, literal, variable, unary, binary, imported, choose, sampled, merged, delayed, follow, arrow, call, Arguments, no_arguments, argument, parts, arguments_parts}
use Rattle.lt_base.specs.Program.{Function}
use Rattle.lt_base.specs.Meaning.{ClockPairs, clock_of, outer}
use Rattle.lt_base.specs.Sizes.{cost, arguments_cost, parts_with, total_parts}
use Rattle.lt_expand.specs.Copies.{raise, Library, Copy, grown, arguments_grown, inlined, arguments_inlined, copies, arguments_copies, input_equations, copy_equation, copy_equations, copied_equations, equations_inlined, equations_copies, with_copies, expanded}
use Rattle.lt_expand.proofs.Sized.{none, cost_renamed, parts_renamed, sized}

abbrev copy_parts : Copy → ℕ
copy_parts c = (arguments_parts c.inputs + arguments_cost 0 none c.inputs) + parts_with none c.source

abbrev copies_parts : List Copy → ℕ
copies_parts [] = 0
copies_parts (c ∷ cs) = copy_parts c + copies_parts cs

parts_append : (xs ys : List Copy) → copies_parts (xs ++ ys) ≡ copies_parts xs + copies_parts ys
parts_append [] ys = omega arith
parts_append (x ∷ xs) ys = let h = parts_append xs ys in omega (arith, h)

module _ (lib : Library) where
  abbrev w : ℕ → ℕ
  w g = parts_with none (lib g)

  mutual
    inlined_parts : (e : Expression) (n : ℕ) (ck : ClockPairs) → (parts (inlined lib n e) + cost 0 none (inlined lib n e)) + copies_parts (copies lib n ck e) ≡ parts e + cost 0 w e
    inlined_parts (literal v) n ck = refl
    inlined_parts (variable x) n ck = refl
    inlined_parts (unary o a) n ck = let p = inlined_parts a n ck in omega (arith, p)
    inlined_parts (binary o a b) n ck =
        let p = inlined_parts a n ck in
        let q = inlined_parts b (n + grown lib a) ck in
        let l = parts_append (copies lib n ck a) (copies lib (n + grown lib a) ck b) in
        omega (arith, p, q, l)
    inlined_parts (imported o a b) n ck =
        let p = inlined_parts a n ck in
        let q = inlined_parts b (n + grown lib a) ck in
        let l = parts_append (copies lib n ck a) (copies lib (n + grown lib a) ck b) in
        omega (arith, p, q, l)
    inlined_parts (choose c a b) n ck =
        let p = inlined_parts c n ck in
        let q = inlined_parts a (n + grown lib c) ck in
        let r = inlined_parts b ((n + grown lib c) + grown lib a) ck in
        let l = parts_append (copies lib n ck c) (copies lib (n + grown lib c) ck a ++ copies lib ((n + grown lib c) + grown lib a) ck b) in
        let m = parts_append (copies lib (n + grown lib c) ck a) (copies lib ((n + grown lib c) + grown lib a) ck b) in
        omega (arith, p, q, r, l, m)
    inlined_parts (sampled e c b) n ck = let p = inlined_parts e n (outer ck) in omega (arith, p)
    inlined_parts (merged c a b) n ck =
        let p = inlined_parts a n ((c, true) ∷ ck) in
        let q = inlined_parts b (n + grown lib a) ((c, false) ∷ ck) in
        let l = parts_append (copies lib n ((c, true) ∷ ck) a) (copies lib (n + grown lib a) ((c, false) ∷ ck) b) in
        omega (arith, p, q, l)
    inlined_parts (delayed v e) n ck = let p = inlined_parts e n ck in omega (arith, p)
    inlined_parts (follow a b) n ck =
        let p = inlined_parts a n ck in
        let q = inlined_parts b (n + grown lib a) ck in
        let l = parts_append (copies lib n ck a) (copies lib (n + grown lib a) ck b) in
        omega (arith, p, q, l)
    inlined_parts (arrow a b) n ck =
        let p = inlined_parts a n ck in
        let q = inlined_parts b (n + grown lib a) ck in
        let l = parts_append (copies lib n ck a) (copies lib (n + grown lib a) ck b) in
        omega (arith, p, q, l)
    inlined_parts (call g args) n ck =
        let c : Copy = record { from = n + arguments_grown lib args; clock = ck; source = lib g; inputs = arguments_inlined lib n args } in
        let p = arguments_inlined_parts args n ck in
        let l = parts_append (arguments_copies lib n ck args) (c ∷ []) in
        omega (arith, p, l)

    arguments_inlined_parts : (args : Arguments) (n : ℕ) (ck : ClockPairs) → (arguments_parts (arguments_inlined lib n args) + arguments_cost 0 none (arguments_inlined lib n args)) + copies_parts (arguments_copies lib n ck args) ≡ arguments_parts args + arguments_cost 0 w args
    arguments_inlined_parts no_arguments n ck = refl
    arguments_inlined_parts (argument e args) n ck =
        let p = inlined_parts e n ck in
        let q = arguments_inlined_parts args (n + grown lib e) ck in
        let l = parts_append (copies lib n ck e) (arguments_copies lib (n + grown lib e) ck args) in
        omega (arith, p, q, l)

  abbrev Own : ℕ × Expression → ℕ
  Own q = parts q.1 + cost 0 none q.1

  equations_parts : (ds : List Decl) (n : ℕ) (qs : List (ℕ × Expression)) → sum_by Own (equations_inlined lib n qs) + copies_parts (equations_copies lib ds n qs) ≡ sum_by (λ q. parts q.1 + cost 0 w q.1) qs
  equations_parts ds n [] = refl
  equations_parts ds n (q ∷ qs) =
      let p = inlined_parts q.1 n (clock_of ds q.0) in
      let h = equations_parts ds (n + grown lib q.1) qs in
      let l = parts_append (copies lib n (clock_of ds q.0) q.1) (equations_copies lib ds (n + grown lib q.1) qs) in
      let s = sum_by-cons Own (q.0, inlined lib n q.1) (equations_inlined lib (n + grown lib q.1) qs) in
      let t = sum_by-cons (λ (q : ℕ × Expression). parts q.1 + cost 0 w q.1) q qs in
      omega (arith, p, h, l, s, t)

  inputs_parts : (m : ℕ) (args : Arguments) → sum_by Own (input_equations m args) ≡ arguments_parts args + arguments_cost 0 none args
  inputs_parts m no_arguments = refl
  inputs_parts m (argument e args) =
      let h = inputs_parts (suc m) args in
      let s = sum_by-cons Own (m, e) (input_equations (suc m) args) in
      omega (arith, h, s)

  copy_sum : (m : ℕ) (qs : List (ℕ × Expression)) → sum_by Own (copy_equations m qs) ≡ sum_by Own qs
  copy_sum m [] = refl
  copy_sum m (q ∷ qs) =
      let h = copy_sum m qs in
      let c = cost_renamed 0 (raise m) q.1 in
      let r = parts_renamed (raise m) q.1 in
      let s = sum_by-cons Own (copy_equation m q) (copy_equations m qs) in
      let t = sum_by-cons Own q qs in
      omega (arith, h, c, r, s, t)

  copied_parts : (cs : List Copy) → sum_by Own (copied_equations cs) ≡ copies_parts cs
  copied_parts [] = refl
  copied_parts (c ∷ cs) =
      let ins = input_equations c.from c.inputs in
      let own = copy_equations c.from c.source.eqs in
      let h = copied_parts cs in
      let a = sum_by-append Own (ins ++ own) (copied_equations cs) in
      let b = sum_by-append Own ins own in
      let i = inputs_parts c.from c.inputs in
      let j = copy_sum c.from c.source.eqs in
      omega (arith, h, a, b, i, j)

  opened_parts : (f : Function) → parts_with none (with_copies lib f) ≡ parts_with w f
  opened_parts f =
      let cs = equations_copies lib f.decls (length f.decls) f.eqs in
      let a = sum_by-append Own (equations_inlined lib (length f.decls) f.eqs) (copied_equations cs) in
      let e = equations_parts f.decls (length f.decls) f.eqs in
      let c = copied_parts cs in
      omega (arith, a, e, c)

pub expanded_parts : (fs : List Function) (n g : ℕ) → parts_with none (expanded fs n g) ≡ total_parts fs n g
expanded_parts fs = sized parts_with (parts_with none) refl opened_parts fs
