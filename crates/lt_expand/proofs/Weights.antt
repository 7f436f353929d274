-- The weight of a function with copies is that of the function with all that it calls.
use Rattle.std.proofs.Common.{◌≡◌, ℕ, suc, ◌+◌, true, false, List, [], ◌∷◌, ◌++◌, length, map, refl, arith, length-append}
use Rattle.std.specs.List.{sum_by}
use Rattle.std.proofs.lemmas.List.{length-map}
use Rattle.std.proofs.lemmas.List.Sums.{sum_by-cons, sum_by-append}
use Rattle.lt_base.specs.declared.function.Decl.{Decl}
use Rattle.lt_base.specs.Expression.{Expression, literal, variable, unary, binary, imported, choose, sampled, merged, delayed, follow, arrow, call, Arguments, no_arguments, argument}
use Rattle.lt_base.specs.Program.{Function}
use Rattle.lt_base.specs.Meaning.{ClockPairs, clock_of, outer}
use Rattle.lt_base.specs.Sizes.{cost, arguments_cost, weight_with, weight}
use Rattle.lt_expand.specs.Copies.{raise, Library, Copy, grown, arguments_grown, inlined, arguments_inlined, copies, arguments_copies, copy_decl, input_equations, copy_equation, copy_equations, copied_decls, copied_equations, equations_inlined, equations_copies, with_copies, expanded}
use Rattle.lt_expand.proofs.Sized.{none, cost_renamed, sized}

abbrev copy_weight : Copy → ℕ
copy_weight c = arguments_cost 1 none c.inputs + weight_with none c.source

abbrev copies_weight : List Copy → ℕ
copies_weight [] = 0
copies_weight (c ∷ cs) = copy_weight c + copies_weight cs

weight_append : (xs ys : List Copy) → copies_weight (xs ++ ys) ≡ copies_weight xs + copies_weight ys
weight_append [] ys = omega arith
weight_append (x ∷ xs) ys = let h = weight_append xs ys in omega (arith, h)

module _ (lib : Library) where
  abbrev w : ℕ → ℕ
  w g = weight_with none (lib g)

  mutual
    inlined_weight : (e : Expression) (n : ℕ) (ck : ClockPairs) → cost 1 none (inlined lib n e) + copies_weight (copies lib n ck e) ≡ cost 1 w e
    inlined_weight (literal v) n ck = refl
    inlined_weight (variable x) n ck = refl
    inlined_weight (unary o a) n ck = inlined_weight a n ck
    inlined_weight (binary o a b) n ck =
        let p = inlined_weight a n ck in
        let q = inlined_weight b (n + grown lib a) ck in
        let l = weight_append (copies lib n ck a) (copies lib (n + grown lib a) ck b) in
        omega (arith, p, q, l)
    inlined_weight (imported o a b) n ck =
        let p = inlined_weight a n ck in
        let q = inlined_weight b (n + grown lib a) ck in
        let l = weight_append (copies lib n ck a) (copies lib (n + grown lib a) ck b) in
        omega (arith, p, q, l)
    inlined_weight (choose c a b) n ck =
        let p = inlined_weight c n ck in
        let q = inlined_weight a (n + grown lib c) ck in
        let r = inlined_weight b ((n + grown lib c) + grown lib a) ck in
        let l = weight_append (copies lib n ck c) (copies lib (n + grown lib c) ck a ++ copies lib ((n + grown lib c) + grown lib a) ck b) in
        let m = weight_append (copies lib (n + grown lib c) ck a) (copies lib ((n + grown lib c) + grown lib a) ck b) in
        omega (arith, p, q, r, l, m)
    inlined_weight (sampled e c b) n ck = inlined_weight e n (outer ck)
    inlined_weight (merged c a b) n ck =
        let p = inlined_weight a n ((c, true) ∷ ck) in
        let q = inlined_weight b (n + grown lib a) ((c, false) ∷ ck) in
        let l = weight_append (copies lib n ((c, true) ∷ ck) a) (copies lib (n + grown lib a) ((c, false) ∷ ck) b) in
        omega (arith, p, q, l)
    inlined_weight (delayed v e) n ck = let p = inlined_weight e n ck in omega (arith, p)
    inlined_weight (follow a b) n ck =
        let p = inlined_weight a n ck in
        let q = inlined_weight b (n + grown lib a) ck in
        let l = weight_append (copies lib n ck a) (copies lib (n + grown lib a) ck b) in
        omega (arith, p, q, l)
    inlined_weight (arrow a b) n ck =
        let p = inlined_weight a n ck in
        let q = inlined_weight b (n + grown lib a) ck in
        let l = weight_append (copies lib n ck a) (copies lib (n + grown lib a) ck b) in
        omega (arith, p, q, l)
    inlined_weight (call g args) n ck =
        let c : Copy = record { from = n + arguments_grown lib args; clock = ck; source = lib g; inputs = arguments_inlined lib n args } in
        let p = arguments_inlined_weight args n ck in
        let l = weight_append (arguments_copies lib n ck args) (c ∷ []) in
        omega (arith, p, l)

    arguments_inlined_weight : (args : Arguments) (n : ℕ) (ck : ClockPairs) → arguments_cost 1 none (arguments_inlined lib n args) + copies_weight (arguments_copies lib n ck args) ≡ arguments_cost 1 w args
    arguments_inlined_weight no_arguments n ck = refl
    arguments_inlined_weight (argument e args) n ck =
        let p = inlined_weight e n ck in
        let q = arguments_inlined_weight args (n + grown lib e) ck in
        let l = weight_append (copies lib n ck e) (arguments_copies lib (n + grown lib e) ck args) in
        omega (arith, p, q, l)

  abbrev Own : ℕ × Expression → ℕ
  Own q = cost 1 none q.1

  equations_weight : (ds : List Decl) (n : ℕ) (qs : List (ℕ × Expression)) → sum_by Own (equations_inlined lib n qs) + copies_weight (equations_copies lib ds n qs) ≡ sum_by (λ q. cost 1 w q.1) qs
  equations_weight ds n [] = refl
  equations_weight ds n (q ∷ qs) =
      let p = inlined_weight q.1 n (clock_of ds q.0) in
      let h = equations_weight ds (n + grown lib q.1) qs in
      let l = weight_append (copies lib n (clock_of ds q.0) q.1) (equations_copies lib ds (n + grown lib q.1) qs) in
      let s = sum_by-cons Own (q.0, inlined lib n q.1) (equations_inlined lib (n + grown lib q.1) qs) in
      let t = sum_by-cons (λ (q : ℕ × Expression). cost 1 w q.1) q qs in
      omega (arith, p, h, l, s, t)

  inputs_weight : (m : ℕ) (args : Arguments) → sum_by Own (input_equations m args) ≡ arguments_cost 1 none args
  inputs_weight m no_arguments = refl
  inputs_weight m (argument e args) =
      let h = inputs_weight (suc m) args in
      let s = sum_by-cons Own (m, e) (input_equations (suc m) args) in
      omega (arith, h, s)

  copy_sum : (m : ℕ) (qs : List (ℕ × Expression)) → sum_by Own (copy_equations m qs) ≡ sum_by Own qs
  copy_sum m [] = refl
  copy_sum m (q ∷ qs) =
      let h = copy_sum m qs in
      let c = cost_renamed 1 (raise m) q.1 in
      let s = sum_by-cons Own (copy_equation m q) (copy_equations m qs) in
      let t = sum_by-cons Own q qs in
      omega (arith, h, c, s, t)

  copied_weight : (cs : List Copy) → length (copied_decls cs) + sum_by Own (copied_equations cs) ≡ copies_weight cs
  copied_weight [] = refl
  copied_weight (c ∷ cs) =
      let ins = input_equations c.from c.inputs in
      let own = copy_equations c.from c.source.eqs in
      let h = copied_weight cs in
      let a = sum_by-append Own (ins ++ own) (copied_equations cs) in
      let b = sum_by-append Own ins own in
      let i = inputs_weight c.from c.inputs in
      let j = copy_sum c.from c.source.eqs in
      let l = length-append (map (copy_decl c.from c.clock) c.source.decls) (copied_decls cs) in
      let m = length-map c.source.decls (copy_decl c.from c.clock) in
      omega (arith, h, a, b, i, j, l, m)

  opened_weight : (f : Function) → weight_with none (with_copies lib f) ≡ weight_with w f
  opened_weight f =
      let cs = equations_copies lib f.decls (length f.decls) f.eqs in
      let l = length-append f.decls (copied_decls cs) in
      let a = sum_by-append Own (equations_inlined lib (length f.decls) f.eqs) (copied_equations cs) in
      let e = equations_weight f.decls (length f.decls) f.eqs in
      let c = copied_weight cs in
      omega (arith, l, a, e, c)

pub expanded_weight : (fs : List Function) (n g : ℕ) → weight_with none (expanded fs n g) ≡ weight fs n g
expanded_weight fs = sized weight_with (weight_with none) refl opened_weight fs
