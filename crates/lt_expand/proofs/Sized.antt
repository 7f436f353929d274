-- The sizes of a function with copies are those of the function with all that it calls.
use Rattle.std.proofs.Common.{◌≡◌, ℕ, zero, suc, ◌+◌, ◌*◌, List, [], ◌∷◌, length, Option, Some, None, refl, sym, ap, ◌∙◌, arith, length-append}
use Rattle.std.specs.List.{sum_by}
use Rattle.std.proofs.lemmas.List.Sums.{sum_by-cons}
use Rattle.lt_base.specs.Expression.{Expression, literal, variable, unary, binary, imported, choose, sampled, merged, delayed, follow, arrow, call, Arguments, no_arguments, argument, parts, arguments_parts}
use Rattle.lt_base.specs.Program.{Function}
use Rattle.lt_base.specs.Meaning.{function_of}
use Rattle.lt_base.specs.Sizes.{cost, arguments_cost, nested, size_of}
use Rattle.lt_base.specs.Placed.{renamed, arguments_renamed}
use Rattle.lt_expand.specs.Copies.{Library, grown, arguments_grown, copied_decls, equations_grown, equations_copies, with_copies, no_function, opened_or, expanded}
use Rattle.lt_expand.specs.Expansion.{variables_with, nested_variables}
use Rattle.lt_expand.proofs.Filled.{equations_filled, copied_length}

abbrev pub none : ℕ → ℕ
none g = 0

-- ---- under other numbers

mutual
  pub cost_renamed : (d : ℕ) (r : ℕ → ℕ) (e : Expression) → cost d none (renamed r e) ≡ cost d none e
  cost_renamed d r (literal v) = refl
  cost_renamed d r (variable x) = refl
  cost_renamed d r (unary o a) = cost_renamed d r a
  cost_renamed d r (binary o a b) = λ i. cost_renamed d r a i + cost_renamed d r b i
  cost_renamed d r (imported o a b) = λ i. cost_renamed d r a i + cost_renamed d r b i
  cost_renamed d r (choose c a b) = λ i. cost_renamed d r c i + cost_renamed d r a i + cost_renamed d r b i
  cost_renamed d r (sampled e c b) = cost_renamed d r e
  cost_renamed d r (merged c a b) = λ i. cost_renamed d r a i + cost_renamed d r b i
  cost_renamed d r (delayed v e) = λ i. d + cost_renamed d r e i
  cost_renamed d r (follow a b) = λ i. 2 * d + cost_renamed d r a i + cost_renamed d r b i
  cost_renamed d r (arrow a b) = λ i. d + cost_renamed d r a i + cost_renamed d r b i
  cost_renamed d r (call g args) = ap (λ n. 0 + n) (arguments_cost_renamed d r args)

  pub arguments_cost_renamed : (d : ℕ) (r : ℕ → ℕ) (args : Arguments) → arguments_cost d none (arguments_renamed r args) ≡ arguments_cost d none args
  arguments_cost_renamed d r no_arguments = refl
  arguments_cost_renamed d r (argument e args) = λ i. cost_renamed d r e i + arguments_cost_renamed d r args i

mutual
  pub parts_renamed : (r : ℕ → ℕ) (e : Expression) → parts (renamed r e) ≡ parts e
  parts_renamed r (literal v) = refl
  parts_renamed r (variable x) = refl
  parts_renamed r (unary o a) = λ i. 1 + parts_renamed r a i
  parts_renamed r (binary o a b) = λ i. 1 + parts_renamed r a i + parts_renamed r b i
  parts_renamed r (imported o a b) = λ i. 1 + parts_renamed r a i + parts_renamed r b i
  parts_renamed r (choose c a b) = λ i. 1 + parts_renamed r c i + parts_renamed r a i + parts_renamed r b i
  parts_renamed r (sampled e c b) = λ i. 1 + parts_renamed r e i
  parts_renamed r (merged c a b) = λ i. 1 + parts_renamed r a i + parts_renamed r b i
  parts_renamed r (delayed v e) = λ i. 1 + parts_renamed r e i
  parts_renamed r (follow a b) = λ i. 1 + parts_renamed r a i + parts_renamed r b i
  parts_renamed r (arrow a b) = λ i. 1 + parts_renamed r a i + parts_renamed r b i
  parts_renamed r (call g args) = λ i. 1 + arguments_parts_renamed r args i

  pub arguments_parts_renamed : (r : ℕ → ℕ) (args : Arguments) → arguments_parts (arguments_renamed r args) ≡ arguments_parts args
  arguments_parts_renamed r no_arguments = refl
  arguments_parts_renamed r (argument e args) = λ i. parts_renamed r e i + arguments_parts_renamed r args i

-- ---- variables

mutual
  pub grown_cost : (lib : Library) (e : Expression) → grown lib e ≡ cost 0 (λ g. length (lib g).decls) e
  grown_cost lib (literal v) = refl
  grown_cost lib (variable x) = refl
  grown_cost lib (unary o a) = grown_cost lib a
  grown_cost lib (binary o a b) = λ i. grown_cost lib a i + grown_cost lib b i
  grown_cost lib (imported o a b) = λ i. grown_cost lib a i + grown_cost lib b i
  grown_cost lib (choose c a b) = let p = grown_cost lib c in let q = grown_cost lib a in let r = grown_cost lib b in omega (arith, p, q, r)
  grown_cost lib (sampled e c b) = grown_cost lib e
  grown_cost lib (merged c a b) = λ i. grown_cost lib a i + grown_cost lib b i
  grown_cost lib (delayed v e) = let p = grown_cost lib e in omega (arith, p)
  grown_cost lib (follow a b) = let p = grown_cost lib a in let q = grown_cost lib b in omega (arith, p, q)
  grown_cost lib (arrow a b) = let p = grown_cost lib a in let q = grown_cost lib b in omega (arith, p, q)
  grown_cost lib (call g args) = let p = arguments_grown_cost lib args in omega (arith, p)

  pub arguments_grown_cost : (lib : Library) (args : Arguments) → arguments_grown lib args ≡ arguments_cost 0 (λ g. length (lib g).decls) args
  arguments_grown_cost lib no_arguments = refl
  arguments_grown_cost lib (argument e args) = λ i. grown_cost lib e i + arguments_grown_cost lib args i

equations_grown_cost : (lib : Library) (qs : List (ℕ × Expression)) → equations_grown lib qs ≡ sum_by (λ q. cost 0 (λ g. length (lib g).decls) q.1) qs
equations_grown_cost lib [] = refl
equations_grown_cost lib (q ∷ qs) =
    (λ i. grown_cost lib q.1 i + equations_grown_cost lib qs i) ∙ sym (sum_by-cons (λ (q : ℕ × Expression). cost 0 (λ g. length (lib g).decls) q.1) q qs)

opened_length : (lib : Library) (f : Function) → length (with_copies lib f).decls ≡ variables_with (λ g. length (lib g).decls) f
opened_length lib f =
    let cs = equations_copies lib f.decls (length f.decls) f.eqs in
    let l = length-append f.decls (copied_decls cs) in
    let m = copied_length cs in
    let k = (equations_filled lib f.decls (length f.decls) f.eqs).all in
    let g = equations_grown_cost lib f.eqs in
    omega (arith, l, m, k, g)

-- a size from the sizes of the called functions, where the function's own part stays
module _ (s : (ℕ → ℕ) → Function → ℕ) (own : Function → ℕ) (empty : own no_function ≡ 0) (step : (lib : Library) (f : Function) → own (with_copies lib f) ≡ s (λ g. own (lib g)) f) (fs : List Function) where
  sized_by : (n : ℕ) → ((g : ℕ) → own (expanded fs n g) ≡ nested s fs n g) → (o : Option Function) → own (opened_or (expanded fs n) o) ≡ size_of (s (nested s fs n)) o
  sized_by n ih None = empty
  sized_by n ih (Some f) = step (expanded fs n) f ∙ (λ i. s (λ g. ih g i) f)

  pub sized : (n g : ℕ) → own (expanded fs n g) ≡ nested s fs n g
  sized zero g = empty
  sized (suc n) g = sized_by n (sized n) (function_of fs g)

-- a function's version without calls has its variables with those of the functions that it calls
pub expanded_variables : (fs : List Function) (n g : ℕ) → length (expanded fs n g).decls ≡ nested_variables fs n g
expanded_variables fs = sized variables_with (λ f. length f.decls) refl opened_length fs
