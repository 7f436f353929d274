-- Sizes that are cut on the way.
use Rattle.std.proofs.Common.{◌≡◌, ℕ, zero, suc, ◌+◌, ◌-◌, ◌≤◌, true, eqb-true, List, [], ◌∷◌, map, Option, Some, None, refl, sym, ap, ◌∙◌, subst, arith}
use Rattle.std.specs.Prelude.{nat_eq}
use Rattle.std.specs.List.{sum_by}
use Rattle.std.specs.Cmp.Lexicographic.{pointwise}
use Rattle.std.proofs.lemmas.List.Sums.{sum_by-cons}
use Rattle.lt_base.specs.declared.expression.Expr.{Expr}
use Rattle.lt_base.specs.declared.weights.Measure.{Measure}
use Rattle.lt_base.specs.declared.weights.Measure.TheVariants.{Weight, Parts}
use Rattle.lt_base.specs.Expression.{Expression, literal, variable, unary, binary, imported, choose, sampled, merged, delayed, follow, arrow, call, Arguments, no_arguments, argument, shape, arguments_of, parts}
use Rattle.lt_base.specs.Program.{Function}
use Rattle.lt_base.specs.Meaning.{function_of}
use Rattle.lt_base.specs.Sizes.{cost, arguments_cost, cut, in_table, size_of, nested}
use Rattle.lt_base.specs.Measured.{measured}
use Rattle.lt_base.proofs.Solution.{and_left, and_right}

pub arguments_cost-map : (d : ℕ) (w : ℕ → ℕ) (es : List Expr) → arguments_cost d w (arguments_of (map shape es)) ≡ sum_by (λ e. cost d w (shape e)) es
arguments_cost-map d w [] = refl
arguments_cost-map d w (e ∷ es) = ap (λ n. cost d w (shape e) + n) (arguments_cost-map d w es) ∙ sym (sum_by-cons (λ x. cost d w (shape x)) e es)

-- to cut on the way changes nothing
module _ (w v : ℕ → ℕ) (h : (g : ℕ) → w g ≡ cut (v g)) where
  mutual
    cut_cost : (d : ℕ) (e : Expression) → cut (cost d w e) ≡ cut (cost d v e)
    cut_cost d (literal x) = refl
    cut_cost d (variable x) = refl
    cut_cost d (unary o a) = cut_cost d a
    cut_cost d (binary o a b) = omega (arith, cut_cost d a, cut_cost d b)
    cut_cost d (imported o a b) = omega (arith, cut_cost d a, cut_cost d b)
    cut_cost d (choose c a b) = omega (arith, cut_cost d c, cut_cost d a, cut_cost d b)
    cut_cost d (sampled e c b) = cut_cost d e
    cut_cost d (merged c a b) = omega (arith, cut_cost d a, cut_cost d b)
    cut_cost d (delayed x e) = omega (arith, cut_cost d e)
    cut_cost d (follow a b) = omega (arith, cut_cost d a, cut_cost d b)
    cut_cost d (arrow a b) = omega (arith, cut_cost d a, cut_cost d b)
    cut_cost d (call g args) = omega (arith, h g, cut_arguments_cost d args)

    cut_arguments_cost : (d : ℕ) (args : Arguments) → cut (arguments_cost d w args) ≡ cut (arguments_cost d v args)
    cut_arguments_cost d no_arguments = refl
    cut_arguments_cost d (argument e args) = omega (arith, cut_cost d e, cut_arguments_cost d args)

  cut_costs : (eqs : List (ℕ × Expression)) → cut (sum_by (λ e. cost 1 w e.1) eqs) ≡ cut (sum_by (λ e. cost 1 v e.1) eqs)
  cut_costs [] = refl
  cut_costs (e ∷ eqs) =
      omega (arith, cut_cost 1 e.1, cut_costs eqs, sum_by-cons (λ (e : ℕ × Expression). cost 1 w e.1) e eqs, sum_by-cons (λ (e : ℕ × Expression). cost 1 v e.1) e eqs)

  cut_parts : (eqs : List (ℕ × Expression)) → cut (sum_by (λ e. parts e.1 + cost 0 w e.1) eqs) ≡ cut (sum_by (λ e. parts e.1 + cost 0 v e.1) eqs)
  cut_parts [] = refl
  cut_parts (e ∷ eqs) =
      omega (arith, cut_cost 0 e.1, cut_parts eqs, sum_by-cons (λ (e : ℕ × Expression). parts e.1 + cost 0 w e.1) e eqs, sum_by-cons (λ (e : ℕ × Expression). parts e.1 + cost 0 v e.1) e eqs)

  cut_measured : (m : Measure) (f : Function) → cut (measured m w f) ≡ cut (measured m v f)
  cut_measured Weight f = omega (arith, cut_costs f.eqs)
  cut_measured Parts f = cut_parts f.eqs

-- two tables that test as equal are
pub same_tables : (xs ys : List ℕ) → pointwise nat_eq xs ys ≡ true → xs ≡ ys
same_tables [] [] h = refl
same_tables [] (y ∷ ys) h = absurd (cc)
same_tables (x ∷ xs) [] h = absurd (cc)
same_tables (x ∷ xs) (y ∷ ys) h =
    let first = eqb-true x y (and_left (nat_eq x y) (pointwise nat_eq xs ys) h) in
    let rest = same_tables xs ys (and_right (nat_eq x y) (pointwise nat_eq xs ys) h) in
    λ i. first i ∷ rest i

table_of : (s : Function → ℕ) (fs : List Function) (g : ℕ) → in_table (map s fs) g ≡ size_of s (function_of fs g)
table_of s [] g = refl
table_of s (f ∷ fs) zero = refl
table_of s (f ∷ fs) (suc g) = table_of s fs g

cut_size : (s t : Function → ℕ) → ((f : Function) → s f ≡ cut (t f)) → (o : Option Function) → size_of s o ≡ cut (size_of t o)
cut_size s t h None = refl
cut_size s t h (Some f) = h f

module _ (m : Measure) (fs : List Function) where
  abbrev after_rounds : List ℕ → ℕ → Type 0
  after_rounds table n = (g : ℕ) → in_table table g ≡ cut (nested (measured m) fs n g)

  abbrev is_next : List ℕ → List ℕ → Type 0
  is_next table next = next ≡ map (λ f. cut (measured m (in_table table) f)) fs

  -- one more round
  pub one_round : (n : ℕ) (table next : List ℕ) → after_rounds table n → is_next table next → after_rounds next (suc n)
  one_round n table next h e g =
      ap (λ l. in_table l g) e
      ∙ table_of (λ f. cut (measured m (in_table table) f)) fs g
      ∙ cut_size (λ f. cut (measured m (in_table table) f)) (measured m (nested (measured m) fs n)) (cut_measured (in_table table) (nested (measured m) fs n) h m) (function_of fs g)

  -- after a round that changes nothing no later one does
  pub settled_rounds : (n : ℕ) (table : List ℕ) → after_rounds table n → is_next table table → (k : ℕ) → n ≤ k → after_rounds table k
  settled_rounds n table h e k l = let same : n + (k - n) ≡ k = omega arith in subst (after_rounds table) same (more (k - n))
    where
      more : (j : ℕ) → after_rounds table (n + j)
      more zero = let same : n + zero ≡ n = omega arith in subst (after_rounds table) (sym same) h
      more (suc j) = let same : n + suc j ≡ suc (n + j) = omega arith in subst (after_rounds table) (sym same) (one_round (n + j) table table (more j) e)
