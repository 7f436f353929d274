-- The sizes of functions that do not call themselves add up.
use Rattle.std.proofs.Common.{◌≡◌, ℕ, zero, suc, ◌+◌, ◌*◌, ◌<◌, List, [], ◌∷◌, length, Option, Some, None, refl, sym, ap, ◌∙◌, arith}
use Rattle.std.specs.List.{sum_by}
use Rattle.std.proofs.lemmas.List.Sums.{sum_by-cons}
use Rattle.lt_base.specs.Expression.{Expression, literal, variable, unary, binary, imported, choose, sampled, merged, delayed, follow, arrow, call, Arguments, no_arguments, argument, parts}
use Rattle.lt_base.specs.Program.{Function}
use Rattle.lt_base.specs.Meaning.{function_of}
use Rattle.lt_base.specs.Dependence.{has}
use Rattle.lt_base.specs.Calls.{called, equations_called, function_called, CallsFunction, NotRecursive, EachCall, EachArgumentCall}
use Rattle.lt_base.specs.Sizes.{cost, arguments_cost, weight_with, parts_with, size_of, nested, AddsUp}
use Rattle.lt_base.proofs.Reading.{Members, members_front, members_back}
use Rattle.lt_base.proofs.Heights.{each_call_from, height_of, height_lower, height_low}
use Rattle.lt_base.proofs.Lookups.{function_below}

module _ (w v : ℕ → ℕ) where
  abbrev Alike : ℕ → Type 0
  Alike g = w g ≡ v g

  mutual
    cost_alike : (d : ℕ) (e : Expression) → EachCall Alike e → cost d w e ≡ cost d v e
    cost_alike d (literal x) r = refl
    cost_alike d (variable x) r = refl
    cost_alike d (unary o a) r = cost_alike d a r
    cost_alike d (binary o a b) r = λ i. cost_alike d a r.0 i + cost_alike d b r.1 i
    cost_alike d (imported o a b) r = λ i. cost_alike d a r.0 i + cost_alike d b r.1 i
    cost_alike d (choose c a b) r = λ i. cost_alike d c r.0 i + cost_alike d a r.1 i + cost_alike d b r.2 i
    cost_alike d (sampled e c b) r = cost_alike d e r
    cost_alike d (merged c a b) r = λ i. cost_alike d a r.0 i + cost_alike d b r.1 i
    cost_alike d (delayed x e) r = λ i. d + cost_alike d e r i
    cost_alike d (follow a b) r = λ i. 2 * d + cost_alike d a r.0 i + cost_alike d b r.1 i
    cost_alike d (arrow a b) r = λ i. d + cost_alike d a r.0 i + cost_alike d b r.1 i
    cost_alike d (call g args) r = λ i. r.0 i + arguments_cost_alike d args r.1 i

    arguments_cost_alike : (d : ℕ) (args : Arguments) → EachArgumentCall Alike args → arguments_cost d w args ≡ arguments_cost d v args
    arguments_cost_alike d no_arguments r = refl
    arguments_cost_alike d (argument e args) r = λ i. cost_alike d e r.0 i + arguments_cost_alike d args r.1 i

  costs_alike : (eqs : List (ℕ × Expression)) → Members Alike (equations_called eqs) → sum_by (λ e. cost 1 w e.1) eqs ≡ sum_by (λ e. cost 1 v e.1) eqs
  costs_alike [] m = refl
  costs_alike (q ∷ eqs) m =
      let here = cost_alike 1 q.1 (each_call_from Alike q.1 (members_front Alike (called q.1) (equations_called eqs) m)) in
      let later = costs_alike eqs (members_back Alike (called q.1) (equations_called eqs) m) in
      sum_by-cons (λ (e : ℕ × Expression). cost 1 w e.1) q eqs ∙ (λ i. here i + later i) ∙ sym (sum_by-cons (λ (e : ℕ × Expression). cost 1 v e.1) q eqs)

  parts_alike : (eqs : List (ℕ × Expression)) → Members Alike (equations_called eqs) → sum_by (λ e. parts e.1 + cost 0 w e.1) eqs ≡ sum_by (λ e. parts e.1 + cost 0 v e.1) eqs
  parts_alike [] m = refl
  parts_alike (q ∷ eqs) m =
      let here = cost_alike 0 q.1 (each_call_from Alike q.1 (members_front Alike (called q.1) (equations_called eqs) m)) in
      let later = parts_alike eqs (members_back Alike (called q.1) (equations_called eqs) m) in
      sum_by-cons (λ (e : ℕ × Expression). parts e.1 + cost 0 w e.1) q eqs
      ∙ (λ i. (parts q.1 + here i) + later i)
      ∙ sym (sum_by-cons (λ (e : ℕ × Expression). parts e.1 + cost 0 v e.1) q eqs)

-- a size that looks at the sizes of the called functions alone
abbrev IsLocal : ((ℕ → ℕ) → Function → ℕ) → Type 0
IsLocal s = (w v : ℕ → ℕ) (f : Function) → Members (λ g. w g ≡ v g) (equations_called f.eqs) → s w f ≡ s v f

weight_local : IsLocal weight_with
weight_local w v f m = ap (λ n. length f.decls + n) (costs_alike w v f.eqs m)

parts_local : IsLocal parts_with
parts_local w v f m = parts_alike w v f.eqs m

module _ (fs : List Function) (not_recursive : NotRecursive fs) (s : (ℕ → ℕ) → Function → ℕ) (local : IsLocal s) where
  abbrev height : ℕ → ℕ
  height = height_of fs not_recursive

  -- a called function is one of the program, and lower; or it is none, and has the size 0
  lower_or_none : (g h : ℕ) (o : Option Function) → function_of fs h ≡ o → CallsFunction fs g h → (n m : ℕ) → ((h : ℕ) → height h < height g → nested s fs n h ≡ nested s fs m h) → nested s fs n h ≡ nested s fs m h
  lower_or_none g h None q c n m ih = none n ∙ sym (none m)
    where
      none : (k : ℕ) → nested s fs k h ≡ 0
      none zero = refl
      none (suc k) = ap (size_of (s (nested s fs k))) q
  lower_or_none g h (Some f) q c n m ih = ih h (height_lower fs not_recursive g h c (function_below fs h f q))

  same_by : (n m g : ℕ) → ((h : ℕ) → height h < height g → nested s fs n h ≡ nested s fs m h) → (o : Option Function) → function_of fs g ≡ o → size_of (s (nested s fs n)) o ≡ size_of (s (nested s fs m)) o
  same_by n m g ih None q = refl
  same_by n m g ih (Some f) q =
      local (nested s fs n) (nested s fs m) f (λ h c. lower_or_none g h (function_of fs h) refl (ap (λ o. has h (function_called o)) q ∙ c) n m ih)

  -- past a function's height more nested calls change nothing
  pub nested_same : (n m g : ℕ) → height g < n → height g < m → nested s fs n g ≡ nested s fs m g
  nested_same zero m g p q = absurd (omega arith)
  nested_same (suc n) zero g p q = absurd (omega arith)
  nested_same (suc n) (suc m) g p q = same_by n m g (λ h l. nested_same n m h (omega arith) (omega arith)) (function_of fs g) refl

  -- so each function has its size from those that it calls
  pub adds_up : AddsUp s fs (nested s fs (length fs))
  adds_up g f q =
      let low = height_low fs not_recursive g (function_below fs g f q) in
      nested_same (length fs) (suc (length fs)) g low (omega (arith, low)) ∙ ap (size_of (s (nested s fs (length fs)))) q

pub weights_add_up : (fs : List Function) → NotRecursive fs → AddsUp weight_with fs (nested weight_with fs (length fs))
weights_add_up fs n = adds_up fs n weight_with weight_local

pub parts_add_up : (fs : List Function) → NotRecursive fs → AddsUp parts_with fs (nested parts_with fs (length fs))
parts_add_up fs n = adds_up fs n parts_with parts_local
