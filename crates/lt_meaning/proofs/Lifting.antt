-- A lifted expression has the expression's value.
use Rattle.std.proofs.Common.{◌≡◌, ℕ, ◌+◌, true, false, List, [], ◌∷◌, ◌++◌, length, map, Some, refl, sym, ap, ◌∙◌, arith}
use Rattle.std.specs.Prelude.{slice_get}
use Rattle.std.specs.Option.{option_and_then}
use Rattle.std.proofs.lemmas.List.{length-append}
use Rattle.lt_base.specs.declared.value.Value.TheVariants.{Bool as Truth}
use Rattle.lt_base.specs.Operators.{op1, op2, imp_value}
use Rattle.lt_base.specs.Expression.{Expression, literal, variable, unary, binary, imported, choose, sampled, merged, delayed, follow, arrow, call, Arguments, no_arguments, argument}
use Rattle.lt_base.specs.Meaning.{ClockPairs, Environment, Callee, present, outer, both, pick, latest, value_of, values_of}
use Rattle.lt_base.proofs.Solution.{and_left, and_both, pick_same}
use Rattle.lt_base.proofs.First.{first_flag, arrow_by_flag, follow_by_arrow}
use Rattle.lt_meaning.specs.Form.{value_in}
use Rattle.lt_meaning.specs.Lift.{delay_count, delay_counts, call_count, call_counts, form_of, forms_of, Wait, first_wait, delays_in, arguments_delays, part, Item, calls_in, arguments_calls}
use Rattle.lt_meaning.specs.Planned.{IsElement, StandsFrom}
use Rattle.lt_meaning.specs.Stands.{StepHolds}
use Rattle.lt_meaning.proofs.Standing.{in_left, in_right, from_left, from_right}

-- ---- how many delays an expression has

pub two_lengths : (xs ys : List Wait) (n m : ℕ) → length xs ≡ n → length ys ≡ m → length (xs ++ ys) ≡ n + m
two_lengths xs ys n m h k = length-append xs ys ∙ (λ i. h i + k i)

mutual
  pub delays_number : (e : Expression) (ck : ClockPairs) → length (delays_in e ck) ≡ delay_count e
  delays_number (literal v) ck = refl
  delays_number (variable x) ck = refl
  delays_number (unary o a) ck = delays_number a ck
  delays_number (binary o a b) ck = two_lengths (delays_in a ck) (delays_in b ck) _ _ (delays_number a ck) (delays_number b ck)
  delays_number (imported o a b) ck = two_lengths (delays_in a ck) (delays_in b ck) _ _ (delays_number a ck) (delays_number b ck)
  delays_number (choose c a b) ck =
      two_lengths (delays_in c ck ++ delays_in a ck) (delays_in b ck) _ _ (two_lengths (delays_in c ck) (delays_in a ck) _ _ (delays_number c ck) (delays_number a ck)) (delays_number b ck)
  delays_number (sampled e c b) ck = delays_number e (outer ck)
  delays_number (merged c a b) ck = two_lengths (delays_in a ((c, true) ∷ ck)) (delays_in b ((c, false) ∷ ck)) _ _ (delays_number a ((c, true) ∷ ck)) (delays_number b ((c, false) ∷ ck))
  delays_number (delayed v e) ck = refl
  delays_number (follow a b) ck = two_lengths (delays_in a ck) (first_wait ck ∷ record { clock = ck; first = Truth true; right = b } ∷ []) _ 2 (delays_number a ck) refl
  delays_number (arrow a b) ck =
      two_lengths (delays_in a ck ++ delays_in b ck) (first_wait ck ∷ []) _ 1 (two_lengths (delays_in a ck) (delays_in b ck) _ _ (delays_number a ck) (delays_number b ck)) refl
  delays_number (call g args) ck = arguments_delays_number args ck

  pub arguments_delays_number : (args : Arguments) (ck : ClockPairs) → length (arguments_delays args ck) ≡ delay_counts args
  arguments_delays_number no_arguments ck = refl
  arguments_delays_number (argument e args) ck = two_lengths (delays_in e ck) (arguments_delays args ck) _ _ (delays_number e ck) (arguments_delays_number args ck)

-- ---- its value

pub present_outer : (env : Environment) (ck : ClockPairs) → present env ck ≡ true → present env (outer ck) ≡ true
present_outer env [] h = h
present_outer env ((c, b) ∷ ck) h = and_left _ _ h

module _ (C : Callee) (past : List Environment) (env old : Environment) (waits : List Wait) (kept : (j : ℕ) (w : Wait) → slice_get waits j ≡ Some w → old j ≡ latest w.clock (Some w.first) (value_of C w.right w.clock) past) where
  abbrev Runs : List Item → Type 0
  Runs items = (x : Item) → IsElement items x → StepHolds C past env x

  left_run : (xs ys : List Item) → Runs (xs ++ ys) → Runs xs
  left_run xs ys h x i = h x (in_left xs ys x i)

  right_run : (xs ys : List Item) → Runs (xs ++ ys) → Runs ys
  right_run xs ys h x i = h x (in_right xs ys x i)

  first_of : (k : ℕ) (w : Wait) (ws : List Wait) → StandsFrom k (w ∷ ws) waits → old k ≡ latest w.clock (Some w.first) (value_of C w.right w.clock) past
  first_of k w ws s = kept k w (ap (slice_get waits) (omega arith) ∙ s 0 w refl)

  second_of : (k : ℕ) (v w : Wait) → StandsFrom k (v ∷ w ∷ []) waits → old (k + 1) ≡ latest w.clock (Some w.first) (value_of C w.right w.clock) past
  second_of k v w s = kept (k + 1) w (s 1 w refl)

  mutual
    pub means : (e : Expression) (k c : ℕ) (ck : ClockPairs) → StandsFrom k (delays_in e ck) waits → Runs (calls_in k c e ck) → present env ck ≡ true → value_in env old (form_of k c e) ≡ value_of C e ck past env
    means (literal v) k c ck d r p = refl
    means (variable x) k c ck d r p = refl
    means (unary o a) k c ck d r p = ap (option_and_then (op1 o)) (means a k c ck d r p)
    means (binary o a b) k c ck d r p =
        let x = means a k c ck (from_left k _ (delays_in b ck) waits d) (left_run _ (calls_in (k + delay_count a) (c + call_count a) b ck) r) p in
        let y = means b (k + delay_count a) (c + call_count a) ck (from_right k _ (delays_in a ck) _ waits (delays_number a ck) d) (right_run (calls_in k c a ck) _ r) p in
        λ i. both (op2 o) (x i) (y i)
    means (imported o a b) k c ck d r p =
        let x = means a k c ck (from_left k _ (delays_in b ck) waits d) (left_run _ (calls_in (k + delay_count a) (c + call_count a) b ck) r) p in
        let y = means b (k + delay_count a) (c + call_count a) ck (from_right k _ (delays_in a ck) _ waits (delays_number a ck) d) (right_run (calls_in k c a ck) _ r) p in
        λ i. both (imp_value o) (x i) (y i)
    means (choose t a b) k c ck d r p =
        let k₁ = k + delay_count t in
        let c₁ = c + call_count t in
        let k₂ = k₁ + delay_count a in
        let c₂ = c₁ + call_count a in
        let ds = delays_in t ck ++ delays_in a ck in
        let cs = calls_in k c t ck ++ calls_in k₁ c₁ a ck in
        let d₀ = from_left k ds (delays_in b ck) waits d in
        let r₀ = left_run cs (calls_in k₂ c₂ b ck) r in
        let n : length ds ≡ delay_count t + delay_count a = two_lengths (delays_in t ck) (delays_in a ck) _ _ (delays_number t ck) (delays_number a ck) in
        let d₂ : StandsFrom k₂ (delays_in b ck) waits = λ i x h. ap (slice_get waits) (omega arith) ∙ from_right k _ ds (delays_in b ck) waits n d i x h in
        let x = means t k c ck (from_left k (delays_in t ck) (delays_in a ck) waits d₀) (left_run (calls_in k c t ck) (calls_in k₁ c₁ a ck) r₀) p in
        let y = means a k₁ c₁ ck (from_right k _ (delays_in t ck) (delays_in a ck) waits (delays_number t ck) d₀) (right_run (calls_in k c t ck) (calls_in k₁ c₁ a ck) r₀) p in
        let z = means b k₂ c₂ ck d₂ (right_run cs (calls_in k₂ c₂ b ck) r) p in
        λ i. pick (x i) (y i) (z i)
    means (sampled e x b) k c ck d r p = means e k c (outer ck) d r (present_outer env ck p)
    means (merged x a b) k c ck d r p =
        pick_same (env x) _ _ _ _
        (λ t. means a k c ((x, true) ∷ ck) (from_left k _ (delays_in b ((x, false) ∷ ck)) waits d) (left_run _ (calls_in (k + delay_count a) (c + call_count a) b ((x, false) ∷ ck)) r) (and_both _ _ p t))
        (λ t. means b (k + delay_count a) (c + call_count a) ((x, false) ∷ ck) (from_right k _ (delays_in a ((x, true) ∷ ck)) _ waits (delays_number a ((x, true) ∷ ck)) d) (right_run (calls_in k c a ((x, true) ∷ ck)) _ r) (and_both _ _ p t))
    means (delayed v e) k c ck d r p = first_of k (record { clock = ck; first = v; right = e }) [] d
    means (follow a b) k c ck d r p =
        let w : Wait = record { clock = ck; first = Truth true; right = b } in
        let more : List Wait = first_wait ck ∷ w ∷ [] in
        let kd = k + delay_count a in
        let there : StandsFrom kd more waits = from_right k _ (delays_in a ck) more waits (delays_number a ck) d in
        let f = first_of kd (first_wait ck) (w ∷ []) there in
        let x = means a k c ck (from_left k _ more waits d) r p in
        let y = second_of kd (first_wait ck) w there in
        let whole : value_in env old (form_of k c (follow a b)) ≡ value_of C (choose first_flag a (delayed (Truth true) b)) ck past env = λ i. pick (f i) (x i) (y i) in
        whole ∙ arrow_by_flag C ck past env a (delayed (Truth true) b) ∙ sym (follow_by_arrow C ck past env (Truth true) a b)
    means (arrow a b) k c ck d r p =
        let ds = delays_in a ck ++ delays_in b ck in
        let n : length ds ≡ delay_count a + delay_count b = two_lengths (delays_in a ck) (delays_in b ck) _ _ (delays_number a ck) (delays_number b ck) in
        let kd = k + delay_count a + delay_count b in
        let there : StandsFrom kd (first_wait ck ∷ []) waits = λ i x h. ap (slice_get waits) (omega arith) ∙ from_right k _ ds (first_wait ck ∷ []) waits n d i x h in
        let d₀ = from_left k ds (first_wait ck ∷ []) waits d in
        let f = first_of kd (first_wait ck) [] there in
        let x = means a k c ck (from_left k _ (delays_in b ck) waits d₀) (left_run _ (calls_in (k + delay_count a) (c + call_count a) b ck) r) p in
        let y = means b (k + delay_count a) (c + call_count a) ck (from_right k _ (delays_in a ck) _ waits (delays_number a ck) d₀) (right_run (calls_in k c a ck) _ r) p in
        let whole : value_in env old (form_of k c (arrow a b)) ≡ value_of C (choose first_flag a b) ck past env = λ i. pick (f i) (x i) (y i) in
        whole ∙ arrow_by_flag C ck past env a b
    means (call g args) k c ck d r p =
        r (record { cell = c + call_counts args; clock = ck; delays_before = k; cells_before = c; source = part g args }) (in_right (arguments_calls k c args ck) _ _ (0, refl)) p

    pub values_mean : (args : Arguments) (k c : ℕ) (ck : ClockPairs) → StandsFrom k (arguments_delays args ck) waits → Runs (arguments_calls k c args ck) → present env ck ≡ true → map (value_in env old) (forms_of k c args) ≡ values_of C args ck past env
    values_mean no_arguments k c ck d r p = refl
    values_mean (argument e args) k c ck d r p =
        let x = means e k c ck (from_left k _ (arguments_delays args ck) waits d) (left_run _ (arguments_calls (k + delay_count e) (c + call_count e) args ck) r) p in
        let y = values_mean args (k + delay_count e) (c + call_count e) ck (from_right k _ (delays_in e ck) _ waits (delays_number e ck) d) (right_run (calls_in k c e ck) _ r) p in
        λ i. x i ∷ y i
