-- A function that stands in another one has its own meaning there.
use Rattle.std.proofs.Common.{◌≡◌, ℕ, Bool, true, false, List, [], ◌∷◌, Option, Some, refl, ap, ◌∙◌}
use Rattle.std.specs.Prelude.{◌&&◌, ◌||◌, if◌then◌else◌}
use Rattle.std.specs.Option.{option_and_then}
use Rattle.lt_base.specs.declared.function.Decl.{Decl}
use Rattle.lt_base.specs.declared.value.Value.{Value}
use Rattle.lt_base.specs.Expression.{Expression, literal, variable, unary, binary, imported, choose, sampled, merged, delayed, follow, arrow, call, Arguments, no_arguments, argument}
use Rattle.lt_base.specs.Operators.{op1, op2, imp_value}
use Rattle.lt_base.specs.Program.{Function}
use Rattle.lt_base.specs.Meaning.{ClockPairs, Environment, Row, Callee, is_truth, present, both, pick, latest, was_present, rows_at, value_of, values_of}
use Rattle.lt_base.specs.Clocking.{Clocked, ArgumentsClocked}
use Rattle.lt_base.specs.Placed.{renamed, arguments_renamed, below, seen, thinned}

and_assoc : (a b c : Bool) → ((a && b) && c) ≡ (a && (b && c))
and_assoc true b c = refl
and_assoc false b c = refl

pub present_below : (r : ℕ → ℕ) (env : Environment) (k ck : ClockPairs) → present env (below r k ck) ≡ (present env ck && present (seen r env) k)
present_below r env [] ck = and_true (present env ck)
  where
    and_true : (a : Bool) → a ≡ (a && true)
    and_true true = refl
    and_true false = refl
present_below r env ((c, b) ∷ k) ck =
    ap (λ a. a && is_truth (env (r c)) b) (present_below r env k ck) ∙ and_assoc (present env ck) (present (seen r env) k) (is_truth (env (r c)) b)

module _ (callee : Callee) (fs : List Function) (ds : List Decl) (r : ℕ → ℕ) (ck : ClockPairs) where
  if_is : {A : Type 0} (t : Bool) (a b : A) → t ≡ true → (if t then a else b) ≡ a
  if_is t a b h = ap (λ t. if t then a else b) h

  if_not : {A : Type 0} (t : Bool) (a b : A) → t ≡ false → (if t then a else b) ≡ b
  if_not t a b h = ap (λ t. if t then a else b) h

  -- two functions give the same where the clock is present
  abbrev Matches : {A : Type 0} → (List Environment → Environment → A) → (List Environment → Environment → A) → Type 0
  Matches f f' = (past : List Environment) (cur : Environment) → present cur ck ≡ true → f past cur ≡ f' (thinned r ck past) (seen r cur)

  latest_thin_by : (k : ClockPairs) (v v' : Option Value) (f f' : List Environment → Environment → Option Value) (env : Environment) (past : List Environment) → Matches f f' → latest (below r k ck) v f past ≡ latest k v' f' (thinned r ck past) → (t : Bool) → present env ck ≡ t → latest (below r k ck) v f (env ∷ past) ≡ latest k v' f' (if t then seen r env ∷ thinned r ck past else thinned r ck past)
  latest_thin_by k v v' f f' env past m ih false h =
      let e : present env (below r k ck) ≡ false = present_below r env k ck ∙ ap (λ a. a && present (seen r env) k) h in
      if_not (present env (below r k ck)) _ _ e ∙ ih
  latest_thin_by k v v' f f' env past m ih true h =
      let e : present env (below r k ck) ≡ present (seen r env) k = present_below r env k ck ∙ ap (λ a. a && present (seen r env) k) h in
      λ i. if e i then m past env h i else ih i

  latest_thin : (k : ClockPairs) (v v' : Option Value) (f f' : List Environment → Environment → Option Value) → v ≡ v' → Matches f f' → (past : List Environment) → latest (below r k ck) v f past ≡ latest k v' f' (thinned r ck past)
  latest_thin k v v' f f' s m [] = s
  latest_thin k v v' f f' s m (env ∷ past) = latest_thin_by k v v' f f' env past m (latest_thin k v v' f f' s m past) (present env ck) refl

  was_thin_by : (k : ClockPairs) (env : Environment) (past : List Environment) → was_present (below r k ck) past ≡ was_present k (thinned r ck past) → (t : Bool) → present env ck ≡ t → was_present (below r k ck) (env ∷ past) ≡ was_present k (if t then seen r env ∷ thinned r ck past else thinned r ck past)
  was_thin_by k env past ih false h =
      let e : present env (below r k ck) ≡ false = present_below r env k ck ∙ ap (λ a. a && present (seen r env) k) h in
      ap (λ a. a || was_present (below r k ck) past) e ∙ ih
  was_thin_by k env past ih true h =
      let e : present env (below r k ck) ≡ present (seen r env) k = present_below r env k ck ∙ ap (λ a. a && present (seen r env) k) h in
      λ i. e i || ih i

  was_thin : (k : ClockPairs) (past : List Environment) → was_present (below r k ck) past ≡ was_present k (thinned r ck past)
  was_thin k [] = refl
  was_thin k (env ∷ past) = was_thin_by k env past (was_thin k past) (present env ck) refl

  rows_thin_by : (k : ClockPairs) (f f' : List Environment → Environment → Row) (env : Environment) (past : List Environment) → Matches f f' → rows_at (below r k ck) f past ≡ rows_at k f' (thinned r ck past) → (t : Bool) → present env ck ≡ t → rows_at (below r k ck) f (env ∷ past) ≡ rows_at k f' (if t then seen r env ∷ thinned r ck past else thinned r ck past)
  rows_thin_by k f f' env past m ih false h =
      let e : present env (below r k ck) ≡ false = present_below r env k ck ∙ ap (λ a. a && present (seen r env) k) h in
      if_not (present env (below r k ck)) _ _ e ∙ ih
  rows_thin_by k f f' env past m ih true h =
      let e : present env (below r k ck) ≡ present (seen r env) k = present_below r env k ck ∙ ap (λ a. a && present (seen r env) k) h in
      λ i. if e i then m past env h i ∷ ih i else ih i

  rows_thin : (k : ClockPairs) (f f' : List Environment → Environment → Row) → Matches f f' → (past : List Environment) → rows_at (below r k ck) f past ≡ rows_at k f' (thinned r ck past)
  rows_thin k f f' m [] = refl
  rows_thin k f f' m (env ∷ past) = rows_thin_by k f f' env past m (rows_thin k f f' m past) (present env ck) refl

  mutual
    pub value_thin : (e : Expression) (k : ClockPairs) → Clocked fs ds e k → Matches (value_of callee (renamed r e) (below r k ck)) (value_of callee e k)
    value_thin (literal v) k c past cur p = refl
    value_thin (variable x) k c past cur p = refl
    value_thin (unary o a) k c past cur p = ap (option_and_then (op1 o)) (value_thin a k c past cur p)
    value_thin (binary o a b) k c past cur p = λ i. both (op2 o) (value_thin a k c.0 past cur p i) (value_thin b k c.1 past cur p i)
    value_thin (imported o a b) k c past cur p = λ i. both (imp_value o) (value_thin a k c.0 past cur p i) (value_thin b k c.1 past cur p i)
    value_thin (choose t a b) k c past cur p = λ i. pick (value_thin t k c.0 past cur p i) (value_thin a k c.1 past cur p i) (value_thin b k c.2 past cur p i)
    value_thin (sampled e x b) [] c past cur p = elim c [ ]
    value_thin (sampled e x b) ((d, a) ∷ k) c past cur p = value_thin e k c.2.2 past cur p
    value_thin (merged x a b) k c past cur p = λ i. pick (cur (r x)) (value_thin a ((x, true) ∷ k) c.2 past cur p i) (value_thin b ((x, false) ∷ k) c.3 past cur p i)
    value_thin (delayed v e) k c past cur p = latest_thin k (Some v) (Some v) (value_of callee (renamed r e) (below r k ck)) (value_of callee e k) refl (value_thin e k c) past
    value_thin (follow a b) k c past cur p =
        latest_thin k _ _ (value_of callee (renamed r b) (below r k ck)) (value_of callee b k) (value_thin a k c.0 past cur p) (value_thin b k c.1) past
    value_thin (arrow a b) k c past cur p = λ i. if was_thin k past i then value_thin b k c.1 past cur p i else value_thin a k c.0 past cur p i
    value_thin (call g args) k c past cur p =
        λ i. callee g (values_thin args k c.1 past cur p i ∷ rows_thin k (values_of callee (arguments_renamed r args) (below r k ck)) (values_of callee args k) (values_thin args k c.1) past i)

    pub values_thin : (args : Arguments) (k : ClockPairs) → ArgumentsClocked fs ds args k → Matches (values_of callee (arguments_renamed r args) (below r k ck)) (values_of callee args k)
    values_thin no_arguments k c past cur p = refl
    values_thin (argument e args) k c past cur p = λ i. value_thin e k c.0 past cur p i ∷ values_thin args k c.1 past cur p i
