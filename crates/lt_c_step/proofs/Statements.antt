-- What the emitted statements of lets and keeps leave.
use Rattle.std.proofs.Common.{◌≡◌, ℕ, Bool, true, false, List, [], ◌∷◌, Option, Some, None, refl, sym, ap, ◌∙◌, subst, eqb-true, ℤ}
use Rattle.std.specs.Prelude.{not, ◌&&◌, nat_eq, if◌then◌else◌}
use Rattle.std.specs.List.{AllByRecursion}
use Rattle.lt_base.specs.declared.value.Value.{Value}
use Rattle.lt_base.specs.declared.value.Value.TheVariants.{Int, Bool as Truth}
use Rattle.lt_base.specs.Meaning.{ClockPairs, Environment, is_truth, present}
use Rattle.lt_base.specs.Behaviour.{calls_of}
use Rattle.lt_base.proofs.Solution.{and_left, and_right}
use Rattle.lt_norm.specs.Flat.{Direct}
use Rattle.lt_step.specs.Code.{LetForm, KeepForm}
use Rattle.lt_step.specs.Run.{operand_value, slot_updated, after_let, after_lets, after_keep, after_keeps, first_slots}
use Rattle.lt_c.specs.Tree.{slot, Statement, assign}
use Rattle.lt_c.specs.Meaning.{Store, c_truth_of, of_truth, is_as, holds, stored, store_left}
use Rattle.lt_c.specs.Meaning as c
use Rattle.lt_c_step.specs.Translate.{of_expression, under, of_let, of_keep, of_lets, of_keeps, of_firsts}
use Rattle.lt_c.specs.Literals.{of_value, c_number}
use Rattle.lt_c_step.specs.Laws.{Matches}
use Rattle.lt_c.proofs.Literal.{literal_number}
use Rattle.lt_c_step.proofs.Values.{value_agrees}

-- ---- conditions

asks : (env : Environment) (m : Store) → Matches env m → (x : ℕ) (b : Bool) → (o : Option Value) → env x ≡ o → is_truth o b ≡ true → is_as (m (slot x)) b ≡ true
asks env m k x true (Some (Truth true)) e h = ap c_truth_of (k x (Truth true) e)
asks env m k x true (Some (Truth false)) e h = absurd (cc)
asks env m k x false (Some (Truth true)) e h = absurd (cc)
asks env m k x false (Some (Truth false)) e h = ap (λ z. not (c_truth_of z)) (k x (Truth false) e)
asks env m k x b (Some (Int n)) e h = absurd (cc)
asks env m k x b None e h = absurd (cc)

both_true : (a b : Bool) → a ≡ true → b ≡ true → (a && b) ≡ true
both_true a b p q = λ i. p i && q i

-- where a guard is present its conditions hold
pub guard_holds : (env : Environment) (m : Store) → Matches env m → (ck : ClockPairs) → present env ck ≡ true → holds m ck ≡ true
guard_holds env m k [] h = refl
guard_holds env m k ((c, b) ∷ ck) h =
    both_true (holds m ck) (is_as (m (slot c)) b)
    (guard_holds env m k ck (and_left (present env ck) (is_truth (env c) b) h))
    (asks env m k c b (env c) refl (and_right (present env ck) (is_truth (env c) b) h))

-- each variable of a clock that the clock before it makes present has a truth value
abbrev pub Told : Environment → ClockPairs → Type 0
Told env [] = Unit {0}
Told env ((c, b) ∷ ck) = Told env ck × (present env ck ≡ true → (t : Bool) × (env c ≡ Some (Truth t)))

truth_same : (t b : Bool) → is_as (of_truth t) b ≡ is_truth (Some (Truth t)) b
truth_same true true = refl
truth_same true false = refl
truth_same false true = refl
truth_same false false = refl

-- then the conditions hold exactly where the clock is present
pub guard_same : (env : Environment) (m : Store) → Matches env m → (ck : ClockPairs) → Told env ck → holds m ck ≡ present env ck
guard_same env m k [] t = refl
guard_same env m k ((c, b) ∷ ck) t = go (guard_same env m k ck t.0) (present env ck) refl
  where
    go : holds m ck ≡ present env ck → (p : Bool) → present env ck ≡ p → (holds m ck && is_as (m (slot c)) b) ≡ (present env ck && is_truth (env c) b)
    go r false e = (λ i. r i && is_as (m (slot c)) b) ∙ (λ i. e i && is_as (m (slot c)) b) ∙ (λ i. sym e i && is_truth (env c) b)
    go r true e =
        let u = t.1 e in
        let n : m (slot c) ≡ of_truth u.0 = k c (Truth u.0) u.1 in
        let s : is_as (m (slot c)) b ≡ is_truth (env c) b = ap (λ z. is_as z b) n ∙ truth_same u.0 b ∙ ap (λ o. is_truth o b) (sym u.1) in
        λ i. r i && s i

-- ---- one variable is written

-- a slot that gets a value, and a store in which the variable gets its number
pub matches_updated : (env : Environment) (m : Store) → Matches env m → (s : ℕ) (o : Option Value) (z : ℤ) → ((v : Value) → o ≡ Some v → z ≡ c_number v) → Matches (slot_updated env s o) (stored m (slot s) z)
matches_updated env m k s o z f x v h = go (nat_eq x s) refl
  where
    go : (b : Bool) → nat_eq x s ≡ b → stored m (slot s) z (slot x) ≡ c_number v
    go true e =
        ap (λ (b : Bool). if b then z else m (slot x)) e
        ∙ f v (sym (ap (λ (b : Bool). if b then o else env x) e) ∙ h)
    go false e =
        ap (λ (b : Bool). if b then z else m (slot x)) e
        ∙ k x v (sym (ap (λ (b : Bool). if b then o else env x) e) ∙ h)

-- a slot that loses its value, whatever the variable gets
pub matches_dropped : (env : Environment) (m : Store) → Matches env m → (s : ℕ) → Matches (slot_updated env s None) m
matches_dropped env m k s x v h = go (nat_eq x s) refl
  where
    go : (b : Bool) → nat_eq x s ≡ b → m (slot x) ≡ c_number v
    go true e = let n : None ≡ Some v = sym (ap (λ (b : Bool). if b then None else env x) e) ∙ h in absurd (cc)
    go false e = k x v (sym (ap (λ (b : Bool). if b then None else env x) e) ∙ h)

pub matches_lost : (env : Environment) (m : Store) → Matches env m → (s : ℕ) (z : ℤ) → Matches (slot_updated env s None) (stored m (slot s) z)
matches_lost env m k s z = matches_updated env m k s None z (λ v h. absurd (cc))

-- a slot that keeps what it had
pub matches_stays : (env : Environment) (m : Store) → Matches env m → (s : ℕ) → Matches (slot_updated env s (env s)) m
matches_stays env m k s x v h = k x v (sym (same x) ∙ h)
  where
    at : (x : ℕ) (b : Bool) → nat_eq x s ≡ b → (if b then env s else env x) ≡ env x
    at x true e = ap env (sym (eqb-true x s e))
    at x false e = refl

    same : (x : ℕ) → slot_updated env s (env s) x ≡ env x
    same x = at x (nat_eq x s) refl

-- ---- a statement under a guard

-- what a statement under a guard leaves, by whether its conditions hold
pub under_leaves : (ck : ClockPairs) (s : Statement) (m : Store) → store_left (under ck s) m ≡ (if holds m ck then store_left s m else m)
under_leaves [] s m = refl
under_leaves (p ∷ ck) s m = refl

module _ (env : Environment) (m : Store) (k : Matches env m) where
  let_by : (l : LetForm) → Direct l.operand → (p q : Bool) → present env l.guard ≡ p → holds m l.guard ≡ q → (p ≡ true → q ≡ true) → Matches (slot_updated env l.slot (if p then operand_value env l.operand else None)) (if q then stored m (slot l.slot) (c.value m (of_expression l.operand)) else m)
  let_by l d true true a b f = matches_updated env m k l.slot (operand_value env l.operand) (c.value m (of_expression l.operand)) (value_agrees (calls_of []) env m k l.operand d [] [])
  let_by l d true false a b f = let h : false ≡ true = f refl in absurd (cc)
  let_by l d false true a b f = matches_lost env m k l.slot (c.value m (of_expression l.operand))
  let_by l d false false a b f = matches_dropped env m k l.slot

  pub let_matches : (l : LetForm) → Direct l.operand → Matches (after_let l env) (store_left (of_let l) m)
  let_matches l d =
      subst (Matches (after_let l env)) (sym (under_leaves l.guard (assign (slot l.slot) (of_expression l.operand)) m))
      (let_by l d (present env l.guard) (holds m l.guard) refl refl (guard_holds env m k l.guard))

  keep_by : (l : KeepForm) → Direct l.operand → (p q : Bool) → present env l.guard ≡ p → holds m l.guard ≡ q → q ≡ p → Matches (slot_updated env l.slot (if p then operand_value env l.operand else env l.slot)) (if q then stored m (slot l.slot) (c.value m (of_expression l.operand)) else m)
  keep_by l d true true a b f = matches_updated env m k l.slot (operand_value env l.operand) (c.value m (of_expression l.operand)) (value_agrees (calls_of []) env m k l.operand d [] [])
  keep_by l d true false a b f = let h : false ≡ true = f in absurd (cc)
  keep_by l d false true a b f = let h : true ≡ false = f in absurd (cc)
  keep_by l d false false a b f = matches_stays env m k l.slot

  pub keep_matches : (l : KeepForm) → Direct l.operand → Told env l.guard → Matches (after_keep l env) (store_left (of_keep l) m)
  keep_matches l d t =
      subst (Matches (after_keep l env)) (sym (under_leaves l.guard (assign (slot l.slot) (of_expression l.operand)) m))
      (keep_by l d (present env l.guard) (holds m l.guard) refl refl (guard_same env m k l.guard t))

-- ---- lists of them

pub lets_match : (ls : List LetForm) (env : Environment) (m : Store) → Matches env m → AllByRecursion (λ l. Direct l.operand) ls → Matches (after_lets ls env) (store_left (of_lets ls) m)
lets_match [] env m k d = k
lets_match (l ∷ ls) env m k d = lets_match ls (after_let l env) (store_left (of_let l) m) (let_matches env m k l d.0) d.1

-- each guard is told in the slots that its keep finds
abbrev pub AllTold : List KeepForm → Environment → Type 0
AllTold [] env = Unit {0}
AllTold (k ∷ ks) env = Told env k.guard × AllTold ks (after_keep k env)

pub keeps_match : (ks : List KeepForm) (env : Environment) (m : Store) → Matches env m → AllByRecursion (λ k. Direct k.operand) ks → AllTold ks env → Matches (after_keeps ks env) (store_left (of_keeps ks) m)
keeps_match [] env m k d t = k
keeps_match (l ∷ ls) env m k d t = keeps_match ls (after_keep l env) (store_left (of_keep l) m) (keep_matches env m k l d.0 t.0) d.1 t.1

abbrev the : Value → Option Value → Value
the d None = d
the d (Some v) = v

pub firsts_match : (ks : List KeepForm) (env : Environment) (m : Store) → Matches env m → Matches (first_slots ks env) (store_left (of_firsts ks) m)
firsts_match [] env m k = k
firsts_match (l ∷ ls) env m k =
    firsts_match ls (slot_updated env l.slot (Some l.first)) (stored m (slot l.slot) (c.value m (of_value l.first)))
    (matches_updated env m k l.slot (Some l.first) (c.value m (of_value l.first)) (λ v h. literal_number m l.first ∙ ap c_number (ap (the l.first) h)))
