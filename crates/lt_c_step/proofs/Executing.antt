-- The step of a part.
use Rattle.std.proofs.Common.{◌≡◌, ℕ, zero, suc, ◌+◌, ◌<◌, ◌≤◌, Bool, true, false, List, [], ◌∷◌, length, map, Option, Some, None, refl, sym, ap, ◌∙◌, subst, arith, ℤ}
use Rattle.std.specs.Prelude.{not, ◌&&◌, nat_eq, nat_lt, if◌then◌else◌}
use Rattle.std.specs.List.{AllByRecursion}
use Rattle.std.proofs.lemmas.Bool.Decides.{nat_tests}
use Rattle.lt_base.specs.declared.value.Value.{Value}
use Rattle.lt_base.specs.Program.{Function}
use Rattle.lt_base.specs.Meaning.{ClockPairs, Environment, entry}
use Rattle.lt_base.specs.Typing.{input_types, AllFit}
use Rattle.lt_step.specs.Code.{LetForm, KeepForm, StepCode}
use Rattle.std.proofs.lemmas.List.{length-map}
use Rattle.lt_step.proofs.Lets.{updated_same, updated_other}
use Rattle.lt_step.specs.Run.{slot_updated, with_row, at_instant, slots_after}
use Rattle.lt_step.specs.Compile.{CodeOf, code_of, in_order}
use Rattle.lt_c.specs.Tree.{CVariable, slot, output, has, tag, Tree, c_var, Statement, assign, both}
use Rattle.lt_c.specs.Meaning.{Store, c_truth_of, value, is_as, holds, stored, store_left, WritesStep}
use Rattle.lt_c_step.specs.Translate.{of_expression, under, of_let, of_keep, of_lets, of_keeps}
use Rattle.lt_c_step.specs.Laws.{Matches}
use Rattle.lt_c.specs.Literals.{c_number}
use Rattle.lt_c_step.specs.declared.sources.Source.{Source}
use Rattle.lt_c_step.specs.declared.sources.Source.TheVariants.{Given, Arrived}
use Rattle.lt_c_step.specs.declared.sources.Output.{Output}
use Rattle.lt_c_step.specs.Part.{source_variable, feeding, of_condition, clock_tree, telling, showing, HasConditions, ShowsSlot, Differ, before_outputs, part_step, Offers, ExecutesPart, PartsExecute, PartsWriteSlots}
use Rattle.lt_c_step.proofs.Statements.{matches_updated, under_leaves, lets_match, keeps_match}
use Rattle.lt_c_step.proofs.Steps.{all_told, fine_at, defined, own_lets, own_keeps}
use Rattle.lt_c_step.proofs.Shown.{shown_cell}
use Rattle.lt_c.proofs.Stores.{truth_back, other_tag, not_of_step, same_self}

-- ---- only slots and outputs are written

-- all but slots stays
abbrev WritesSlots : Statement → Type 0
WritesSlots s = (m : Store) (p : CVariable) → nat_eq (tag p) 0 ≡ false → store_left s m p ≡ m p

-- telling whether an output has a value leaves all else
telling_leaves : (y : ℕ) (ck : ClockPairs) (m : Store) (p : CVariable) → nat_eq (tag p) 14 ≡ false → store_left (telling y ck) m p ≡ m p
telling_leaves y [] m p h = refl
telling_leaves y (q ∷ ck) m p h = other_tag m (has y) p (value m (clock_tree (q ∷ ck))) h

under_slots : (ck : ClockPairs) (s : ℕ) (e : Tree) → WritesSlots (under ck (assign (slot s) e))
under_slots ck s e m p h =
    ap (λ (n : Store). n p) (under_leaves ck (assign (slot s) e) m) ∙ go (holds m ck)
  where
    go : (b : Bool) → (if b then stored m (slot s) (value m e) else m) p ≡ m p
    go true = other_tag m (slot s) p (value m e) h
    go false = refl

lets_slots : (ls : List LetForm) → WritesSlots (of_lets ls)
lets_slots [] m p h = refl
lets_slots (l ∷ ls) m p h = lets_slots ls (store_left (of_let l) m) p h ∙ under_slots l.guard l.slot (of_expression l.operand) m p h

keeps_slots : (ks : List KeepForm) → WritesSlots (of_keeps ks)
keeps_slots [] m p h = refl
keeps_slots (k ∷ ks) m p h = keeps_slots ks (store_left (of_keep k) m) p h ∙ under_slots k.guard k.slot (of_expression k.operand) m p h

feeds_slots : (x : ℕ) (ss : List Source) → WritesSlots (feeding x ss)
feeds_slots x [] m p h = refl
feeds_slots x (s ∷ ss) m p h = feeds_slots (suc x) ss (stored m (slot x) (m (source_variable s))) p h ∙ other_tag m (slot x) p (m (source_variable s)) h

shows_outputs : (os : List Output) → WritesStep (showing os)
shows_outputs [] m p h = refl
shows_outputs (o ∷ os) m p h =
    shows_outputs os (store_left (both (telling o.output_number o.guard) (assign (output o.output_number) (c_var (slot o.from_slot)))) m) p h
    ∙ other_tag (store_left (telling o.output_number o.guard) m) (output o.output_number) p (store_left (telling o.output_number o.guard) m (slot o.from_slot)) (not_of_step p h).1
    ∙ telling_leaves o.output_number o.guard m p (not_of_step p h).2

pub parts_write_slots : PartsWriteSlots
parts_write_slots ss os c m p h =
    let n = (not_of_step p h).0 in
    keeps_slots c.keeps (store_left (both (before_outputs ss c) (showing os)) m) p n
    ∙ shows_outputs os (store_left (before_outputs ss c) m) p h
    ∙ lets_slots c.lets (store_left (feeding 0 ss) m) p n
    ∙ feeds_slots 0 ss m p n

-- ---- inputs

-- the inputs from number x on have these values, and the slots before them what the environment says
abbrev FedFrom : Environment → ℕ → List Value → Environment
FedFrom env x [] = env
FedFrom env x (v ∷ vs) = FedFrom (slot_updated env x (Some v)) (suc x) vs

offers_stay : (m : Store) (x : ℕ) (z : ℤ) (ss : List Source) (vs : List Value) → Offers m ss vs → Offers (stored m (slot x) z) ss vs
offers_stay m x z [] [] o = tt
offers_stay m x z [] (v ∷ vs) o = elim o [ ]
offers_stay m x z (s ∷ ss) [] o = elim o [ ]
offers_stay m x z (Given i ∷ ss) (v ∷ vs) o = (o.0, offers_stay m x z ss vs o.1)
offers_stay m x z (Arrived j k ∷ ss) (v ∷ vs) o = (o.0, offers_stay m x z ss vs o.1)

abbrev the : Value → Option Value → Value
the d None = d
the d (Some v) = v

feeds_match : (x : ℕ) (ss : List Source) (vs : List Value) (env : Environment) (m : Store) → Matches env m → Offers m ss vs → Matches (FedFrom env x vs) (store_left (feeding x ss) m)
feeds_match x [] [] env m k o = k
feeds_match x [] (v ∷ vs) env m k o = elim o [ ]
feeds_match x (s ∷ ss) [] env m k o = elim o [ ]
feeds_match x (s ∷ ss) (v ∷ vs) env m k o =
    feeds_match (suc x) ss vs (slot_updated env x (Some v)) (stored m (slot x) (m (source_variable s)))
    (matches_updated env m k x (Some v) (m (source_variable s)) (λ w h. o.0 ∙ ap c_number (ap (the v) h)))
    (offers_stay m x (m (source_variable s)) ss vs o.1)

-- what is fed is the row
fed_below : (vs : List Value) (env : Environment) (x y : ℕ) → y < x → FedFrom env x vs y ≡ env y
fed_below [] env x y l = refl
fed_below (v ∷ vs) env x y l = fed_below vs (slot_updated env x (Some v)) (suc x) y (omega (arith, l)) ∙ updated_other env x (Some v) y (λ e. omega (arith, e, l))

nothing_below : (i : ℕ) → nat_lt i 0 ≡ false
nothing_below i = grind (arith, nat_tests)

first_below : (n : ℕ) → nat_lt 0 (suc n) ≡ true
first_below n = grind (arith, nat_tests)

next_below : (i n : ℕ) → nat_lt i n ≡ nat_lt (suc i) (suc n)
next_below i n = go (nat_lt i n) refl
  where
    go : (b : Bool) → nat_lt i n ≡ b → nat_lt i n ≡ nat_lt (suc i) (suc n)
    go true e = let l : i < n = grind (arith, nat_tests, e) in let r : nat_lt (suc i) (suc n) ≡ true = grind (arith, nat_tests, l) in e ∙ sym r
    go false e = let l : n ≤ i = grind (arith, nat_tests, e) in let r : nat_lt (suc i) (suc n) ≡ false = grind (arith, nat_tests, l) in e ∙ sym r

fed_at : (vs : List Value) (env : Environment) (x i : ℕ) → FedFrom env x vs (x + i) ≡ (if nat_lt i (length vs) then entry (map Some vs) i else env (x + i))
fed_at [] env x i = ap (λ (b : Bool). if b then None else env (x + i)) (sym (nothing_below i))
fed_at (v ∷ vs) env x zero =
    ap (FedFrom (slot_updated env x (Some v)) (suc x) vs) (plus_zero x)
    ∙ fed_below vs (slot_updated env x (Some v)) (suc x) x (omega arith)
    ∙ updated_same env x (Some v)
    ∙ ap (λ (b : Bool). if b then Some v else env (x + 0)) (sym (first_below (length vs)))
  where
    plus_zero : (x : ℕ) → x + 0 ≡ x
    plus_zero x = omega arith
fed_at (v ∷ vs) env x (suc i) =
    ap (FedFrom (slot_updated env x (Some v)) (suc x) vs) (turn x i)
    ∙ fed_at vs (slot_updated env x (Some v)) (suc x) i
    ∙ ap (λ o. if nat_lt i (length vs) then entry (map Some vs) i else o) (updated_other env x (Some v) (suc x + i) (λ e. omega (arith, e)) ∙ ap env (sym (turn x i)))
    ∙ ap (λ (b : Bool). if b then entry (map Some vs) i else env (x + suc i)) (next_below i (length vs))
  where
    turn : (x i : ℕ) → x + suc i ≡ suc x + i
    turn x i = omega arith

fed_is : (vs : List Value) (env : Environment) (y : ℕ) → FedFrom env 0 vs y ≡ with_row (map Some vs) env y
fed_is vs env y =
    ap (FedFrom env 0 vs) (zero_plus y) ∙ fed_at vs env 0 y
    ∙ ap (λ o. if nat_lt y (length vs) then entry (map Some vs) y else o) (ap env (sym (zero_plus y)))
    ∙ ap (λ n. if nat_lt y n then entry (map Some vs) y else env y) (sym (length-map vs Some))
  where
    zero_plus : (y : ℕ) → y ≡ 0 + y
    zero_plus y = omega arith

matches_same : (env env' : Environment) (m : Store) → ((y : ℕ) → env y ≡ env' y) → Matches env m → Matches env' m
matches_same env env' m e k y v h = k y v (e y ∙ h)

-- ---- outputs

-- whether a clock's conditions hold, as an expression
condition_value : (m : Store) (c : ℕ) (b : Bool) → c_truth_of (value m (of_condition c b)) ≡ is_as (m (slot c)) b
condition_value m c true = refl
condition_value m c false = truth_back (not (c_truth_of (m (slot c))))

clock_truth : (m : Store) (ck : ClockPairs) → c_truth_of (value m (clock_tree ck)) ≡ holds m ck
clock_truth m [] = refl
clock_truth m ((c, b) ∷ []) = condition_value m c b
clock_truth m ((c, b) ∷ p ∷ ck) =
    truth_back (c_truth_of (value m (clock_tree (p ∷ ck))) && c_truth_of (value m (of_condition c b)))
    ∙ (λ i. clock_truth m (p ∷ ck) i && condition_value m c b i)

-- showing outputs leaves slots
showing_leaves : (os : List Output) (m : Store) (x : ℕ) → store_left (showing os) m (slot x) ≡ m (slot x)
showing_leaves [] m x = refl
showing_leaves (o ∷ os) m x =
    showing_leaves os (store_left (both (telling o.output_number o.guard) (assign (output o.output_number) (c_var (slot o.from_slot)))) m) x
    ∙ telling_leaves o.output_number o.guard m (slot x) refl

holds_same : (m n : Store) → ((x : ℕ) → n (slot x) ≡ m (slot x)) → (ck : ClockPairs) → holds n ck ≡ holds m ck
holds_same m n h [] = refl
holds_same m n h ((c, b) ∷ ck) = λ i. holds_same m n h ck i && is_as (h c i) b

-- the outputs of other numbers stay
abbrev Others : ℕ → List Output → Type 0
Others y os = AllByRecursion (λ p. nat_eq y p.output_number ≡ false) os

-- one output is shown
abbrev one_shown : Output → Statement
one_shown o = both (telling o.output_number o.guard) (assign (output o.output_number) (c_var (slot o.from_slot)))

told_other : (y k : ℕ) (ck : ClockPairs) (m : Store) → nat_eq y k ≡ false → store_left (telling k ck) m (has y) ≡ m (has y)
told_other y k [] m h = refl
told_other y k (p ∷ ck) m h = ap (λ (b : Bool). if b then value m (clock_tree (p ∷ ck)) else m (has y)) h

output_stays : (y : ℕ) (os : List Output) → Others y os → (m : Store) → store_left (showing os) m (output y) ≡ m (output y)
output_stays y [] d m = refl
output_stays y (o ∷ os) d m =
    output_stays y os d.1 (store_left (one_shown o) m)
    ∙ ap (λ (b : Bool). if b then store_left (telling o.output_number o.guard) m (slot o.from_slot) else store_left (telling o.output_number o.guard) m (output y)) d.0
    ∙ telling_leaves o.output_number o.guard m (output y) refl

has_stays : (y : ℕ) (os : List Output) → Others y os → (m : Store) → store_left (showing os) m (has y) ≡ m (has y)
has_stays y [] d m = refl
has_stays y (o ∷ os) d m = has_stays y os d.1 (store_left (one_shown o) m) ∙ told_other y o.output_number o.guard m d.0

output_is : (o : Output) (m : Store) → store_left (one_shown o) m (output o.output_number) ≡ m (slot o.from_slot)
output_is o m =
    ap (λ (b : Bool). if b then store_left (telling o.output_number o.guard) m (slot o.from_slot) else store_left (telling o.output_number o.guard) m (output o.output_number)) (same_self o.output_number)
    ∙ telling_leaves o.output_number o.guard m (slot o.from_slot) refl

told_is : (y : ℕ) (ck : ClockPairs) (m : Store) → HasConditions ck → c_truth_of (store_left (telling y ck) m (has y)) ≡ holds m ck
told_is y [] m t = elim t [ ]
told_is y (p ∷ ck) m t = ap (λ (b : Bool). c_truth_of (if b then value m (clock_tree (p ∷ ck)) else m (has y))) (same_self y) ∙ clock_truth m (p ∷ ck)

-- each output is what its slot was
outputs_given : (os : List Output) → Differ os → (m n : Store) → ((x : ℕ) → n (slot x) ≡ m (slot x)) → AllByRecursion (ShowsSlot (store_left (showing os) n) m) os
outputs_given [] d m n h = tt
outputs_given (o ∷ os) d m n h = (
  record {
    value_is = output_stays o.output_number os d.0 (store_left (one_shown o) n) ∙ output_is o n ∙ h o.from_slot;
    told = λ t. ap c_truth_of (has_stays o.output_number os d.0 (store_left (one_shown o) n)) ∙ told_is o.output_number o.guard n t ∙ holds_same m n h o.guard;
  },
  outputs_given os d.1 m (store_left (one_shown o) n) (λ x. telling_leaves o.output_number o.guard n (slot x) refl ∙ h x),
)

-- what is written behind them leaves outputs
given_still : (os : List Output) (new newer old : Store) → ((p : CVariable) → nat_eq (tag p) 0 ≡ false → newer p ≡ new p) → AllByRecursion (ShowsSlot new old) os → AllByRecursion (ShowsSlot newer old) os
given_still [] new newer old h g = tt
given_still (o ∷ os) new newer old h g = (
  record {
    value_is = h (output o.output_number) refl ∙ g.0.value_is;
    told = λ t. ap c_truth_of (h (has o.output_number) refl) ∙ g.0.told t;
  },
  given_still os new newer old h g.1,
)

matches_shown : (os : List Output) (env : Environment) (m : Store) → Matches env m → Matches env (store_left (showing os) m)
matches_shown os env m k x v h = showing_leaves os m x ∙ k x v h

-- ---- a step

module _ (f : Function) (c : StepCode) (made : CodeOf f c) (ss : List Source) (rows : List (List Value)) (row : List Value) (fits : AllFit (input_types f) (map (map Some) (row ∷ rows))) (m : Store) where
  abbrev slots : Environment
  slots = slots_after (code_of f made.order) (map (map Some) rows)

  abbrev env : Environment
  env = at_instant (code_of f made.order) (map Some row) slots

  fed_matches : Matches slots m → Offers m ss row → Matches (with_row (map Some row) slots) (store_left (feeding 0 ss) m)
  fed_matches k o = matches_same (FedFrom slots 0 row) (with_row (map Some row) slots) (store_left (feeding 0 ss) m) (fed_is row slots) (feeds_match 0 ss row slots m k o)

  read_matches : Matches slots m → Offers m ss row → Matches env (store_left (before_outputs ss (code_of f made.order)) m)
  read_matches k o = lets_match (code_of f made.order).lets (with_row (map Some row) slots) (store_left (feeding 0 ss) m) (fed_matches k o) (own_lets f made.good made.flat made.typed made.clocked made.order made.is_order)

  module _ (os : List Output) where
    step_matches : Matches slots m → Offers m ss row → Matches (slots_after (code_of f made.order) (map (map Some) (row ∷ rows))) (store_left (part_step ss os (code_of f made.order)) m)
    step_matches k o =
        keeps_match (code_of f made.order).keeps env (store_left (both (before_outputs ss (code_of f made.order)) (showing os)) m)
        (matches_shown os env (store_left (before_outputs ss (code_of f made.order)) m) (read_matches k o))
        (own_keeps f made.good made.flat made.typed made.clocked made.order made.is_order)
        (all_told f made.good made.flat (in_order f.eqs made.order) (length f.decls) (omega arith) env (fine_at f made.good made.flat made.typed made.clocked made.order made.is_order row rows fits))

    executes : Differ os → Matches slots m → Offers m ss row → ExecutesPart f (code_of f made.order) ss os rows row m
    executes d k o = record {
      matches = step_matches k o;
      shows = λ y l. shown_cell f.decls y l env (store_left (before_outputs ss (code_of f made.order)) m) (read_matches k o)
          (fine_at f made.good made.flat made.typed made.clocked made.order made.is_order row rows fits y)
          (defined f made.good made.flat made.typed made.clocked made.order made.is_order (row ∷ rows) fits).0;
      gives = given_still os (store_left (both (before_outputs ss (code_of f made.order)) (showing os)) m) (store_left (part_step ss os (code_of f made.order)) m) (store_left (before_outputs ss (code_of f made.order)) m)
          (λ p h. keeps_slots (code_of f made.order).keeps (store_left (both (before_outputs ss (code_of f made.order)) (showing os)) m) p h)
          (outputs_given os d (store_left (before_outputs ss (code_of f made.order)) m) (store_left (before_outputs ss (code_of f made.order)) m) (λ x. refl));
    }

pub parts_execute : PartsExecute
parts_execute f c made ss os d rows row fits m k o =
    subst (λ (code : StepCode). ExecutesPart f code ss os rows row m) (sym made.is)
    (executes f c made ss rows row fits m os d (subst (λ (code : StepCode). Matches (slots_after code (map (map Some) rows)) m) made.is k) o)
