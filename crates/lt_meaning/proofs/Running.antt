-- One instant of a function, step by step.
use Rattle.std.proofs.Common.{◌≡◌, ◌≢◌, ℕ, zero, suc, ◌+◌, ◌<◌, ◌≤◌, ◌⊎◌, inl, inr, Bool, true, false, List, ◌∷◌, map, take, Option, Some, None, refl, sym, ap, subst, ◌∙◌, arith}
use Rattle.std.specs.Prelude.{slice_get, if◌then◌else◌}
use Rattle.std.specs.Global.{Box}
use Rattle.lt_base.specs.declared.value.Value.{Value}
use Rattle.lt_base.specs.Expression.{Arguments}
use Rattle.lt_base.specs.Meaning.{ClockPairs, Environment, Row, Callee, entry, present, latest, value_of, values_of, rows_at}
use Rattle.lt_base.specs.Order.{EachRead, EachArgumentRead}
use Rattle.lt_base.proofs.Reading.{each_map, each_clock_map}
use Rattle.lt_base.proofs.Solution.{value_local, values_local, present_local}
use Rattle.lt_meaning.specs.declared.state.State.{State}
use Rattle.lt_meaning.specs.Form.{value_in}
use Rattle.lt_meaning.specs.Plan.{DelayForm}
use Rattle.lt_meaning.specs.Lift.{form_of, forms_of, Wait, Source, whole, part, Item}
use Rattle.lt_meaning.specs.Planned.{IsElement, StandsFrom, EachCell, expression_of, inner_calls, inner_delays, MayFollow, InOrder, Lifted}
use Rattle.lt_meaning.specs.Stands.{ChildStands, StepHolds}
use Rattle.lt_meaning.proofs.Standing.{get_take, take_get}
use Rattle.lt_meaning.proofs.Lifting.{means, values_mean}

pub nat_same : (j i : ℕ) → (j ≡ i) ⊎ (j ≢ i)
nat_same zero zero = inl refl
nat_same zero (suc i) = inr (λ h. absurd (omega (arith, h)))
nat_same (suc j) zero = inr (λ h. absurd (omega (arith, h)))
nat_same (suc j) (suc i) = elim (nat_same j i) [ inl h ↦ inl (ap suc h) | inr h ↦ inr (λ e. h (omega (arith, e))) ]

-- ---- cells that are read hold the same

module _ (C : Callee) (es : List Environment) (env env' : Environment) where
  abbrev pub Agrees : ℕ → Type 0
  Agrees s = env s ≡ env' s

  pub agree_off : (cell : ℕ) → ((s : ℕ) → s ≢ cell → env' s ≡ env s) → (x : Item) → EachCell (λ s. s ≢ cell) x → EachCell Agrees x
  agree_off cell h x e = (
    each_map (λ s. s ≢ cell) Agrees (λ s n. sym (h s n)) (expression_of x.source) e.0,
    each_clock_map (λ s. s ≢ cell) Agrees (λ s n. sym (h s n)) x.clock e.1,
  )

  pub present_as : (x : Item) → EachCell Agrees x → present env x.clock ≡ present env' x.clock
  present_as x e = present_local x.clock env env' e.1

  pub value_as : (x : Item) → EachCell Agrees x → value_of C (expression_of x.source) x.clock es env ≡ value_of C (expression_of x.source) x.clock es env'
  value_as x e = value_local C (expression_of x.source) x.clock es env env' e.0

  pub holds_as : (x : Item) → EachCell Agrees x → env x.cell ≡ env' x.cell → StepHolds C es env x → StepHolds C es env' x
  holds_as x e c h p = sym c ∙ h (present_as x e ∙ p) ∙ value_as x e

  rows_as : (g : ℕ) (args : Arguments) (ck : ClockPairs) → EachArgumentRead Agrees args → present env ck ≡ present env' ck
      → rows_at ck (values_of C args ck) (env ∷ es) ≡ rows_at ck (values_of C args ck) (env' ∷ es)
  rows_as g args ck e p =
      let v = values_local C args ck es env env' e in
      let before = rows_at ck (values_of C args ck) es in
      λ i. if p i then v i ∷ before else before

  child_by : (P : State → ℕ → List Row → Type 0) (s : Source) (ck : ClockPairs) → EachRead Agrees (expression_of s) → present env ck ≡ present env' ck → (o : Option (Option (Box State)))
      → ChildStands C P s ck o (env ∷ es) → ChildStands C P s ck o (env' ∷ es)
  child_by P (whole e) ck r p o h = tt
  child_by P (part g args) ck r p None h = elim h [ ]
  child_by P (part g args) ck r p (Some None) h = elim h [ ]
  child_by P (part g args) ck r p (Some (Some b)) h = subst (P b.value g) (rows_as g args ck r p) h

  pub child_as : (P : State → ℕ → List Row → Type 0) (x : Item) → EachCell Agrees x → (o : Option (Option (Box State))) → ChildStands C P x.source x.clock o (env ∷ es) → ChildStands C P x.source x.clock o (env' ∷ es)
  child_as P x e o h = child_by P x.source x.clock e.0 (present_as x e) o h

-- ---- what a step does to its call

-- the call has run on these rows
abbrev pub RanOn : (State → ℕ → List Row → Type 0) → Option (Box State) → ℕ → List Row → Type 0
RanOn P None g rows = ⊥
RanOn P (Some b) g rows = P b.value g rows

pub ran_from : (C : Callee) (P : State → ℕ → List Row → Type 0) (g : ℕ) (args : Arguments) (ck : ClockPairs) (o : Option (Box State)) (es : List Environment)
    → ChildStands C P (part g args) ck (Some o) es → RanOn P o g (rows_at ck (values_of C args ck) es)
ran_from C P g args ck None es h = elim h [ ]
ran_from C P g args ck (Some b) es h = h

ran_to : (C : Callee) (P : State → ℕ → List Row → Type 0) (g : ℕ) (args : Arguments) (ck : ClockPairs) (o : Option (Box State)) (es : List Environment)
    → RanOn P o g (rows_at ck (values_of C args ck) es) → ChildStands C P (part g args) ck (Some o) es
ran_to C P g args ck None es h = elim h [ ]
ran_to C P g args ck (Some b) es h = h

-- what a step gives its cell, and how its call has gone on
abbrev pub Gives : Callee → (State → ℕ → List Row → Type 0) → ℕ → ℕ → Source → Environment → Environment → Option (Box State) → Option (Box State) → Option Value → Type 0
Gives C P k c (whole e) env old o o' v = v ≡ value_in env old (form_of k c e)
Gives C P k c (part g args) env old o o' v =
    let row = map (value_in env old) (forms_of k c args) in (rows : List Row) → RanOn P o g rows → RanOn P o' g (row ∷ rows) × (v ≡ C g (row ∷ rows))

module _ (C : Callee) (P : State → ℕ → List Row → Type 0) (items : List Item) (waits : List Wait) (in_order : InOrder items)
    (needs : (x : Item) → IsElement items x → StandsFrom x.delays_before (inner_delays x.source x.clock) waits)
    (es : List Environment) (old : Environment)
    (kept : (j : ℕ) (w : Wait) → slice_get waits j ≡ Some w → old j ≡ latest w.clock (Some w.first) (value_of C w.right w.clock) es) where
  -- the first i steps are taken
  pub record Progress (cells : List (Option Value)) (children : List (Option (Box State))) (i : ℕ) : Type 0 where
    pub done : (j : ℕ) (x : Item) → j < i → slice_get items j ≡ Some x → StepHolds C es (entry cells) x
    pub ran : (j : ℕ) (x : Item) → j < i → slice_get items j ≡ Some x → ChildStands C P x.source x.clock (slice_get children j) (entry cells ∷ es)
    pub rest : (j : ℕ) (x : Item) → i ≤ j → slice_get items j ≡ Some x → ChildStands C P x.source x.clock (slice_get children j) es

  pub progress_none : (cells : List (Option Value)) (children : List (Option (Box State))) → ((j : ℕ) (x : Item) → slice_get items j ≡ Some x → ChildStands C P x.source x.clock (slice_get children j) es) → Progress cells children 0
  progress_none cells children h = record { done = λ j x l e. absurd (omega arith); ran = λ j x l e. absurd (omega arith); rest = λ j x l e. h j x e }

  module _ (i : ℕ) (x : Item) (at_i : slice_get items i ≡ Some x) (cells cells' : List (Option Value)) (children children' : List (Option (Box State))) (o o' : Option (Box State))
      (progress : Progress cells children i)
      (others : (s : ℕ) → s ≢ x.cell → entry cells' s ≡ entry cells s)
      (child : slice_get children i ≡ Some o) (child' : slice_get children' i ≡ Some o') (siblings : (j : ℕ) → j ≢ i → slice_get children' j ≡ slice_get children j) where
    abbrev env : Environment
    env = entry cells

    abbrev env' : Environment
    env' = entry cells'

    follows : MayFollow (take i items) x
    follows = in_order i x at_i

    own : EachCell (Agrees C es env env') x
    own = agree_off C es env env' x.cell others x follows.own

    before : (j : ℕ) (t : Item) → j < i → slice_get items j ≡ Some t → IsElement (take i items) t
    before j t l e = (j, get_take items i j t l e)

    earlier : (j : ℕ) (t : Item) → j < i → slice_get items j ≡ Some t → EachCell (Agrees C es env env') t × (env t.cell ≡ env' t.cell)
    earlier j t l e =
        let a = follows.apart t (before j t l e) in
        (agree_off C es env env' x.cell others t a.0, sym (others t.cell a.1))

    runs : (t : Item) → IsElement (inner_calls x.delays_before x.cells_before x.source x.clock) t → StepHolds C es env t
    runs t m =
        let n = follows.needs t m in
        let q = take_get items i n.0 t n.1 in
        progress.done n.0 t q.0 q.1

    -- where the clock is absent, nothing happens
    absent_child : (s : Source) (ck : ClockPairs) → present env ck ≡ false → o' ≡ o → ChildStands C P s ck (Some o) es → ChildStands C P s ck (Some o') (env ∷ es)
    absent_child (whole e) ck p q h = tt
    absent_child (part g args) ck p q h =
        ran_to C P g args ck o' (env ∷ es)
        (subst (λ r. RanOn P o' g r) (ap (λ b. if b then values_of C args ck es env ∷ rows_at ck (values_of C args ck) es else rows_at ck (values_of C args ck) es) (sym p))
        (subst (λ p. RanOn P p g (rows_at ck (values_of C args ck) es)) (sym q) (ran_from C P g args ck o es h)))

    -- where it is present, the cell gets the value, and a call its row
    present_value : (s : Source) (k c : ℕ) (ck : ClockPairs) → StandsFrom k (inner_delays s ck) waits → ((t : Item) → IsElement (inner_calls k c s ck) t → StepHolds C es env t) → present env ck ≡ true
        → ChildStands C P s ck (Some o) es → (v : Option Value) → Gives C P k c s env old o o' v
        → (v ≡ value_of C (expression_of s) ck es env) × ChildStands C P s ck (Some o') (env ∷ es)
    present_value (whole e) k c ck d r p h v gives = (gives ∙ means C es env old waits kept e k c ck d r p, tt)
    present_value (part g args) k c ck d r p h v gives =
        let rows = rows_at ck (values_of C args ck) es in
        let row = values_mean C es env old waits kept args k c ck d r p in
        let a = gives rows (ran_from C P g args ck o es h) in
        let there : RanOn P o' g (values_of C args ck es env ∷ rows) = subst (λ r. RanOn P o' g (r ∷ rows)) row a.0 in (
          a.1 ∙ ap (λ r. C g (r ∷ rows)) row,
          ran_to C P g args ck o' (env ∷ es) (subst (λ r. RanOn P o' g r) (ap (λ b. if b then values_of C args ck es env ∷ rows else rows) (sym p)) there),
        )

    at_step : (t : Bool) → present env x.clock ≡ t → (t ≡ false → (cells' ≡ cells) × (o' ≡ o))
        → (t ≡ true → Gives C P x.delays_before x.cells_before x.source env old o o' (env' x.cell))
        → StepHolds C es env' x × ChildStands C P x.source x.clock (Some o') (env' ∷ es)
    at_step false p absent gives =
        let a = absent refl in
        let no : present env' x.clock ≡ false = sym (present_as C es env env' x own) ∙ p in (
          λ yes. absurd (cc),
          child_as C es env env' P x own (Some o') (absent_child x.source x.clock p a.1 (subst (λ q. ChildStands C P x.source x.clock q es) child (progress.rest i x (omega arith) at_i))),
        )
    at_step true p absent gives =
        let a = present_value x.source x.delays_before x.cells_before x.clock (needs x (i, at_i)) runs p (subst (λ q. ChildStands C P x.source x.clock q es) child (progress.rest i x (omega arith) at_i)) (env' x.cell) (gives refl) in (
          λ yes. a.0 ∙ value_as C es env env' x own,
          child_as C es env env' P x own (Some o') a.1,
        )

    pub progress_next : (present env x.clock ≡ false → (cells' ≡ cells) × (o' ≡ o)) → (present env x.clock ≡ true → Gives C P x.delays_before x.cells_before x.source env old o o' (env' x.cell)) → Progress cells' children' (i + 1)
    progress_next absent gives =
        let step = at_step (present env x.clock) refl absent gives in
        record {
          done = λ j t l e. done_by j t (nat_same j i) l e step.0;
          ran = λ j t l e. ran_by j t (nat_same j i) l e step.1;
          rest = λ j t l e. subst (λ q. ChildStands C P t.source t.clock q es) (sym (siblings j (λ h. absurd (omega (arith, h))))) (progress.rest j t (omega arith) e);
        }
      where
        done_by : (j : ℕ) (t : Item) → (j ≡ i) ⊎ (j ≢ i) → j < i + 1 → slice_get items j ≡ Some t → StepHolds C es env' x → StepHolds C es env' t
        done_by j t (inl h) l e s = let same : x ≡ t = cc (at_i, ap (slice_get items) h) in subst (StepHolds C es env') same s
        done_by j t (inr h) l e s =
            let lower : j < i = omega (arith, h) in
            let a = earlier j t lower e in
            holds_as C es env env' t a.0 a.1 (progress.done j t lower e)

        ran_by : (j : ℕ) (t : Item) → (j ≡ i) ⊎ (j ≢ i) → j < i + 1 → slice_get items j ≡ Some t → ChildStands C P x.source x.clock (Some o') (env' ∷ es) → ChildStands C P t.source t.clock (slice_get children' j) (env' ∷ es)
        ran_by j t (inl h) l e s =
            let same : x ≡ t = cc (at_i, ap (slice_get items) h) in
            let there : Some o' ≡ slice_get children' j = sym (ap (slice_get children') h ∙ child') in
            subst (λ q. ChildStands C P t.source t.clock q (env' ∷ es)) there (subst (λ y. ChildStands C P y.source y.clock (Some o') (env' ∷ es)) same s)
        ran_by j t (inr h) l e s =
            let lower : j < i = omega (arith, h) in
            let a = earlier j t lower e in
            subst (λ q. ChildStands C P t.source t.clock q (env' ∷ es)) (sym (siblings j h)) (child_as C es env env' P t a.0 (slice_get children j) (progress.ran j t lower e))

  -- what the delays keep next
  pub kept_next : (cells : List (Option Value)) (w : Wait) (d : DelayForm) (j : ℕ) (v : Option Value) → ((x : Item) → IsElement items x → StepHolds C es (entry cells) x)
      → Lifted items waits w (Some d) → slice_get waits j ≡ Some w
      → v ≡ (if present (entry cells) d.clock then value_in (entry cells) old d.right else old j)
      → v ≡ latest w.clock (Some w.first) (value_of C w.right w.clock) (entry cells ∷ es)
  kept_next cells w d j v all lifted at_j is =
      let e = entry cells in
      let same : d ≡ record { clock = w.clock; first = w.first; right = form_of lifted.delays_before lifted.cells_before w.right } = cc (lifted.is) in
      let go : (t : Bool) → present e w.clock ≡ t
      → (if t then value_in e old (form_of lifted.delays_before lifted.cells_before w.right) else old j) ≡ (if t then value_of C w.right w.clock es e else latest w.clock (Some w.first) (value_of C w.right w.clock) es) =
      elim [
        | true ↦ λ p. means C es e old waits kept w.right lifted.delays_before lifted.cells_before w.clock lifted.delays (λ x m. all x (lifted.calls x m)) p
        | false ↦ λ p. kept j w at_j
      ] in
      is
      ∙ ap (λ (d : DelayForm). if present e d.clock then value_in e old d.right else old j) same
      ∙ go (present e w.clock) refl
