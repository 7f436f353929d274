-- One instant of a state.
use Rattle.std.proofs.Common.{◌≡◌, ◌≢◌, ℕ, zero, suc, ◌+◌, ◌<◌, ◌≤◌, true, false, List, [], ◌∷◌, length, map, set, get_or, Option, Some, None, refl, sym, ap, subst, ◌∙◌, arith, ◌⊎◌, inl, inr, get_or-set_other, get_or-set_same}
use Rattle.std.specs.Prelude.{slice_get}
use Rattle.std.specs.Option.{option_map}
use Rattle.std.specs.Global.{Box, Vec}
use Rattle.std.specs.Vec.{with_item}
use Rattle.std.proofs.lemmas.List.{length-map, length-set}
use Rattle.std.proofs.lemmas.Option.{slice_get-map, slice_get-get_or, slice_get_within, slice_get_past, get_or_from_slice_get}
use Rattle.lt_base.specs.declared.value.Value.{Value}
use Rattle.lt_base.specs.Expression.{Arguments, no_arguments, argument}
use Rattle.lt_base.specs.Program.{Function}
use Rattle.lt_base.specs.Meaning.{ClockPairs, Environment, Row, rows_at, values_of, entry, function_of, present}
use Rattle.lt_base.specs.Behaviour.{calls_of}
use Rattle.lt_base.specs.Checked.{argument_count}
use Rattle.lt_meaning.specs.declared.plan.Plan.{Plan}
use Rattle.lt_meaning.specs.declared.plan.Step.{Step}
use Rattle.lt_meaning.specs.declared.state.State.{State, out-State}
use Rattle.lt_meaning.specs.declared.state.State.TheOpen.{State-F}
use Rattle.lt_meaning.specs.Form.{value_in}
use Rattle.lt_meaning.specs.Plan.{StepForm, action_form, step_form, plan_inputs, inputs_at}
use Rattle.lt_meaning.specs.Lift.{delay_count, call_count, forms_of, Source, whole, part, Item, action_of, step_of}
use Rattle.lt_meaning.specs.Planned.{IfCall, Answering, PlanAt, Planned}
use Rattle.lt_meaning.specs.Stands.{ChildStands, StandsOver, StateStands, StandsSomewhere, StepCanAct, StepActs}
use Rattle.lt_meaning.proofs.Running.{Gives, Progress, progress_none, progress_next}

-- so far in an instant
pub record Partly (plans : List Plan) (k : Planned plans) (P : State → ℕ → List Row → Type 0) (s : State-F State) (g : ℕ) (rows : List Row) (es : List Environment) (st : StandsOver plans k P s g rows es) (t : State-F State) (i : ℕ) : Type 0 where
  pub cells : length t.cells.items ≡ length s.cells.items
  pub kept : t.kept.items ≡ s.kept.items
  pub next : length t.next.items ≡ length s.next.items
  pub children : length t.children.items ≡ length s.children.items
  pub inputs : (x : ℕ) → x < st.function.n_in → entry t.cells.items x ≡ entry s.cells.items x
  pub progress : Progress (calls_of k.program.funcs) P (k.plan g st.function st.is).plan_of.items (k.plan g st.function st.is).plan_of.waits (k.plan g st.function st.is).plan_of.in_order (k.plan g st.function st.is).plan_of.needs es (entry s.kept.items) st.kept t.cells.items t.children.items i

-- where the calls within a state have come, with that many nested calls
abbrev pub Deeper : (plans : List Plan) → Planned plans → ℕ → State → ℕ → List Row → Type 0
Deeper plans k n u h more = (past : List Environment) × StateStands plans k n u h more past

abbrev pub PartlyBy : (plans : List Plan) (k : Planned plans) (n : ℕ) (s : State) (g : ℕ) (rows : List Row) (es : List Environment) → StateStands plans k n s g rows es → State-F State → ℕ → Type 0
PartlyBy plans k zero s g rows es st t i = Unit {0}
PartlyBy plans k (suc n) s g rows es st t i = Partly plans k (Deeper plans k n) (out-State s) g rows es st t i

-- wherever the state stood
abbrev pub Along : List Plan → ℕ → State → State-F State → ℕ → Type 0
Along plans g s t i = (k : Planned plans) (n : ℕ) (rows : List Row) (es : List Environment) (st : StateStands plans k n s g rows es) → PartlyBy plans k n s g rows es st t i

pub along_none : (plans : List Plan) (g : ℕ) (s : State) → Along plans g s (out-State s) 0
along_none plans g s k zero rows es st = tt
along_none plans g s k (suc n) rows es st =
    let o = (k.plan g st.function st.is).plan_of in
    record {
      cells = refl;
      kept = refl;
      next = refl;
      children = refl;
      inputs = λ x l. refl;
      progress = progress_none (calls_of k.program.funcs) (Deeper plans k n) o.items o.waits o.in_order o.needs es (entry (out-State s).kept.items) st.kept (out-State s).cells.items (out-State s).children.items st.children;
    }

-- ---- what the plan says of a step

pub some_at : {A : Type 0} (xs : List A) (i : ℕ) → i < length xs → (x : A) × (slice_get xs i ≡ Some x)
some_at [] i l = absurd (omega arith)
some_at (x ∷ xs) zero l = (x, refl)
some_at (x ∷ xs) (suc i) l = some_at xs i (omega arith)

pub map_at : {A B : Type 0} (f : A → B) (xs : List A) (i : ℕ) (x : A) → slice_get xs i ≡ Some x → slice_get (map f xs) i ≡ Some (f x)
map_at f xs i x h = slice_get-map f xs i ∙ ap (option_map f) h

pub at_index : {A : Type 0} (xs : List A) (i : ℕ) (x : A) → i < length xs → x ≡ get_or xs i x → slice_get xs i ≡ Some x
at_index xs i x l h = slice_get-get_or xs i x l ∙ ap Some (sym h)

module _ (plans : List Plan) (k : Planned plans) (g : ℕ) (f : Function) (is : function_of k.program.funcs g ≡ Some f) (plan : Plan) (here : plan ≡ get_or plans g plan) where
  abbrev planned : PlanAt k.program.funcs k.height f plans g
  planned = k.plan g f is

  pub plan_is : planned.plan ≡ plan
  plan_is = sym (here ∙ get_or_from_slice_get plans g planned.plan plan planned.is)

  pub inputs_are : inputs_at plans g ≡ f.n_in
  inputs_are = ap plan_inputs planned.is ∙ planned.plan_of.inputs

  pub steps_number : length plan.steps.items ≡ length planned.plan_of.items
  steps_number =
      ap (λ (p : Plan). length p.steps.items) (sym plan_is)
      ∙ sym (length-map planned.plan.steps.items step_form)
      ∙ ap length planned.plan_of.steps
      ∙ length-map planned.plan_of.items step_of

  -- the step at a place, and what it stands for
  pub item_at : (i : ℕ) (t : Step) → slice_get plan.steps.items i ≡ Some t → (x : Item) × (slice_get planned.plan_of.items i ≡ Some x) × (step_form t ≡ step_of x)
  item_at i t h =
      let l = slice_get_within plan.steps.items i t h in
      let n = steps_number in
      let x = some_at planned.plan_of.items i (omega (arith, n, l)) in
      let there : slice_get planned.plan.steps.items i ≡ Some t = ap (λ (p : Plan). slice_get p.steps.items i) plan_is ∙ h in
      let two : Some (step_form t) ≡ Some (step_of x.0) =
      sym (map_at step_form planned.plan.steps.items i t there) ∙ ap (λ l. slice_get l i) planned.plan_of.steps ∙ map_at step_of planned.plan_of.items i x.0 x.1 in
      (x.0, x.1, cc (two))

forms_number : (args : Arguments) (k c : ℕ) → length (forms_of k c args) ≡ argument_count args
forms_number no_arguments k c = refl
forms_number (argument e args) k c = let n = forms_number args (k + delay_count e) (c + call_count e) in omega (arith, n)

-- a step that was taken gives its cell what it stands for
gives : (plans : List Plan) (k : Planned plans) (n : ℕ) (s : Source) (d c : ℕ) (env old : Environment) (o o' : Option (Box State)) (v : Option Value) → IfCall (Answering k.program.funcs) s
    → StepActs plans (action_of d c s) env old o o' v → Gives (calls_of k.program.funcs) (Deeper plans k n) d c s env old o o' v
gives plans k n (whole e) d c env old o o' v a h = h
gives plans k n (part g args) d c env old None o' v a h = λ rows r. elim r [ ]
gives plans k n (part g args) d c env old (Some b) None v a h = elim h [ ]
gives plans k n (part g args) d c env old (Some b) (Some b') v a h =
    let number = length-map (forms_of d c args) (value_in env old) ∙ forms_number args d c in
    λ rows r. h k n rows r.0 r.1 (subst (Answering k.program.funcs g) (sym number) a)

-- it can be taken
can_act : (plans : List Plan) (k : Planned plans) (n : ℕ) (s : Source) (d c : ℕ) (ck : ClockPairs) (o : Option (Box State)) (es : List Environment) → IfCall (Answering k.program.funcs) s
    → ChildStands (calls_of k.program.funcs) (Deeper plans k n) s ck (Some o) es → StepCanAct plans (action_of d c s) o
can_act plans k n (whole e) d c ck o es a h = tt
can_act plans k n (part g args) d c ck None es a h = elim h [ ]
can_act plans k n (part g args) d c ck (Some b) es a h = record {
  planned = k;
  nested = n;
  rows = rows_at ck (values_of (calls_of k.program.funcs) args ck) es;
  past = h.0;
  stands = h.1;
  answering = subst (Answering k.program.funcs g) (sym (forms_number args d c)) a;
}

module _ (plans : List Plan) (g : ℕ) (s : State) (plan : Plan) (here : plan ≡ get_or plans g plan) where
  children_by : (k : Planned plans) (n : ℕ) (rows : List Row) (es : List Environment) (st : StateStands plans k n s g rows es) (v : State-F State) (i : ℕ) → PartlyBy plans k n s g rows es st v i
      → length v.children.items ≡ length plan.steps.items
  children_by k zero rows es st v i p = elim st [ ]
  children_by k (suc n) rows es st v i p = p.children ∙ st.children_number ∙ ap (λ (q : Plan). length q.steps.items) (plan_is plans k g st.function st.is plan here)

  -- there is room for the calls
  pub children_are : StandsSomewhere plans g s → (v : State-F State) (i : ℕ) → Along plans g s v i → length v.children.items ≡ length plan.steps.items
  children_are r v i along = children_by r.0 r.1 r.2 r.3 r.4 v i (along r.0 r.1 r.2 r.3 r.4)

  delays_by : (k : Planned plans) (n : ℕ) (rows : List Row) (es : List Environment) (st : StateStands plans k n s g rows es) (v : State-F State) (i : ℕ) → PartlyBy plans k n s g rows es st v i
      → (length v.kept.items ≡ length plan.delays.items) × (length v.next.items ≡ length plan.delays.items)
  delays_by k zero rows es st v i p = elim st [ ]
  delays_by k (suc n) rows es st v i p =
      let same = ap (λ (q : Plan). length q.delays.items) (plan_is plans k g st.function st.is plan here) in
      (ap length p.kept ∙ st.kept_number ∙ same, p.next ∙ st.next_number ∙ same)

  -- and for what the delays keep
  pub delays_are : StandsSomewhere plans g s → (v : State-F State) (i : ℕ) → Along plans g s v i → (length v.kept.items ≡ length plan.delays.items) × (length v.next.items ≡ length plan.delays.items)
  delays_are r v i along = delays_by r.0 r.1 r.2 r.3 r.4 v i (along r.0 r.1 r.2 r.3 r.4)

  plan_by : (k : Planned plans) (n : ℕ) (rows : List Row) (es : List Environment) → StateStands plans k n s g rows es → g < length plans
  plan_by k zero rows es st = elim st [ ]
  plan_by k (suc n) rows es st = slice_get_within plans g (k.plan g st.function st.is).plan (k.plan g st.function st.is).is

  pub plan_there : StandsSomewhere plans g s → g < length plans
  plan_there r = plan_by r.0 r.1 r.2 r.3 r.4

  step_by : (k : Planned plans) (n : ℕ) (rows : List Row) (es : List Environment) (st : StateStands plans k n s g rows es) (v : State-F State) (i : ℕ) (t : Step) → slice_get plan.steps.items i ≡ Some t
      → (o : Option (Box State)) → slice_get v.children.items i ≡ Some o → PartlyBy plans k n s g rows es st v i
      → (t.cell < length v.cells.items) × StepCanAct plans (action_form t.action) o
  step_by k zero rows es st v i t at o child p = elim st [ ]
  step_by k (suc n) rows es st v i t at o child p =
      let pa = k.plan g st.function st.is in
      let item = item_at plans k g st.function st.is plan here i t at in
      let x = item.0 in
      let m = item.2 in
      let inside = (pa.plan_of.cells x (i, item.1)).1 in
      let cell : t.cell ≡ x.cell = ap (λ (f : StepForm). f.cell) m in
      let size : length v.cells.items ≡ pa.plan.cells = p.cells ∙ st.cells in
      let rest = subst (λ q. ChildStands (calls_of k.program.funcs) (Deeper plans k n) x.source x.clock q es) child (p.progress.rest i x (omega arith) item.1) in
      let can = can_act plans k n x.source x.delays_before x.cells_before x.clock o es (pa.plan_of.answering x (i, item.1)) rest in
      (omega (arith, inside, cell, size), subst (λ a. StepCanAct plans a o) (sym (ap (λ (f : StepForm). f.action) m)) can)

  -- the step can be taken
  pub step_can : StandsSomewhere plans g s → (v : State-F State) (i : ℕ) → Along plans g s v i → (t : Step) → slice_get plan.steps.items i ≡ Some t → (o : Option (Box State)) → slice_get v.children.items i ≡ Some o
      → (t.cell < length v.cells.items) × StepCanAct plans (action_form t.action) o
  step_can r v i along t at o child = step_by r.0 r.1 r.2 r.3 r.4 v i t at o child (along r.0 r.1 r.2 r.3 r.4)

below : (j n : ℕ) → (j < n) ⊎ (n ≤ j)
below j zero = inr (omega arith)
below zero (suc n) = inl (omega arith)
below (suc j) (suc n) = elim (below j n) [ inl l ↦ inl (omega (arith, l)) | inr l ↦ inr (omega (arith, l)) ]

pub set_same : {A : Type 0} (xs : List A) (i : ℕ) (a : A) → i < length xs → slice_get (set xs i a) i ≡ Some a
set_same xs i a l = let n = length-set xs i a in slice_get-get_or (set xs i a) i a (omega (arith, n)) ∙ ap Some (get_or-set_same xs i a a l)

pub set_other : {A : Type 0} (xs : List A) (i j : ℕ) (a : A) → j ≢ i → slice_get (set xs i a) j ≡ slice_get xs j
set_other xs i j a ne =
    let n = length-set xs i a in
    elim (below j (length xs)) [
      | inl l ↦ slice_get-get_or (set xs i a) j a (omega (arith, n)) ∙ ap Some (get_or-set_other xs i j a a ne) ∙ sym (slice_get-get_or xs j a l)
      | inr l ↦ slice_get_past (set xs i a) j (omega (arith, n)) ∙ sym (slice_get_past xs j l)
    ]

-- what a step did
pub record Took (plans : List Plan) (t : StepForm) (old : Environment) (cells cells' : List (Option Value)) (o o' : Option (Box State)) : Type 0 where
  pub size : length cells' ≡ length cells
  pub others : (s : ℕ) → s ≢ t.cell → entry cells' s ≡ entry cells s
  pub absent : present (entry cells) t.clock ≡ false → (cells' ≡ cells) × (o' ≡ o)
  pub acts : present (entry cells) t.clock ≡ true → StepActs plans t.action (entry cells) old o o' (entry cells' t.cell)

module _ (plans : List Plan) (g : ℕ) (s : State) (plan : Plan) (here : plan ≡ get_or plans g plan) (v : State-F State) (i : ℕ) (t : Step) (at : slice_get plan.steps.items i ≡ Some t)
    (o o' : Option (Box State)) (child : slice_get v.children.items i ≡ Some o) (cells' : Vec (Option Value))
    (took : Took plans (step_form t) (entry v.kept.items) v.cells.items cells'.items o o') where
  abbrev after : State-F State
  after = record { cells = cells'; kept = v.kept; next = v.next; children = with_item v.children i o' }

  next_by : (k : Planned plans) (n : ℕ) (rows : List Row) (es : List Environment) (st : StateStands plans k n s g rows es) → PartlyBy plans k n s g rows es st v i → PartlyBy plans k n s g rows es st after (i + 1)
  next_by k zero rows es st p = tt
  next_by k (suc n) rows es st p =
      let pa = k.plan g st.function st.is in
      let of = pa.plan_of in
      let item = item_at plans k g st.function st.is plan here i t at in
      let x = item.0 in
      let is : Took plans (step_of x) (entry v.kept.items) v.cells.items cells'.items o o' = subst (λ f. Took plans f (entry v.kept.items) v.cells.items cells'.items o o') item.2 took in
      let there : Took plans (step_of x) (entry (out-State s).kept.items) v.cells.items cells'.items o o' = subst (λ l. Took plans (step_of x) (entry l) v.cells.items cells'.items o o') p.kept is in
      let room : i < length v.children.items = slice_get_within v.children.items i o child in
      let low = (of.cells x (i, item.1)).0 in
      record {
        cells = took.size ∙ p.cells;
        kept = p.kept;
        next = p.next;
        children = length-set v.children.items i o' ∙ p.children;
        inputs = λ y l. there.others y (λ e. absurd (omega (arith, e, low, l))) ∙ p.inputs y l;
        progress = progress_next (calls_of k.program.funcs) (Deeper plans k n) of.items of.waits of.in_order of.needs es (entry (out-State s).kept.items) st.kept i x item.1 v.cells.items cells'.items v.children.items (set v.children.items i o') o o'
            p.progress there.others child (set_same v.children.items i o' room) (λ j ne. set_other v.children.items i j o' ne) there.absent
            (λ q. gives plans k n x.source x.delays_before x.cells_before (entry v.cells.items) (entry (out-State s).kept.items) o o' (entry cells'.items x.cell) (of.answering x (i, item.1)) (there.acts q));
      }

  -- one step more
  pub along_next : Along plans g s v i → Along plans g s after (i + 1)
  along_next along k n rows es st = next_by k n rows es st (along k n rows es st)

-- the calls from the i-th on are as they were
abbrev pub Unvisited : State-F State → State-F State → ℕ → Type 0
Unvisited s v i = (length v.children.items ≡ length s.children.items) × ((j : ℕ) (o : Option (Box State)) → i ≤ j → get_or v.children.items j o ≡ get_or s.children.items j o)

pub unvisited_next : (s v : State-F State) (i : ℕ) (cells : Vec (Option Value)) (o : Option (Box State)) → Unvisited s v i
    → Unvisited s (record { cells = cells; kept = v.kept; next = v.next; children = with_item v.children i o }) (i + 1)
unvisited_next s v i cells o u = (
  length-set v.children.items i o ∙ u.0,
  λ j d l. get_or-set_other v.children.items i j o d (λ e. absurd (omega (arith, e, l))) ∙ u.1 j d (omega arith),
)
