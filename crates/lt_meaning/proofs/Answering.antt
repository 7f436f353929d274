-- A whole instant of a state, and what it answers.
use Rattle.std.proofs.Common.{◌≡◌, ℕ, zero, suc, ◌<◌, ◌≤◌, true, List, [], ◌∷◌, length, get_or, Option, Some, None, refl, sym, ap, subst, ◌∙◌, arith}
use Rattle.std.specs.Prelude.{slice_get}
use Rattle.std.specs.Global.{Box, Vec}
use Rattle.std.proofs.lemmas.List.{get_or-take}
use Rattle.std.proofs.lemmas.Option.{slice_get_within}
use Rattle.lt_base.specs.declared.value.Value.{Value}
use Rattle.lt_base.specs.Expression.{Expression}
use Rattle.lt_base.specs.Program.{Function}
use Rattle.lt_base.specs.Meaning.{Environment, Row, Callee, entry, clock_of, right_of, present, latest, value_of}
use Rattle.lt_base.specs.Solution.{Given, Solves}
use Rattle.lt_base.specs.Behaviour.{calls_of}
use Rattle.lt_base.proofs.Lookups.{is_input}
use Rattle.lt_base.proofs.Defined.{good_function, clocked_function, causal_function, program_closed}
use Rattle.lt_base.proofs.Streams.{call_is}
use Rattle.lt_meaning.specs.declared.plan.Plan.{Plan}
use Rattle.lt_meaning.specs.declared.plan.Delay.{Delay}
use Rattle.lt_meaning.specs.declared.state.State.{State, out-State}
use Rattle.lt_meaning.specs.declared.state.State.TheOpen.{State-F}
use Rattle.lt_meaning.specs.Plan.{delay_form, next_kept, plan_inputs, inputs_at}
use Rattle.lt_meaning.specs.Lift.{Wait, Item}
use Rattle.lt_meaning.specs.Planned.{IsElement, Lifted, Answering, PlanAt, Planned}
use Rattle.lt_meaning.specs.Stands.{cells_of, ChildStands, StandsOver, StateStands, StateAdvances, CanRun, StepHolds, row_in}
use Rattle.lt_meaning.proofs.Running.{kept_next}
use Rattle.lt_meaning.proofs.Instant.{Partly, PartlyBy, Deeper, Along, plan_is, inputs_are, steps_number, some_at, map_at}

-- the delays keep on after these cells' values
abbrev pub KeepsOn : Plan → State-F State → List (Option Value) → Type 0
KeepsOn plan v next = (j : ℕ) (d : Delay) → slice_get plan.delays.items j ≡ Some d → entry next j ≡ next_kept (entry v.cells.items) (entry v.kept.items) d j

module _ (plans : List Plan) (g : ℕ) (s : State) (plan : Plan) (here : plan ≡ get_or plans g plan) (v : State-F State) (i : ℕ) (all : length plan.steps.items ≤ i)
    (w : State-F State) (same_cells : w.cells.items ≡ v.cells.items) (same_children : w.children.items ≡ v.children.items)
    (kept_size : length w.kept.items ≡ length plan.delays.items) (next_size : length w.next.items ≡ length plan.delays.items) (keeps : KeepsOn plan v w.kept.items) where
  module _ (k : Planned plans) (n : ℕ) (rows : List Row) (es : List Environment) (st : StandsOver plans k (Deeper plans k n) (out-State s) g rows es)
      (p : Partly plans k (Deeper plans k n) (out-State s) g rows es st v i) where
    abbrev f : Function
    f = st.function

    abbrev C : Callee
    C = calls_of k.program.funcs

    abbrev pa : PlanAt k.program.funcs k.height f plans g
    pa = k.plan g f st.is

    abbrev env : Environment
    env = entry v.cells.items

    abbrev row : Row
    row = row_in plans g s

    holds : (x : Item) → IsElement pa.plan_of.items x → StepHolds C es env x
    holds x m =
        let l = slice_get_within pa.plan_of.items m.0 x m.1 in
        let number = steps_number plans k g f st.is plan here in
        p.progress.done m.0 x (omega (arith, l, number)) m.1

    obeys_by : (x : ℕ) → x < length f.decls → (o : Option Expression) → right_of f.eqs x ≡ o
        → Given o (env x ≡ entry row x) (λ e. present env (clock_of f.decls x) ≡ true → env x ≡ value_of C e (clock_of f.decls x) es env)
    obeys_by x d None e =
        let input = is_input f (good_function k.program k.good k.checked g f st.is) x d e in
        let number = inputs_are plans k g f st.is plan here in
        p.inputs x input ∙ sym (get_or-take (inputs_at plans g) (cells_of s) x None (omega (arith, input, number)))
    obeys_by x d (Some a) e = let q = pa.plan_of.equations x a e in holds _ q.2

    solves : Solves C f (env ∷ es) (row ∷ rows)
    solves = (λ x d. obeys_by x d (right_of f.eqs x) refl, st.solves)

    kept : (j : ℕ) (u : Wait) → slice_get pa.plan_of.waits j ≡ Some u → entry w.kept.items j ≡ latest u.clock (Some u.first) (value_of C u.right u.clock) (env ∷ es)
    kept j u h =
        let q = plan_is plans k g f st.is plan here in
        let l = slice_get_within pa.plan_of.waits j u h in
        let number = pa.plan_of.delay_number in
        let d = some_at pa.plan.delays.items j (omega (arith, l, number)) in
        let there : slice_get plan.delays.items j ≡ Some d.0 = ap (λ (q : Plan). slice_get q.delays.items j) (sym q) ∙ d.1 in
        let lifted = subst (Lifted pa.plan_of.items pa.plan_of.waits u) (map_at delay_form pa.plan.delays.items j d.0 d.1) (pa.plan_of.delays j u h) in
        let old : entry v.kept.items ≡ entry (out-State s).kept.items = ap entry p.kept in
        kept_next C (Deeper plans k n) pa.plan_of.items pa.plan_of.waits pa.plan_of.in_order pa.plan_of.needs es (entry (out-State s).kept.items) st.kept v.cells.items u (delay_form d.0) j (entry w.kept.items j) holds lifted h
        (keeps j d.0 there ∙ ap (λ o. next_kept env o d.0 j) old)

    stands : StandsOver plans k (Deeper plans k n) w g (row ∷ rows) (env ∷ es)
    stands =
        let same = ap (λ (q : Plan). length q.delays.items) (plan_is plans k g f st.is plan here) in
        record {
          function = f;
          is = st.is;
          cells = ap length same_cells ∙ p.cells ∙ st.cells;
          kept_number = kept_size ∙ sym same;
          next_number = next_size ∙ sym same;
          children_number = ap length same_children ∙ p.children ∙ st.children_number;
          solves = solves;
          kept = kept;
          children = λ j x h.
              let l = slice_get_within pa.plan_of.items j x h in
              let number = steps_number plans k g f st.is plan here in
              subst (λ c. ChildStands C (Deeper plans k n) x.source x.clock (slice_get c j) (env ∷ es)) (sym same_children) (p.progress.ran j x (omega (arith, l, number)) h);
        }

  instant_by : (t : State) → out-State t ≡ w → (k : Planned plans) (n : ℕ) (rows : List Row) (es : List Environment) (st : StateStands plans k n s g rows es) → PartlyBy plans k n s g rows es st v i
      → StateStands plans k n t g (row_in plans g s ∷ rows) (entry (cells_of t) ∷ es)
  instant_by t e k zero rows es st p = elim st [ ]
  instant_by t e k (suc n) rows es st p =
      subst (λ u. StandsOver plans k (Deeper plans k n) u g (row_in plans g s ∷ rows) (entry u.cells.items ∷ es)) (sym e)
      (subst (λ c. StandsOver plans k (Deeper plans k n) w g (row_in plans g s ∷ rows) (entry c ∷ es)) (sym same_cells) (stands k n rows es st p))

  -- the state has come one instant further
  pub instant : Along plans g s v i → (t : State) → out-State t ≡ w → StateAdvances plans g s t
  instant along t e k n rows es st = instant_by t e k n rows es st (along k n rows es st)

-- ---- what a call answers

module _ (plans : List Plan) (g : ℕ) where
  -- what the cells hold does not matter between instants
  pub refilled : (k : Planned plans) (n : ℕ) (rows : List Row) (es : List Environment) (s t : State) (v : State-F State) → out-State t ≡ v → length v.cells.items ≡ length (cells_of s)
      → v.kept ≡ (out-State s).kept → v.next ≡ (out-State s).next → v.children ≡ (out-State s).children → StateStands plans k n s g rows es → StateStands plans k n t g rows es
  refilled k zero rows es s t v e size kept next children st = st
  refilled k (suc n) rows es s t v e size kept next children st =
      let of = (k.plan g st.function st.is).plan_of in
      let there : StandsOver plans k (Deeper plans k n) v g rows es = record {
        function = st.function;
        is = st.is;
        cells = size ∙ st.cells;
        kept_number = ap (λ (o : Vec (Option Value)). length o.items) kept ∙ st.kept_number;
        next_number = ap (λ (o : Vec (Option Value)). length o.items) next ∙ st.next_number;
        children_number = ap (λ (o : Vec (Option (Box State))). length o.items) children ∙ st.children_number;
        solves = st.solves;
        kept = λ j w h. ap (λ (o : Vec (Option Value)). entry o.items j) kept ∙ st.kept j w h;
        children = λ j x h. subst (λ (o : Vec (Option (Box State))). ChildStands (calls_of k.program.funcs) (Deeper plans k n) x.source x.clock (slice_get o.items j) es) (sym children) (st.children j x h);
      } in
      subst (λ u. StandsOver plans k (Deeper plans k n) u g rows es) (sym e) there

  there_by : (k : Planned plans) (n : ℕ) (rows : List Row) (es : List Environment) (s : State) → StateStands plans k n s g rows es → g < length plans
  there_by k zero rows es s st = elim st [ ]
  there_by k (suc n) rows es s st = slice_get_within plans g (k.plan g st.function st.is).plan (k.plan g st.function st.is).is

  pub can_run_there : (n : ℕ) (s : State) → CanRun plans g n s → g < length plans
  can_run_there n s r = there_by r.planned r.nested r.rows r.past s r.stands

  fill_by : (k : Planned plans) (n m : ℕ) (rows : List Row) (es : List Environment) (s : State) → StateStands plans k n s g rows es → Answering k.program.funcs g m → m ≤ length (cells_of s)
  fill_by k zero m rows es s st a = elim st [ ]
  fill_by k (suc n) m rows es s st a =
      let of = (k.plan g st.function st.is).plan_of in
      let same : a.function ≡ st.function = cc (a.is, st.is) in
      let inputs : st.function.n_in ≡ m = ap (λ (f : Function). f.n_in) (sym same) ∙ a.inputs in
      let good = (good_function k.program k.good k.checked g st.function st.is).inputs in
      let low = of.variables in
      let size = st.cells in
      omega (arith, inputs, good, low, size)

  -- there is room for the arguments
  pub can_fill : (n : ℕ) (s : State) → CanRun plans g n s → n ≤ length (cells_of s)
  can_fill n s r = fill_by r.planned r.nested n r.rows r.past s r.stands r.answering

  -- the arguments are the inputs
  pub row_number : (k : Planned plans) (n m : ℕ) (rows : List Row) (es : List Environment) (s : State) → StateStands plans k n s g rows es → Answering k.program.funcs g m → inputs_at plans g ≡ m
  row_number k zero m rows es s st a = elim st [ ]
  row_number k (suc n) m rows es s st a =
      let pa = k.plan g st.function st.is in
      let same : a.function ≡ st.function = cc (a.is, st.is) in
      ap plan_inputs pa.is ∙ pa.plan_of.inputs ∙ ap (λ (f : Function). f.n_in) (sym same) ∙ a.inputs

module _ (plans : List Plan) (g : ℕ) (plan : Plan) (here : plan ≡ get_or plans g plan) where
  -- there is an output
  pub output_room : (k : Planned plans) (n m : ℕ) (rows : List Row) (es : List Environment) (s : State) → StateStands plans k n s g rows es → Answering k.program.funcs g m → plan.output < length (cells_of s)
  output_room k zero m rows es s st a = elim st [ ]
  output_room k (suc n) m rows es s st a =
      let f = st.function in
      let of = (k.plan g f st.is).plan_of in
      let same : a.function ≡ f = cc (a.is, st.is) in
      let outs : f.outs ≡ a.output ∷ [] = ap (λ (f : Function). f.outs) (sym same) ∙ a.outs in
      let declared : a.output < length f.decls = subst (λ (f : Function). a.output < length f.decls) same a.declared in
      let output : plan.output ≡ a.output = ap (λ (p : Plan). p.output) (sym (plan_is plans k g f st.is plan here)) ∙ of.output a.output [] outs in
      let low = of.variables in
      let size = st.cells in
      omega (arith, declared, output, low, size)

  pub answered_by : (k : Planned plans) (n : ℕ) (row : Row) (rows : List Row) (env : Environment) (past : List Environment) (t : State) → StateStands plans k n t g (row ∷ rows) (env ∷ past) → Answering k.program.funcs g (length row)
      → env plan.output ≡ calls_of k.program.funcs g (row ∷ rows)
  answered_by k zero row rows env past t st a = elim st [ ]
  answered_by k (suc n) row rows env past t st a =
      let f = st.function in
      let fs = k.program.funcs in
      let C = calls_of fs in
      let same : a.function ≡ f = cc (a.is, st.is) in
      let outs : f.outs ≡ a.output ∷ [] = ap (λ (f : Function). f.outs) (sym same) ∙ a.outs in
      let declared : a.output < length f.decls = subst (λ (f : Function). a.output < length f.decls) same a.declared in
      let on_base : clock_of f.decls a.output ≡ [] = ap (λ (f : Function). clock_of f.decls a.output) (sym same) ∙ a.on_base in
      let output : plan.output ≡ a.output = ap (λ (p : Plan). p.output) (sym (plan_is plans k g f st.is plan here)) ∙ (k.plan g f st.is).plan_of.output a.output [] outs in
      let causal = causal_function k.program k.good k.checked g f st.is in
      let clocked = clocked_function k.program k.good k.checked g f st.is in
      let closed = program_closed k.program k.good k.checked in
      ap env output ∙ sym (call_is C fs f g (closed.calls g f st.is) causal clocked a.output outs declared on_base env past row rows st.solves)
