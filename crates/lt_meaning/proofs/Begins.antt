-- A function before the first instant.
use Rattle.std.proofs.Common.{◌≡◌, ℕ, zero, suc, ◌+◌, ◌-◌, ◌<◌, ◌⊎◌, inl, inr, List, [], ◌∷◌, ◌++◌, length, map, get_or, Option, Some, None, refl, sym, ap, subst, ◌∙◌, arith}
use Rattle.std.specs.Prelude.{slice_get}
use Rattle.std.specs.Global.{Box, Vec}
use Rattle.std.proofs.lemmas.List.{length-map}
use Rattle.std.proofs.lemmas.Option.{slice_get_within, get_or_from_slice_get}
use Rattle.lt_base.specs.declared.value.Value.{Value}
use Rattle.lt_base.specs.Program.{Function}
use Rattle.lt_base.specs.Meaning.{ClockPairs, function_of}
use Rattle.lt_base.specs.Behaviour.{calls_of}
use Rattle.lt_meaning.specs.declared.plan.Plan.{Plan}
use Rattle.lt_meaning.specs.declared.plan.Delay.{Delay}
use Rattle.lt_meaning.specs.declared.plan.Step.{Step}
use Rattle.lt_meaning.specs.declared.state.State.{State, out-State}
use Rattle.lt_meaning.specs.Plan.{StepForm, action_form, DelayForm, delay_form}
use Rattle.lt_meaning.specs.Lift.{Source, whole, part, Item, form_of, action_of}
use Rattle.lt_meaning.specs.Planned.{IfCall, Answering, Planned}
use Rattle.lt_meaning.specs.Stands.{ChildStands, StandsOver, StateStands, CanStart, StateStarts, CanStartChild, ChildStarts}
use Rattle.lt_meaning.proofs.Standing.{get_either}
use Rattle.lt_meaning.proofs.Instant.{Deeper, plan_is, steps_number, some_at, map_at, item_at}

-- the calls of the first i steps have begun
abbrev pub Begins : List Plan → List Step → ℕ → List (Option (Box State)) → Type 0
Begins plans steps left children = (j : ℕ) (t : Step) (o : Option (Box State)) → slice_get steps j ≡ Some t → slice_get children j ≡ Some o → ChildStarts plans (action_form t.action) left o

pub begins_none : (plans : List Plan) (steps : List Step) (left : ℕ) (children : List (Option (Box State))) → children ≡ [] → Begins plans steps left children
begins_none plans steps left children e j t o s c = let none : slice_get [] j ≡ Some o = ap (λ l. slice_get l j) (sym e) ∙ c in absurd (cc)

pub can_start_there : (plans : List Plan) (g left : ℕ) → CanStart plans g left → g < length plans
can_start_there plans g left r = let pa = r.planned.plan g r.function r.is in slice_get_within plans g pa.plan pa.is

pub begins_next : (plans : List Plan) (steps : List Step) (left : ℕ) (children : List (Option (Box State))) (t : Step) (o : Option (Box State)) → Begins plans steps left children → slice_get steps (length children) ≡ Some t
    → ChildStarts plans (action_form t.action) left o → Begins plans steps left (children ++ o ∷ [])
begins_next plans steps left children t o b at h j u p s c =
    let go : (slice_get children j ≡ Some p) ⊎ ((i : ℕ) × (j ≡ length children + i) × (slice_get (o ∷ []) i ≡ Some p)) → ChildStarts plans (action_form u.action) left p =
    elim [
      | inl e ↦ b j u p s e
      | inr r ↦
          let last = slice_get_within (o ∷ []) r.0 p r.2 in
          let e = r.1 in
          let first : r.0 ≡ 0 = omega arith in
          let place : j ≡ length children = omega (arith, e, first) in
          let same : o ≡ p = cc (r.2, ap (slice_get (o ∷ [])) first) in
          let step : t ≡ u = cc (at, s, ap (slice_get steps) place) in
          subst (λ (p : Option (Box State)). ChildStarts plans (action_form u.action) left p) same (subst (λ (u : Step). ChildStarts plans (action_form u.action) left o) step h)
    ] in
    go (get_either children (o ∷ []) j p c)

can_child : (plans : List Plan) (k : Planned plans) (top left : ℕ) (s : Source) (d c : ℕ) → IfCall (Answering k.program.funcs) s → IfCall (λ h n. k.height h < top) s → top < left → CanStartChild plans (action_of d c s) (left - 1)
can_child plans k top left (whole e) d c a l h = tt
can_child plans k top left (part f args) d c a l h = record { planned = k; function = a.function; is = a.is; low = omega (arith, l, h) }

module _ (plans : List Plan) (g left : ℕ) (plan : Plan) (here : plan ≡ get_or plans g plan) where
  -- a step's call can begin
  pub child_can : CanStart plans g left → (i : ℕ) (t : Step) → slice_get plan.steps.items i ≡ Some t → CanStartChild plans (action_form t.action) (left - 1)
  child_can r i t at =
      let k = r.planned in
      let of = (k.plan g r.function r.is).plan_of in
      let item = item_at plans k g r.function r.is plan here i t at in
      let x = item.0 in
      subst (λ a. CanStartChild plans a (left - 1)) (sym (ap (λ (f : StepForm). f.action) item.2))
      (can_child plans k (k.height g) left x.source x.delays_before x.cells_before (of.answering x (i, item.1)) (of.lower x (i, item.1)) r.low)

  child_starts : (k : Planned plans) (m : ℕ) (s : Source) (d c : ℕ) (ck : ClockPairs) (o : Option (Box State)) → IfCall (Answering k.program.funcs) s → IfCall (λ h n. k.height h < k.height g) s → k.height g < suc m
      → ChildStarts plans (action_of d c s) m o → ChildStands (calls_of k.program.funcs) (Deeper plans k m) s ck (Some o) []
  child_starts k m (whole e) d c ck o a l h b = tt
  child_starts k m (part f args) d c ck None a l h b = elim b [ ]
  child_starts k m (part f args) d c ck (Some s) a l h b = ([], b k a.function a.is (omega (arith, l, h)))

  module _ (cells kept next : Vec (Option Value)) (children : Vec (Option (Box State)))
      (cells_size : length cells.items ≡ plan.cells) (kept_is : kept.items ≡ map (λ (d : Delay). Some d.first) plan.delays.items) (next_size : length next.items ≡ length plan.delays.items)
      (children_size : length children.items ≡ length plan.steps.items) (begins : Begins plans plan.steps.items (left - 1) children.items) where
    stands : (k : Planned plans) (f : Function) (is : function_of k.program.funcs g ≡ Some f) (m : ℕ) → left ≡ suc m → k.height g < left
        → StandsOver plans k (Deeper plans k m) (record { cells = cells; kept = kept; next = next; children = children }) g [] []
    stands k f is m e low =
        let pa = k.plan g f is in
        let of = pa.plan_of in
        let same = plan_is plans k g f is plan here in
        let delays = ap (λ (p : Plan). length p.delays.items) (sym same) in
        let number = steps_number plans k g f is plan here in
        record {
          function = f;
          is = is;
          cells = cells_size ∙ ap (λ (p : Plan). p.cells) (sym same);
          kept_number = ap length kept_is ∙ length-map plan.delays.items (λ (d : Delay). Some d.first) ∙ delays;
          next_number = next_size ∙ delays;
          children_number = children_size ∙ ap (λ (p : Plan). length p.steps.items) (sym same);
          solves = tt;
          kept = λ j w h.
              let l = slice_get_within of.waits j w h in
              let n = of.delay_number in
              let d = some_at pa.plan.delays.items j (omega (arith, l, n)) in
              let lifted = of.delays j w h in
              let form : delay_form d.0 ≡ record { clock = w.clock; first = w.first; right = form_of lifted.delays_before lifted.cells_before w.right } = cc (map_at delay_form pa.plan.delays.items j d.0 d.1, lifted.is) in
              let there : slice_get plan.delays.items j ≡ Some d.0 = ap (λ (p : Plan). slice_get p.delays.items j) (sym same) ∙ d.1 in
              get_or_from_slice_get kept.items j (Some d.0.first) None (ap (λ l. slice_get l j) kept_is ∙ map_at (λ (d : Delay). Some d.first) plan.delays.items j d.0 there)
              ∙ ap (λ (f : DelayForm). Some f.first) form;
          children = λ i x h.
              let l = slice_get_within of.items i x h in
              let t = some_at plan.steps.items i (omega (arith, l, number)) in
              let o = some_at children.items i (omega (arith, l, number, children_size)) in
              let item = item_at plans k g f is plan here i t.0 t.1 in
              let item_is : item.0 ≡ x = cc (item.1, h) in
              let m_is : left - 1 ≡ m = omega (arith, e) in
              let begun : ChildStarts plans (action_of x.delays_before x.cells_before x.source) m o.0 =
              subst (λ (y : Item). ChildStarts plans (action_of y.delays_before y.cells_before y.source) m o.0) item_is
              (subst (λ a. ChildStarts plans a m o.0) (ap (λ (f : StepForm). f.action) item.2) (subst (λ n. ChildStarts plans (action_form t.0.action) n o.0) m_is (begins i t.0 o.0 t.1 o.1))) in
              subst (λ q. ChildStands (calls_of k.program.funcs) (Deeper plans k m) x.source x.clock q []) (sym o.1)
              (child_starts k m x.source x.delays_before x.cells_before x.clock o.0 (of.answering x (i, h)) (of.lower x (i, h)) (omega (arith, low, e)) begun);
        }

    starts_by : (n : ℕ) → left ≡ n → (k : Planned plans) (f : Function) → function_of k.program.funcs g ≡ Some f → k.height g < left → (s : State) → out-State s ≡ record { cells = cells; kept = kept; next = next; children = children } → StateStands plans k n s g [] []
    starts_by zero e k f is low s o = absurd (omega (arith, e, low))
    starts_by (suc m) e k f is low s o = subst (λ v. StandsOver plans k (Deeper plans k m) v g [] []) (sym o) (stands k f is m e low)

    -- the state stands before the first instant
    pub starts : (s : State) → out-State s ≡ record { cells = cells; kept = kept; next = next; children = children } → StateStarts plans g left s
    starts s o k f is low = starts_by left refl k f is low s o
