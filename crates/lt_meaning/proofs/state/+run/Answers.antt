use Rattle.std.proofs.Common.{◌≡◌, ◌<◌, ◌≤◌, ◌+◌, ◌∷◌, None, List, Option, map, take, refl, length, sym, ap, subst, ◌∙◌, arith, rules}
use Rattle.std.specs.Prelude.{slice_get}
use Rattle.std.specs.Global.{Vec}
use Rattle.std.specs.Vec.{with_item}
use Rattle.lt_base.specs.declared.value.Value.{Value}
use Rattle.std.proofs.lemmas.List.{length-map}
use Rattle.std.proofs.lemmas.Option.{get_or_from_slice_get}
use Rattle.lt_base.specs.Meaning.{Row, entry}
use Rattle.lt_meaning.specs.declared.state.State.{State, out-State}
use Rattle.lt_meaning.specs.declared.state.State.TheOpen.{State-F}
use Rattle.lt_meaning.specs.declared.state.State.TheViews.{out-roll-State, roll-State, the_lemmas}
use Rattle.lt_meaning.specs.Form.{node_form, value_in}
use Rattle.lt_meaning.specs.Plan.{action_form, step_form, next_kept, inputs_at}
use Rattle.lt_meaning.specs.Stands.{StepActs, StateStands, cells_of, row_in}
use Rattle.lt_meaning.proofs.Instant.{Along, Took, along_none, along_next, children_are, delays_are, step_can, at_index, Unvisited, unvisited_next}
use Rattle.lt_meaning.proofs.Answering.{KeepsOn, instant, refilled, can_run_there, can_fill, row_number, output_room, answered_by}
use Rattle.lt_meaning.proofs.state.+run.Goals as goal

pub run-loop-i-init : goal.run-loop-i-init
run-loop-i-init t c = record { unvisited = search rules; along = along_none c.args.plans.now c.args.g c.args.state.now }

pub run-index_mut-requires : goal.run-index_mut-requires
run-index_mut-requires t c =
    let plan = c.index-plans-g.result in
    let v = out-State c.loop-i.state in
    let n = children_are c.args.plans.now c.args.g c.args.state.now plan c.index-plans-g.is c.requires v c.loop-i.i c.loop-i.invariant.along in
    let a = v.children.ok.0 in
    let b = plan.steps.ok.0 in
    let e = c.len-i-end.ensures in
    omega (arith, n, a, b, e)

pub run-take-requires : goal.run-take-requires
run-take-requires t c =
    let plan = c.index-plans-g.result in
    let v = out-State c.loop-i.state in
    let n = children_are c.args.plans.now c.args.g c.args.state.now plan c.index-plans-g.is c.requires v c.loop-i.i c.loop-i.invariant.along in
    let b = plan.steps.ok.0 in
    let e = c.len-i-end.ensures in
    let i : c.loop-i.i < length plan.steps.items = omega (arith, b, e) in
    let step = at_index plan.steps.items c.loop-i.i c.index.result.now i c.index.ensures in
    let child = at_index v.children.items c.loop-i.i c.index_mut.result.now (omega (arith, n, i)) c.index_mut.ensures.value in
    (search (rules, the_lemmas), step_can c.args.plans.now c.args.g c.args.state.now plan c.index-plans-g.is c.requires v c.loop-i.i c.loop-i.invariant.along c.index.result.now step c.index_mut.result.now child)

pub run-advance-requires-clause-kept : goal.run-advance-requires-clause-kept
run-advance-requires-clause-kept t c =
    let v = out-State c.loop-i.state in
    let n = delays_are c.args.plans.now c.args.g c.args.state.now c.index-plans-g.result c.index-plans-g.is c.requires v c.loop-i.i c.loop-i.invariant.along in
    ap length c.deref-4.ensures.value ∙ n.0 ∙ sym (ap length c.deref-2.ensures.value)

pub run-advance-requires-clause-next : goal.run-advance-requires-clause-next
run-advance-requires-clause-next t c =
    let v = out-State c.loop-i.state in
    let n = delays_are c.args.plans.now c.args.g c.args.state.now c.index-plans-g.result c.index-plans-g.is c.requires v c.loop-i.i c.loop-i.invariant.along in
    n.1 ∙ sym (ap length c.deref-2.ensures.value)

pub run-loop-i-preserved : goal.run-loop-i-preserved
run-loop-i-preserved t c =
    let plan = c.index-plans-g.result in
    let plans = c.args.plans.now in
    let v = out-State c.loop-i.state in
    let n = children_are plans c.args.g c.args.state.now plan c.index-plans-g.is c.requires v c.loop-i.i c.loop-i.invariant.along in
    let b = plan.steps.ok.0 in
    let e = c.len-i-end.ensures in
    let i : c.loop-i.i < length plan.steps.items = omega (arith, b, e) in
    let step = at_index plan.steps.items c.loop-i.i c.index.result.now i c.index.ensures in
    let child = at_index v.children.items c.loop-i.i c.index_mut.result.now (omega (arith, n, i)) c.index_mut.ensures.value in
    let o = c.index_mut.result.now in
    let o' = c.take.new.child in
    let cells' = c.take.new.cells in
    let r : State-F State = record { cells = cells'; kept = v.kept; next = v.next; children = with_item v.children c.loop-i.i o' } in
    let took : Took plans (step_form c.index.result.now) (entry v.kept.items) v.cells.items cells'.items o o' = record {
      size = c.take.ensures.size;
      others = c.take.ensures.others;
      absent = c.take.ensures.absent;
      acts = λ p. subst (λ (l : List (Option Value)). StepActs plans (action_form c.index.result.now.action) (entry v.cells.items) (entry l) o o' (entry cells'.items c.index.result.now.cell)) c.deref.ensures.value (c.take.ensures.acts p);
    } in
    record {
      unvisited = subst (λ (u : State-F State). Unvisited (out-State c.args.state.now) u (c.loop-i.i + 1)) (sym (out-roll-State r))
          (unvisited_next (out-State c.args.state.now) v c.loop-i.i cells' o' c.loop-i.invariant.unvisited);
      along = subst (λ (u : State-F State). Along plans c.args.g c.args.state.now u (c.loop-i.i + 1)) (sym (out-roll-State r))
          (along_next plans c.args.g c.args.state.now plan c.index-plans-g.is v c.loop-i.i c.index.result.now step o o' child cells' took c.loop-i.invariant.along);
    }

pub run-returns : goal.run-returns
run-returns t c =
    let plan = c.index-plans-g.result in
    let plans = c.args.plans.now in
    let s = c.args.state.now in
    let v = out-State c.loop-i.state in
    let along = c.loop-i.invariant.along in
    let n = delays_are plans c.args.g s plan c.index-plans-g.is c.requires v c.loop-i.i along in
    let b = plan.steps.ok.0 in
    let e = c.len-i-end.ensures in
    let all : length plan.steps.items ≤ c.loop-i.i = omega (arith, b, e) in
    let middle : State-F State = record { cells = v.cells; kept = v.kept; next = c.advance.new.next; children = v.children } in
    let w : State-F State = record { cells = v.cells; kept = c.swap.new.x; next = c.swap.new.y; children = v.children } in
    let rolled : State-F State → State-F State = λ (u : State-F State). record { cells = u.cells; kept = c.swap.new.x; next = c.swap.new.y; children = u.children } in
    let is : out-State (roll-State (rolled (out-State (roll-State middle)))) ≡ w = out-roll-State (rolled (out-State (roll-State middle))) ∙ ap rolled (out-roll-State middle) in
    let kept : c.swap.new.x ≡ c.advance.new.next = c.swap.ensures.x_after ∙ ap (λ (u : State-F State). u.next) (out-roll-State middle) in
    let next : c.swap.new.y ≡ v.kept = c.swap.ensures.y_after ∙ ap (λ (u : State-F State). u.kept) (out-roll-State middle) in
    let delays = c.deref-2.ensures.value in
    let cells = c.deref-3.ensures.value in
    let old = c.deref-4.ensures.value in
    let keeps : KeepsOn plan v c.swap.new.x.items = λ j d h.
    ap (λ (o : Vec (Option Value)). entry o.items j) kept
    ∙ c.advance.ensures.next j d (ap (λ l. slice_get l j) delays ∙ h)
    ∙ (λ i. next_kept (entry (cells i)) (entry (old i)) d j) in
    instant plans c.args.g s plan c.index-plans-g.is v c.loop-i.i all w refl refl
    (ap (λ (o : Vec (Option Value)). length o.items) kept ∙ c.advance.ensures.size ∙ n.1)
    (ap (λ (o : Vec (Option Value)). length o.items) next ∙ n.0)
    keeps along (roll-State (rolled (out-State (roll-State middle)))) is

pub answer-fill-requires : goal.answer-fill-requires
answer-fill-requires t c = can_fill c.args.plans.now c.args.function (length c.args.args.now.items) c.args.state.now c.requires

pub answer-run-requires : goal.answer-run-requires
answer-run-requires t c =
    let s = out-State c.args.state.now in
    let v : State-F State = record { cells = c.fill.new.to; kept = s.kept; next = s.next; children = s.children } in
    let r = c.requires in (
      search (rules, the_lemmas),
      (r.planned, r.nested, r.rows, r.past, refilled c.args.plans.now c.args.function r.planned r.nested r.rows r.past c.args.state.now (roll-State v) v (out-roll-State v) c.fill.ensures.size refl refl refl r.stands),
    )

pub answer-bounds-plans-function : goal.answer-bounds-plans-function
answer-bounds-plans-function t c = can_run_there c.args.plans.now c.args.function (length c.args.args.now.items) c.args.state.now c.requires

pub answer-offset_bounds-plans-function : goal.answer-offset_bounds-plans-function
answer-offset_bounds-plans-function t c = let l = can_run_there c.args.plans.now c.args.function (length c.args.args.now.items) c.args.state.now c.requires in omega (arith, l)

pub answer-index-requires : goal.answer-index-requires
answer-index-requires t c =
    let s = out-State c.args.state.now in
    let v : State-F State = record { cells = c.fill.new.to; kept = s.kept; next = s.next; children = s.children } in
    let r = c.requires in
    let plans = c.args.plans.now in
    let g = c.args.function in
    let st = refilled plans g r.planned r.nested r.rows r.past c.args.state.now (roll-State v) v (out-roll-State v) c.fill.ensures.size refl refl refl r.stands in
    let room = output_room plans g c.index-plans-function.result c.index-plans-function.is r.planned r.nested _ _ _ c.run.new.state (c.run.ensures r.planned r.nested r.rows r.past st) r.answering in
    let size = (out-State c.run.new.state).cells.ok.0 in
    omega (arith, room, size)

pub answer-returns : goal.answer-returns
answer-returns t c = λ k n rows past st a.
    let plans = c.args.plans.now in
    let g = c.args.function in
    let s = out-State c.args.state.now in
    let row : Row = map (value_in (entry c.args.cells.now) (entry c.args.kept.now)) (map node_form c.args.args.now.items) in
    let v : State-F State = record { cells = c.fill.new.to; kept = s.kept; next = s.next; children = s.children } in
    let filled = refilled plans g k n rows past c.args.state.now (roll-State v) v (out-roll-State v) c.fill.ensures.size refl refl refl st in
    let ran = c.run.ensures k n rows past filled in
    let number : inputs_at plans g ≡ length c.args.args.now.items =
    row_number plans g k n (length row) rows past c.args.state.now st a ∙ length-map (map node_form c.args.args.now.items) (value_in (entry c.args.cells.now) (entry c.args.kept.now)) ∙ length-map c.args.args.now.items node_form in
    let is : row_in plans g (roll-State v) ≡ row =
    ap (λ (u : State-F State). take (inputs_at plans g) u.cells.items) (out-roll-State v) ∙ ap (λ m. take m c.fill.new.to.items) number ∙ c.fill.ensures.filled in
    let there : StateStands plans k n c.run.new.state g (row ∷ rows) (entry (cells_of c.run.new.state) ∷ past) =
    subst (λ (r : Row). StateStands plans k n c.run.new.state g (r ∷ rows) (entry (cells_of c.run.new.state) ∷ past)) is ran in
    let plan = c.index-plans-function.result in
    let room = output_room plans g plan c.index-plans-function.is k n (length row) (row ∷ rows) (entry (cells_of c.run.new.state) ∷ past) c.run.new.state there a in
    let value = at_index (cells_of c.run.new.state) plan.output c.index.result.now room c.index.ensures in (
      (entry (cells_of c.run.new.state) ∷ past, there),
      sym (get_or_from_slice_get (cells_of c.run.new.state) plan.output c.index.result.now None value)
          ∙ answered_by plans g plan c.index-plans-function.is k n row rows (entry (cells_of c.run.new.state)) past c.run.new.state there a,
    )
