use Rattle.std.proofs.Common.{◌≡◌, ◌∙◌, ◌-◌, ◌+◌, ◌∷◌, [], Some, List, Option, length, sym, ap, subst, arith, rules}
use Rattle.std.specs.Prelude.{slice_get}
use Rattle.std.specs.Global.{Box}
use Rattle.std.proofs.lemmas.List.{length-append}
use Rattle.lt_meaning.specs.declared.state.State.{State}
use Rattle.lt_meaning.specs.declared.state.State.TheOpen.{State-F}
use Rattle.lt_meaning.specs.declared.state.State.TheViews.{out-roll-State, roll-State}
use Rattle.lt_meaning.proofs.Instant.{at_index}
use Rattle.lt_meaning.proofs.Begins.{Begins, begins_none, begins_next, child_can, starts, can_start_there}
use Rattle.lt_meaning.proofs.starting.+start.Goals as goal

pub start-bounds-plans-g : goal.start-bounds-plans-g
start-bounds-plans-g t c = can_start_there c.args.plans.now c.args.g c.args.left c.requires

pub start-offset_bounds-plans-g : goal.start-offset_bounds-plans-g
start-offset_bounds-plans-g t c = let l = can_start_there c.args.plans.now c.args.g c.args.left c.requires in omega (arith, l)

pub start-loop-i-init : goal.start-loop-i-init
start-loop-i-init t c = record {
  size = ap length c.in_ok-children.ensures.items;
  begins = begins_none c.args.plans.now c.index-plans-g.result.steps.items (c.args.left - 1) c.in_ok-children.children.items c.in_ok-children.ensures.items;
}

pub start-child_of-requires : goal.start-child_of-requires
start-child_of-requires t c =
    let plan = c.index-plans-g.result in
    let b = plan.steps.ok.0 in
    let e = c.len-i-end.ensures in
    let at = at_index plan.steps.items c.loop-i.i c.index.result.now (omega (arith, b, e)) c.index.ensures in
    (search rules, child_can c.args.plans.now c.args.g c.args.left plan c.index-plans-g.is c.requires c.loop-i.i c.index.result.now at)

pub start-loop-i-preserved : goal.start-loop-i-preserved
start-loop-i-preserved t c =
    let plan = c.index-plans-g.result in
    let plans = c.args.plans.now in
    let b = plan.steps.ok.0 in
    let e = c.len-i-end.ensures in
    let at = at_index plan.steps.items c.loop-i.i c.index.result.now (omega (arith, b, e)) c.index.ensures in
    let old = c.loop-i.children.items in
    let at_length : slice_get plan.steps.items (length old) ≡ Some c.index.result.now = ap (slice_get plan.steps.items) c.loop-i.invariant.size ∙ at in
    let pushed = c.in_ok-push.ensures.items in
    record {
      size = ap length pushed ∙ length-append old (c.in_ok-child_of.field-0 ∷ []) ∙ ap (λ n. n + 1) c.loop-i.invariant.size;
      begins = subst (λ (l : List (Option (Box State))). Begins plans plan.steps.items (c.args.left - 1) l) (sym pushed)
          (begins_next plans plan.steps.items (c.args.left - 1) old c.index.result.now c.in_ok-child_of.field-0 c.loop-i.invariant.begins at_length c.in_ok-child_of.ensures);
    }

pub start-returns : goal.start-returns
start-returns t c =
    let plan = c.index-plans-g.result in
    let b = plan.steps.ok.0 in
    let d = plan.delays.ok.0 in
    let e = c.len-i-end.ensures in
    let n = c.len.ensures in
    let next = c.in_ok-next.ensures in
    let size = c.loop-i.invariant.size in
    let v : State-F State = record { cells = c.in_ok-cells.cells; kept = c.in_ok-kept.kept; next = c.in_ok-next.next; children = c.loop-i.children } in
    starts c.args.plans.now c.args.g c.args.left plan c.index-plans-g.is c.in_ok-cells.cells c.in_ok-kept.kept c.in_ok-next.next c.loop-i.children
    c.in_ok-cells.ensures c.in_ok-kept.ensures (omega (arith, d, n, next)) (omega (arith, b, e, size)) c.loop-i.invariant.begins (roll-State v) (out-roll-State v)
