use Rattle.std.proofs.Common.{Some, subst}
use Rattle.lt_answer.specs.Answered.{Settles}
use Rattle.lt_narrow.specs.Narrow.{HasBoundsWithin, IsNarrowed}
use Rattle.lt_load.specs.Plan.{LoadedPlan}
use Rattle.lt_scheduling.specs.Stage.{drawn_by_verdict}
use Rattle.lt_scheduling.proofs.Paced.{jittered}
use Rattle.lt_scheduling.proofs.drawing.draw_narrowed.Goals as goal

pub draw_by-text-requires-clause-within : goal.draw_by-text-requires-clause-within
draw_by-text-requires-clause-within c =
    let k : LoadedPlan = record { checked = c.loaded.inside.checked; layout = c.loaded.inside.layout; shape = c.loaded.inside.shape; timing = c.loaded.inside.timing; inputs = c.loaded.inside.inputs; pace = c.loaded.inside.pace } in
    subst (λ (p : LoadedPlan). HasBoundsWithin p.timing c.in_ok-timing.timing) c.loaded.view_is (c.narrows_within.ensures c.args.part k.timing c.in_ok-timing.timing c.in_ok-timing.ensures)

pub returns : goal.returns
returns c =
    let k : LoadedPlan = record { checked = c.loaded.inside.checked; layout = c.loaded.inside.layout; shape = c.loaded.inside.shape; timing = c.loaded.inside.timing; inputs = c.loaded.inside.inputs; pace = c.loaded.inside.pace } in
    jittered c.args.loss c.args.seed c.args.horizon (Some c.args.part) c.args.loaded.now c.in_ok-timing.timing c.draw_by-text.result (subst (λ (p : LoadedPlan). IsNarrowed c.args.part p.timing c.in_ok-timing.timing) c.loaded.view_is c.in_ok-timing.ensures)
    (subst (λ (p : LoadedPlan). Settles (drawn_by_verdict p.pace c.args.loss c.args.seed c.args.horizon c.args.loaded.now c.in_ok-timing.timing) c.draw_by-text.result) c.loaded.view_is c.draw_by-text.ensures)
