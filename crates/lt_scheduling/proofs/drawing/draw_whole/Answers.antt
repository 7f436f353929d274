use Rattle.std.proofs.Common.{None, ap, subst}
use Rattle.lt_answer.specs.Answered.{Settles}
use Rattle.lt_narrow.specs.Narrow.{HasBoundsWithin}
use Rattle.lt_load.specs.Plan.{LoadedPlan}
use Rattle.lt_scheduling.specs.Stage.{drawn_by_verdict}
use Rattle.lt_scheduling.proofs.Paced.{jittered, own_within}
use Rattle.lt_scheduling.proofs.drawing.draw_whole.Goals as goal

pub draw_by-requires-clause-within : goal.draw_by-requires-clause-within
draw_by-requires-clause-within c =
    let k : LoadedPlan = record { checked = c.loaded.inside.checked; layout = c.loaded.inside.layout; shape = c.loaded.inside.shape; timing = c.loaded.inside.timing; inputs = c.loaded.inside.inputs; pace = c.loaded.inside.pace } in
    subst (λ (p : LoadedPlan). HasBoundsWithin p.timing k.timing) c.loaded.view_is (own_within k.timing)

pub returns : goal.returns
returns c =
    let k : LoadedPlan = record { checked = c.loaded.inside.checked; layout = c.loaded.inside.layout; shape = c.loaded.inside.shape; timing = c.loaded.inside.timing; inputs = c.loaded.inside.inputs; pace = c.loaded.inside.pace } in
    jittered c.args.loss c.args.seed c.args.horizon None c.args.loaded.now k.timing c.draw_by.result (ap (λ (p : LoadedPlan). p.timing) c.loaded.view_is)
    (subst (λ (p : LoadedPlan). Settles (drawn_by_verdict p.pace c.args.loss c.args.seed c.args.horizon c.args.loaded.now k.timing) c.draw_by.result) c.loaded.view_is c.draw_by.ensures)
