use Rattle.std.proofs.Common.{◌∙◌, ap, replicate}
use Rattle.lt_sim.proofs.Tallying.{tally_first}
use Rattle.lt_sim.proofs.Arriving.{at_first}
use Rattle.lt_sim.proofs.progress.Progress.start.Goals as goal

pub returns : goal.returns
returns c =
    let s = c.args.shape.now in
    let m = c.in_ok-start.ensures in
    let a = c.in_ok-start-2.ensures in
    at_first _ s c.requires
    (c.in_ok-executed.ensures ∙ ap (λ n. replicate n 0) c.len.ensures)
    (c.in_ok-delivered.ensures ∙ ap (λ n. replicate n 0) c.len-2.ensures)
    (tally_first c.in_ok-start.field-0 s _ m.lengths m.wanted m.fresh m.early)
    (tally_first c.in_ok-start-2.field-0 s _ a.lengths a.wanted a.fresh a.early)
