use Rattle.std.proofs.Common.{◌∙◌}
use Rattle.lt_arch.specs.Deeds.{deed_of}
use Rattle.lt_sim.proofs.Waking.{all_in-is, any_in-is, all_ack-is, more-is}
use Rattle.lt_sim.proofs.drawing.wake.Goals as goal

pub returns-clause-deed : goal.returns-clause-deed
returns-clause-deed c s t seed d at controlled lt =
    let n = c.args.node in
    let p = c.args.progress.now in
    let phase = (controlled.each n lt).phase_is in
    let all_in = c.all_fresh-all_in.ensures ∙ all_in-is p s d.state n at lt in
    let any_in = c.any_fresh-any_in.ensures ∙ any_in-is p s d.state n at lt in
    let all_ack = c.all_fresh-all_ack.ensures ∙ all_ack-is p s d.state n at lt in
    let more = more-is p s d.state n at lt c.index.result.now c.args.rows c.index.ensures in
    c.wake.ensures.deed ∙ (λ i. deed_of (phase i) (all_in i) (any_in i) (all_ack i) (more i))
