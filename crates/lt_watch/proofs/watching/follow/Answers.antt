use Rattle.std.proofs.Common.{subst, []}
use Rattle.lt_answer.specs.World.{world}
use Rattle.lt_watch.specs.Blamed.{watch_blame}
use Rattle.lt_watch.specs.Judged.{WatchTells}
use Rattle.lt_watch.specs.Watch.{InCommand, run_along, told_verdict}
use Rattle.lt_watch.proofs.Stages.{stopped, settled, short, told_right}
use Rattle.lt_watch.proofs.watching.follow.Goals as goal

pub returns-in_err-outputs-clause-answered : goal.returns-in_err-outputs-clause-answered
returns-in_err-outputs-clause-answered g c =
    let k = c.args.loaded.now in
    let old = world (g.F.Files.state c.args.files.now) (g.W.Fabric.state c.args.fabric.now) in
    let new = world (g.F.Files.state c.run_outputs.new.files) (g.W.Fabric.state c.run_outputs.new.fabric) in
    stopped watch_blame (InCommand (run_along ((g.F.Files.state c.args.files.now).named c.args.schedule.now) new k)) (λ outputs. told_verdict k.checked.program k.inputs.rows new.fabric c.args.observer.now outputs) old new [] _ _ c.from_residual.ensures.1 c.in_err-outputs.ensures.answered

pub returns-in_err-judged-clause-answered : goal.returns-in_err-judged-clause-answered
returns-in_err-judged-clause-answered g c =
    let k = c.args.loaded.now in
    let old = world (g.F.Files.state c.args.files.now) (g.W.Fabric.state c.args.fabric.now) in
    let new = world (g.F.Files.state c.run_outputs.new.files) (g.W.Fabric.state c.run_outputs.new.fabric) in
    short watch_blame (InCommand (run_along ((g.F.Files.state c.args.files.now).named c.args.schedule.now) new k)) (λ outputs. told_verdict k.checked.program k.inputs.rows new.fabric c.args.observer.now outputs) old new c.in_ok-outputs.outputs _ c.from_residual-in_err-judged.ensures.1 c.in_ok-outputs.ensures.answered

pub returns-clause-answered : goal.returns-clause-answered
returns-clause-answered g c =
    let k = c.args.loaded.now in
    let old = world (g.F.Files.state c.args.files.now) (g.W.Fabric.state c.args.fabric.now) in
    let new = world (g.F.Files.state c.run_outputs.new.files) (g.W.Fabric.state c.run_outputs.new.fabric) in
    let file = (g.F.Files.state c.args.files.now).named c.args.schedule.now in
    let tells = subst (λ cells. WatchTells c.args.observer.now cells c.in_ok-judged.field-0) c.deref.ensures c.in_ok-judged.ensures in
    settled watch_blame (InCommand (run_along file new k)) (λ outputs. told_verdict k.checked.program k.inputs.rows new.fabric c.args.observer.now outputs) old new c.in_ok-outputs.outputs c.in_ok-judged.field-0 c.in_ok-outputs.ensures.answered
    (told_right c.args.observer.now c.invariant_holds.ensures.placed file new k c.in_ok-outputs.outputs c.in_ok-judged.field-0 tells)
