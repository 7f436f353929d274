use Rattle.std.proofs.Common.{Err, ap, subst, sym}
use Rattle.lt_base.specs.declared.memory.Or.{Or}
use Rattle.lt_base.specs.Inputs.{InputTable}
use Rattle.lt_schedule.specs.declared.halt.Halt.{Halt}
use Rattle.lt_net_lossy.specs.LossyReplays.{HasLossyReplayed}
use Rattle.lt_net_lossy.proofs.LossyPerformed.{not_opened, from_start, of_net}
use Rattle.lt_net_lossy.proofs.replay.replaying.perform.Goals as goal
use Rattle.lt_lossy.specs.declared.event.LossyOffence.{LossyOffence}

pub returns-in-Ok : goal.returns-in-Ok
returns-in-Ok g c =
    from_start g.M.Machine c.args.setup.layout c.args.setup.shape c.args.setup.timing c.args.losses c.args.inputs.now.rows c.args.schedule.now
    (g.F.Files.state c.args.files.now) (g.W.Fabric.state c.args.fabric.now) (g.W.Fabric.state c.start-started.new.fabric) c.start-started.ensures.keeps c.start-started.ensures.sound c.start-started.ensures.opens.calls c.in-Ok.ensures.cause c.in-Ok.ensures.opens.done (g.F.Files.state c.play.new.files) (g.W.Fabric.state c.play.new.fabric) _
    (of_net g.M.Machine c.args.setup.layout c.args.setup.shape c.args.setup.timing c.args.losses c.args.inputs.now.rows _ _ _ c.args.schedule.now
    (g.F.Files.state c.args.files.now) (g.F.Files.state c.play.new.files) (g.W.Fabric.state c.start-started.new.fabric) (g.W.Fabric.state c.play.new.fabric) _ c.in-Ok.ensures.made (ap (λ (table : InputTable). table.rows) c.in-Ok.ensures.inputs) c.play.ensures)

pub returns-in-Err : goal.returns-in-Err
returns-in-Err g c =
    subst (λ (fault : Or (Halt LossyOffence)). HasLossyReplayed g.M.Machine c.args.setup.layout c.args.setup.shape c.args.setup.timing c.args.losses c.args.inputs.now.rows c.args.schedule.now
    (g.F.Files.state c.args.files.now) (g.F.Files.state c.args.files.now) (g.W.Fabric.state c.args.fabric.now) (g.W.Fabric.state c.start-started.new.fabric) (Err fault)) (sym c.link_fault.ensures)
    (not_opened g.M.Machine c.args.setup.layout c.args.setup.shape c.args.setup.timing c.args.losses c.args.inputs.now.rows c.args.schedule.now
    (g.F.Files.state c.args.files.now) (g.W.Fabric.state c.args.fabric.now) (g.W.Fabric.state c.start-started.new.fabric) c.start-started.ensures.keeps c.start-started.ensures.sound c.start-started.ensures.opens.calls c.in-Err.e c.in-Err.ensures.cause)
