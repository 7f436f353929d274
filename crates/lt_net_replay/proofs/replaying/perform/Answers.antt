use Rattle.std.proofs.Common.{Err, ap, subst, sym}
use Rattle.lt_base.specs.declared.memory.Or.{Or}
use Rattle.lt_base.specs.Inputs.{InputTable}
use Rattle.lt_arch.specs.declared.event.Offence.{Offence}
use Rattle.lt_schedule.specs.declared.halt.Halt.{Halt}
use Rattle.lt_net_replay.specs.Replays.{HasReplayed}
use Rattle.lt_net_replay.proofs.AtTheStart.{at_start, configured}
use Rattle.lt_net_replay.proofs.Performed.{at_end, finished, not_opened}
use Rattle.lt_net_replay.proofs.replaying.perform.Goals as goal

pub start-started-requires-clause-controllers : goal.start-started-requires-clause-controllers
start-started-requires-clause-controllers g c =
    at_start g.C.Controller c.args.setup.timing c.args.setup.shape c.args.controllers.items c.requires.sound.same_nodes c.requires.controllers

pub start-started-requires-clause-configured : goal.start-started-requires-clause-configured
start-started-requires-clause-configured g c = configured g.C.Controller c.args.setup.timing c.args.controllers.items c.requires.controllers

pub finish-requires : goal.finish-requires
finish-requires g c =
    at_end g.C.Controller g.M.Machine c.args.setup.layout c.args.setup.shape c.args.setup.timing c.args.inputs.now.rows _ c.args.schedule.now
    (g.F.Files.state c.args.files.now) (g.F.Files.state c.play-played.new.files) (g.W.Fabric.state c.args.fabric.now) _ (g.W.Fabric.state c.play-played.new.fabric) c.start-started.ensures.keeps c.in-Ok.ensures.cause c.in-Ok.ensures.opens.done _ _ _ _ c.in-Ok.ensures.made _ (ap (λ (table : InputTable). table.rows) c.in-Ok.ensures.inputs) c.play-played.result c.play-played.ensures

pub returns-in-Ok : goal.returns-in-Ok
returns-in-Ok g c =
    finished g.C.Controller g.M.Machine c.args.setup.layout c.args.setup.shape c.args.setup.timing c.args.inputs.now.rows _ c.args.schedule.now
    (g.F.Files.state c.args.files.now) (g.F.Files.state c.play-played.new.files) (g.W.Fabric.state c.args.fabric.now) _ (g.W.Fabric.state c.play-played.new.fabric) c.start-started.ensures.keeps c.in-Ok.ensures.cause c.in-Ok.ensures.opens.done _ _ _ _ c.in-Ok.ensures.made _ (ap (λ (table : InputTable). table.rows) c.in-Ok.ensures.inputs)
    c.requires.placed.0 c.requires.placed.1 c.requires.placed.2 c.requires.sound c.invariant_holds.ensures.sized c.invariant_holds.ensures.tracks c.play-played.result c.play-played.ensures c.finish.result c.finish.ensures

pub returns-in-Err : goal.returns-in-Err
returns-in-Err g c =
    subst (λ (fault : Or (Halt Offence)). HasReplayed g.M.Machine c.args.setup.layout c.args.setup.shape c.args.setup.timing c.args.inputs.now.rows c.args.schedule.now
    (g.F.Files.state c.args.files.now) (g.F.Files.state c.args.files.now) (g.W.Fabric.state c.args.fabric.now) (g.W.Fabric.state c.start-started.new.fabric) (Err fault)) (sym c.link_fault.ensures)
    (not_opened g.C.Controller g.M.Machine c.args.setup.layout c.args.setup.shape c.args.setup.timing c.args.inputs.now.rows c.args.schedule.now
    (g.F.Files.state c.args.files.now) (g.F.Files.state c.args.files.now) (g.W.Fabric.state c.args.fabric.now) (g.W.Fabric.state c.start-started.new.fabric) c.start-started.ensures.keeps c.start-started.ensures.sound c.start-started.ensures.opens.calls c.in-Err.e c.in-Err.ensures.cause)
