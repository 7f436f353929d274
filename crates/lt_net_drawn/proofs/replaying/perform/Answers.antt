use Rattle.std.proofs.Common.{◌≡◌, ◌∙◌, ap, sym}
use Rattle.lt_base.specs.Inputs.{InputTable}
use Rattle.lt_arch.specs.Schedule.{OnePlace}
use Rattle.lt_net_replay.proofs.AtTheStart.{at_start, configured}
use Rattle.lt_sim.specs.Standing.{DrawsFewEvents}
use Rattle.lt_net_drawn.proofs.Comes.{ends_by, comes_to, not_opened}
use Rattle.lt_net_drawn.proofs.Takes.{at_equals, played_by}
use Rattle.lt_net_drawn.proofs.replaying.perform.Goals as goal

pub start-started-requires-clause-controllers : goal.start-started-requires-clause-controllers
start-started-requires-clause-controllers g c =
    at_start g.C.Controller c.args.setup.timing c.args.setup.shape c.args.controllers.items c.requires.sound.same_nodes c.requires.controllers

pub start-started-requires-clause-configured : goal.start-started-requires-clause-configured
start-started-requires-clause-configured g c = configured g.C.Controller c.args.setup.timing c.args.controllers.items c.requires.controllers

pub play-played-requires-clause-one_place : goal.play-played-requires-clause-one_place
play-played-requires-clause-one_place g c = at_equals OnePlace _ _ _ _ _ _ c.requires.shape c.requires.timing c.rows.ensures c.requires.sound.one_place

pub play-played-requires-clause-same : goal.play-played-requires-clause-same
play-played-requires-clause-same g c = record { shape = c.in-Ok.ensures.made.shape ∙ sym c.requires.shape; timing = c.in-Ok.ensures.made.timing ∙ sym c.requires.timing; rows = c.in-Ok.ensures.made.rows ∙ sym c.rows.ensures }

pub play-played-requires-clause-starts : goal.play-played-requires-clause-starts
play-played-requires-clause-starts g c = at_equals (λ s t n. DrawsFewEvents c.args.drawing.now s t n c.args.horizon) _ _ _ _ _ _ c.requires.shape c.requires.timing c.rows.ensures c.requires.starts

pub finish-requires : goal.finish-requires
finish-requires g c =
    ends_by g.C.Controller g.M.Machine c.args.setup.layout c.args.setup.shape c.args.setup.timing c.args.inputs.now.rows _ _ c.requires.starts.seed c.args.horizon c.requires.sound.one_place c.requires.horizon
    (g.W.Fabric.state c.args.fabric.now) _ (g.W.Fabric.state c.play-played.new.fabric) c.start-started.ensures.keeps c.in-Ok.ensures.cause c.in-Ok.ensures.opens.done _ _ _ _ c.in-Ok.ensures.made (ap (λ (table : InputTable). table.rows) c.in-Ok.ensures.inputs) c.play-played.ensures.keeps
    c.play-played.result
    (played_by g.C.Controller g.M.Machine _ _ _ _ _ _ c.requires.shape c.requires.timing c.rows.ensures c.args.drawing.now c.args.horizon c.play-played.new.playback (g.W.Fabric.state c.play-played.new.fabric) c.play-played.result c.play-played.ensures.takes c.requires.starts.seed c.requires.starts.starts)

pub returns-in-Ok : goal.returns-in-Ok
returns-in-Ok g c = λ seed starts.
    comes_to g.C.Controller g.M.Machine c.args.setup.layout c.args.setup.shape c.args.setup.timing c.args.inputs.now.rows _ _ seed c.args.horizon c.requires.sound.one_place c.requires.horizon
    (g.W.Fabric.state c.args.fabric.now) _ (g.W.Fabric.state c.play-played.new.fabric) c.start-started.ensures.keeps c.in-Ok.ensures.cause c.in-Ok.ensures.opens.done _ _ _ _ c.in-Ok.ensures.made (ap (λ (table : InputTable). table.rows) c.in-Ok.ensures.inputs) c.play-played.ensures.keeps
    c.requires.placed.0 c.requires.placed.1 c.requires.placed.2 c.requires.sound c.invariant_holds.ensures.sized c.invariant_holds.ensures.tracks c.play-played.result c.play-played.ensures.cause
    (played_by g.C.Controller g.M.Machine _ _ _ _ _ _ c.requires.shape c.requires.timing c.rows.ensures c.args.drawing.now c.args.horizon c.play-played.new.playback (g.W.Fabric.state c.play-played.new.fabric) c.play-played.result c.play-played.ensures.takes seed starts)
    c.finish.result c.finish.ensures

pub returns-in-Err : goal.returns-in-Err
returns-in-Err g c = λ seed starts.
    not_opened g.M.Machine c.args.setup.layout c.args.setup.shape c.args.setup.timing c.args.inputs.now.rows _ (g.W.Fabric.state c.args.fabric.now) (g.W.Fabric.state c.start-started.new.fabric) c.in-Err.e
    c.start-started.ensures.keeps c.start-started.ensures.sound c.start-started.ensures.opens.calls c.in-Err.ensures.cause
