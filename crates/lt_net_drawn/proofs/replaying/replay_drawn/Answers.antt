use Rattle.std.proofs.Common.{◌≡◌, length, refl}
use Rattle.lt_net_replay.proofs.SoundNetworks.{sound_of_equals}
use Rattle.lt_sim.specs.Standing.{DrawingStarts, DrawsFewEvents}
use Rattle.lt_net_drawn.proofs.Comes.{no_memory, of_equals}
use Rattle.lt_net_drawn.proofs.Takes.{at_equals}
use Rattle.lt_net_drawn.proofs.replaying.replay_drawn.Goals as goal

pub start-requires-clause-numbered : goal.start-requires-clause-numbered
start-requires-clause-numbered g c =
    (c.networks_are_sound.ensures c.requires.placed.0 c.args.layout.now c.args.shape.now c.args.timing.now (length c.args.inputs.now.rows) c.requires.placed.1 c.requires.paced c.requires.timed c.requires.accepted).numbered c.requires.few

pub perform-requires-clause-sound : goal.perform-requires-clause-sound
perform-requires-clause-sound g c =
    let copy = c.in_ok-setup.ensures in
    sound_of_equals c.args.layout.now c.in_ok-setup.setup.layout c.args.shape.now c.in_ok-setup.setup.shape c.args.timing.now c.in_ok-setup.setup.timing (length c.args.inputs.now.rows) copy.layout copy.shape copy.timing
    (c.networks_are_sound.ensures c.requires.placed.0 c.args.layout.now c.args.shape.now c.args.timing.now (length c.args.inputs.now.rows) c.requires.placed.1 c.requires.paced c.requires.timed c.requires.accepted)

pub perform-requires-clause-starts : goal.perform-requires-clause-starts
perform-requires-clause-starts g c =
    let copy = c.in_ok-setup.ensures in
    at_equals (λ s t n. DrawsFewEvents c.in_ok-drawing.drawing s t n c.args.horizon) c.args.shape.now c.in_ok-setup.setup.shape c.args.timing.now c.in_ok-setup.setup.timing _ _ copy.shape copy.timing refl
    (record { seed = c.args.seed; starts = c.in_ok-drawing.ensures; few = c.requires.few_events })

pub returns : goal.returns
returns g c =
    let copy = c.in_ok-setup.ensures in
    of_equals g.M.Machine c.args.layout.now c.in_ok-setup.setup.layout c.args.shape.now c.in_ok-setup.setup.shape c.args.timing.now c.in_ok-setup.setup.timing c.args.inputs.now.rows c.args.seed c.args.horizon
    (g.W.Fabric.state c.args.fabric.now) (g.W.Fabric.state c.perform.new.fabric) c.perform.result copy.layout copy.shape copy.timing
    (c.perform.ensures c.args.seed (at_equals (λ s t n. DrawingStarts c.in_ok-drawing.drawing s t c.args.seed) c.args.shape.now c.in_ok-setup.setup.shape c.args.timing.now c.in_ok-setup.setup.timing 0 0 copy.shape copy.timing refl c.in_ok-drawing.ensures))

pub returns-in_err-drawing : goal.returns-in_err-drawing
returns-in_err-drawing g c = no_memory g.M.Machine c.args.layout.now c.args.shape.now c.args.timing.now c.args.inputs.now.rows _ (g.W.Fabric.state c.args.fabric.now) _ c.from_residual.ensures.1

pub returns-in_err-controllers : goal.returns-in_err-controllers
returns-in_err-controllers g c = no_memory g.M.Machine c.args.layout.now c.args.shape.now c.args.timing.now c.args.inputs.now.rows _ (g.W.Fabric.state c.args.fabric.now) _ c.from_residual-in_err-controllers.ensures.1

pub returns-in_err-setup : goal.returns-in_err-setup
returns-in_err-setup g c = no_memory g.M.Machine c.args.layout.now c.args.shape.now c.args.timing.now c.args.inputs.now.rows _ (g.W.Fabric.state c.args.fabric.now) _ c.from_residual-in_err-setup.ensures.1
