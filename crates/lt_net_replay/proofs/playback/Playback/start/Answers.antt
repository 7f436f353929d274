use Rattle.std.proofs.Common.{ℕ, subst, sym}
use Rattle.lt_arch.specs.Schedule.{OnePlace}
use Rattle.lt_net_bench.specs.Starts.{AreReady}
use Rattle.lt_net_replay.proofs.FirstPlay.{plays_first}
use Rattle.lt_net_replay.proofs.playback.Playback.start.Goals as goal

pub returns-in-Ok-start-clause-ready : goal.returns-in-Ok-start-clause-ready
returns-in-Ok-start-clause-ready g c =
    let net = c.in-Ok-start.ensures in
    let placed = c.requires.placed in
    record {
      reads = record { width_is = c.requires.width; room_is = c.in-Ok.ensures.room; wide = c.requires.wide };
      plays = plays_first g.C.Controller g.M.Machine c.args.inputs.now.rows c.args.layout c.args.shape c.args.timing _ c.args.machines.items c.args.controllers.items c.in-Ok-start.net (g.W.Fabric.state c.open.new.fabric)
          net.running net.made c.requires.numbered
          (net.opened c.args.inputs.now.rows (g.W.Fabric.state c.args.fabric.now) (g.W.Fabric.state c.open.new.fabric) c.open.ensures.keeps c.in-Ok.ensures.opened)
          (net.given placed.0 c.args.inputs.now.rows placed.1 placed.2 c.rows-count.ensures);
    }

pub start-requires-clause-one_place : goal.start-requires-clause-one_place
start-requires-clause-one_place g c = subst (OnePlace c.args.shape c.args.timing) (sym c.rows-count.ensures) c.requires.one_place

pub start-requires-clause-machines : goal.start-requires-clause-machines
start-requires-clause-machines g c = subst (λ (count : ℕ). AreReady g.M.Machine c.args.layout count c.args.machines.items) (sym c.rows-count.ensures) c.requires.machines
