use Rattle.std.proofs.Common.{ℕ, sym, subst}
use Rattle.lt_net_bench.specs.Starts.{AreReady}
use Rattle.lt_net_lossy.proofs.LossyFirstPlay.{plays_first}
use Rattle.lt_net_lossy.proofs.replay.playback.LossyPlayback.start.Goals as goal

pub start-requires-clause-machines : goal.start-requires-clause-machines
start-requires-clause-machines g c = subst (λ (count : ℕ). AreReady g.M.Machine c.args.layout count c.args.machines.items) (sym c.rows-count.ensures) c.requires.machines

pub returns-in-Ok-start-clause-ready : goal.returns-in-Ok-start-clause-ready
returns-in-Ok-start-clause-ready g c =
    let net = c.in-Ok-start.ensures in
    let placed = c.requires.placed in
    let opened = c.in-Ok.ensures.opened in
    record {
      reads = record { width_is = c.requires.width; room_is = c.in-Ok.ensures.room; wide = c.requires.wide };
      plays = plays_first _ g.M.Machine c.args.inputs.now.rows c.args.layout c.args.shape c.args.timing c.args.losses c.rows-count.result c.args.machines.items c.in-Ok-start.net (g.W.Fabric.state c.args.fabric.now) (g.W.Fabric.state c.open.new.fabric)
          net.running net.made c.rows-count.ensures c.requires.sound.numbered c.invariant_holds.ensures.kept.fixed net.counts placed.0 placed.1 placed.2 c.open.ensures.keeps opened (net.opened _ _ opened) (net.kinds _ _ opened);
    }
