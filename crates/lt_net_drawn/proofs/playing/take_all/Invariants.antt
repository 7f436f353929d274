use Rattle.std.proofs.Common.{ℕ, ◌≡◌}
use Rattle.lt_sim.specs.Standing.{DrawingStarts}
use Rattle.lt_net_replay.specs.Playing.{KeepsPlayback}
use Rattle.lt_net_drawn.proofs.Takes.{StandsAt}
use Rattle.lt_net_drawn.proofs.playing.take_all.Given as goal

abbrev pub invariant-loop-number : goal.invariant-loop-number
invariant-loop-number g l =
    let old = g.W.Fabric.state l.fn.fabric in
    let now = g.W.Fabric.state l.fabric in
    record {
      counted : now.faults ≡ old.faults;
      keeps : KeepsPlayback g.M.Machine.size l.fn.playback l.playback old now;
      stands : (seed : ℕ) → DrawingStarts l.fn.drawing l.shape l.timing seed → StandsAt g.C.Controller g.M.Machine l.drawing l.playback l.shape l.timing l.rows seed l.horizon l._number l.steps now;
    }
