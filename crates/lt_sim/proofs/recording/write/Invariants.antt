use Rattle.std.proofs.Common.{ℕ, ◌≡◌, ◌<◌, length}
use Rattle.lt_io.specs.SinkState.{KeepsSink}
use Rattle.lt_sim.specs.Standing.{DrawingStarts}
use Rattle.lt_sim.proofs.EventPages.{HasPassed}
use Rattle.lt_sim.proofs.recording.write.Given as goal

abbrev pub invariant-loop-number : goal.invariant-loop-number
invariant-loop-number g l =
    let old = g.O.Sink.state l.fn.sink in
    let now = g.O.Sink.state l.sink in
    record {
      counted : now.faults ≡ old.faults;
      keeps : KeepsSink old now;
      short : length l.page < 65280;
      passed : (seed : ℕ) → DrawingStarts l.fn.drawing l.shape l.timing seed → HasPassed l.drawing l.shape l.timing l.rows seed l.horizon l.number l.page old now;
    }
