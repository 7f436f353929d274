use Rattle.std.proofs.Common.{◌≡◌, ◌++◌, ◌<◌, length, take}
use Rattle.lt_io.specs.SinkState.{KeepsSink}
use Rattle.lt_sim.specs.File.{header_text}
use Rattle.lt_sim.proofs.Pages.{HasPut}
use Rattle.lt_losing.specs.LossyFile.{lossy_rows_text}
use Rattle.lt_losing.proofs.recording.write.Given as goal

abbrev pub invariant-loop-e : goal.invariant-loop-e
invariant-loop-e g l =
    let old = g.O.Sink.state l.fn.sink in
    let now = g.O.Sink.state l.sink in
    record {
      counted : now.faults ≡ old.faults;
      keeps : KeepsSink old now;
      short : length l.page < 65280;
      put : HasPut (header_text ++ lossy_rows_text l.shape (take l.e-index l.events.items)) l.page old now;
    }
