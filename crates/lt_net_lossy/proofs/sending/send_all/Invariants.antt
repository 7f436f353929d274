use Rattle.std.proofs.Common.{length}
use Rattle.std.specs.Prelude.{slice_index_or}
use Rattle.lt_link.specs.Ports.{is_from}
use Rattle.lt_net_lossy.specs.Sends.{SentUpTo, posted_message}
use Rattle.lt_net_lossy.proofs.sending.send_all.Given as goal

abbrev pub invariant-loop-i : goal.invariant-loop-i
invariant-loop-i g l = SentUpTo (slice_index_or l.numbers l.i (length l.channels)) (is_from l.channels l.node l.kind) (posted_message l.posted l.bit) l.at (g.W.Fabric.state l.initial.fabric) (g.W.Fabric.state l.fabric) l.initial.watch l.watch
