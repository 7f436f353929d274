use Rattle.lt_lossy_audit.specs.Sends.{SendsSeen}
use Rattle.lt_lossy_audit.proofs.sending.send_all.Given as goal

abbrev pub invariant-loop-c : goal.invariant-loop-c
invariant-loop-c g l = SendsSeen l.shape l.node l.seen l.at l.c l.fn.links.items l.links.items l.fn.watch l.watch
