use Rattle.std.proofs.Common.{◌≡◌, take}
use Rattle.lt_net_lossy.proofs.posting.posted_of.Given as goal

abbrev pub invariant-loop-buffer : goal.invariant-loop-buffer
invariant-loop-buffer l = l.posted.items ≡ take l.buffer-index l.buffers
