use Rattle.std.proofs.Common.{◌≡◌, replicate}
use Rattle.lt_lossy_audit.specs.Links.{no_link}
use Rattle.lt_lossy_audit.proofs.audit.links_of.Given as goal

abbrev pub invariant-loop-channel : goal.invariant-loop-channel
invariant-loop-channel l = l.links.items ≡ replicate l._channel no_link
