-- The channels of each node before this one.
use Rattle.std.proofs.Common.{◌≡◌}
use Rattle.lt_link.specs.Ports.{all_ports}
use Rattle.lt_link.proofs.listing.all_ports.Given as goal

abbrev pub invariant-loop-node : goal.invariant-loop-node
invariant-loop-node l = l.ports ≡ all_ports l.shape.channels l.node
