-- The list has the channels to the node before this one.
use Rattle.std.proofs.Common.{◌≡◌}
use Rattle.lt_link.specs.Ports.{numbers, is_to}
use Rattle.lt_link.proofs.listing.numbers_to.Given as goal

abbrev pub invariant-loop-c : goal.invariant-loop-c
invariant-loop-c l = l.list ≡ numbers (is_to l.channels l.node l.kind) l.c
