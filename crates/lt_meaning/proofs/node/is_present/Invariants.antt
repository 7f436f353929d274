use Rattle.std.proofs.Common.{◌≡◌, true, take, reverse}
use Rattle.lt_base.specs.Meaning.{entry, present}
use Rattle.lt_meaning.proofs.node.is_present.Given as goal

abbrev pub invariant-loop-c : goal.invariant-loop-c
invariant-loop-c l = present (entry l.cells) (reverse (take l.c-index l.c-items)) ≡ true
