use Rattle.std.proofs.Common.{◌≡◌, map, take}
use Rattle.lt_syntax.specs.Views.{tm_of}
use Rattle.lt_syntax.proofs.term.+copying.Given as goal

abbrev pub invariant-twins-loop-term : goal.invariant-twins-loop-term
invariant-twins-loop-term l = map tm_of l.copies.items ≡ map tm_of (take l.term-index l.term-items)
