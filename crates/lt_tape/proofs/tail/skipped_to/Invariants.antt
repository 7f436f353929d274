use Rattle.std.proofs.Common.{◌≡◌, ◌+◌, drop}
use Rattle.lt_tape.specs.Windows.{skipped_to}
use Rattle.lt_tape.proofs.tail.skipped_to.Given as goal

abbrev pub invariant-strokes : goal.invariant-strokes
invariant-strokes l = record {
  count : l.count ≡ l.stroke-index;
  value : skipped_to l.from l.strokes ≡ skipped_to l.from (drop l.stroke-index l.strokes) + l.count;
}
