use Rattle.std.proofs.Common.{◌≡◌, ◌≤◌, drop}
use Rattle.lt_tape.specs.Kept.{count_in}
use Rattle.lt_tape.proofs.keeping.count_in.Given as goal

abbrev pub invariant-strokes : goal.invariant-strokes
invariant-strokes l = record {
  few : l.count ≤ l.stroke-index;
  value : count_in l.window 0 l.strokes ≡ count_in l.window l.count (drop l.stroke-index l.strokes);
}
