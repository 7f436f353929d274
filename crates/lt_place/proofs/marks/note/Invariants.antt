use Rattle.std.proofs.Common.{◌≡◌, List, ◌++◌, length, take}
use Rattle.lt_place.specs.Reports.{Report, HasLeast, elsewhere}
use Rattle.lt_place.proofs.marks.note.Given as goal

abbrev pub invariant-loop-y : goal.invariant-loop-y
invariant-loop-y l = record {
  same : length l.marks.items ≡ length l.fn.marks.items;
  least : (rs : List Report) → HasLeast l.fn.marks.items rs → HasLeast l.marks.items (rs ++ elsewhere l.nodes l.origin l.x (take l.y-index l.ys));
}
