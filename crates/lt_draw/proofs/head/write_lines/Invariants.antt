use Rattle.std.proofs.Common.{◌≡◌, ◌++◌, ◌+◌, ◌-◌, ◌*◌}
use Rattle.lt_draw.specs.Heading.{lines_below}
use Rattle.lt_draw.proofs.head.write_lines.Given as goal

abbrev pub invariant-lines : goal.invariant-lines
invariant-lines l = record {
  height : l.y ≡ 24 + 16 * l.first + 16 * l.k;
  text : l.out ++ lines_below (40 - l.k) l.per l.y l.class l.rest ≡ l.initial.out ++ lines_below 40 l.per (24 + 16 * l.first) l.class l.text;
}
