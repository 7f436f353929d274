use Rattle.std.proofs.Common.{◌≡◌, length, take}
use Rattle.lt_place_reads.specs.Origins.{variable_count}
use Rattle.lt_place_reads.specs.Reads.{looked}
use Rattle.lt_place.specs.Reports.{HasLeast, reports}
use Rattle.lt_place.proofs.marks.marks.Given as goal

abbrev pub invariant-loop-equation : goal.invariant-loop-equation
invariant-loop-equation l = record {
  size : length l.marks.items ≡ variable_count l.f;
  least : HasLeast l.marks.items (reports (looked l.look l.f) l.nodes l.origin (take l.equation-index l.equation-items));
}
