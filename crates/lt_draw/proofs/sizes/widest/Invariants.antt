use Rattle.std.proofs.Common.{◌≡◌, ◌≤◌, drop}
use Rattle.lt_diagram.specs.Chart.{widest_from}
use Rattle.lt_draw.proofs.sizes.widest.Given as goal

abbrev pub invariant-names : goal.invariant-names
invariant-names l = record {
  few : l.best ≤ 16;
  value : widest_from 0 l.names ≡ widest_from l.best (drop l.name-index l.names);
}
