use Rattle.std.proofs.Common.{◌≡◌, drop, fold}
use Rattle.lt_scale.specs.Scale.{range_widened, cells_range}
use Rattle.lt_scale.proofs.scale.range_of.Given as goal

-- the range so far, widened by the cells that are left
abbrev pub invariant-cells : goal.invariant-cells
invariant-cells l = fold range_widened l.range (drop l.cell-index l.cells) ≡ cells_range l.cells
