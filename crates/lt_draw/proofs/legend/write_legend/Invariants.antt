use Rattle.std.proofs.Common.{◌≡◌, ◌++◌, drop}
use Rattle.lt_draw.specs.Legend.{entries_from}
use Rattle.lt_draw.proofs.legend.write_legend.Given as goal

abbrev pub invariant-entries : goal.invariant-entries
invariant-entries l = l.out ++ entries_from l.beside l.top l.k (drop l.k l.entries) ≡ l.initial.out ++ entries_from l.beside l.top 0 l.entries
