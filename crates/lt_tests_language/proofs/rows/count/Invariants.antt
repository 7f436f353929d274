use Rattle.std.proofs.Common.{◌<◌, ◌-◌, ◌^◌}
use Rattle.lt_rows.specs.Lines.{CanGoOn}
use Rattle.lt_tests_language.proofs.rows.count.Given as goal

abbrev pub invariant-loop-row : goal.invariant-loop-row
invariant-loop-row g l =
    record {
      count : (g.F.Files.state l.files).faults < 2 ^ 64 - 1;
      ready : CanGoOn l.lines (g.F.Files.state l.files);
    }
