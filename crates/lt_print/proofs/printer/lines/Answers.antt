use Rattle.lt_print.specs.Canonical.{local_lines}
use Rattle.lt_print.specs.Printed.{local_line}
use Rattle.lt_print.proofs.Printing.{next, lines_snoc}
use Rattle.lt_print.proofs.printer.lines.Goals as goal

pub lines-preserved : goal.lines-preserved
lines-preserved c = next local_lines local_line lines_snoc c.args.out.now c.lines.out c.line.new.out c.args.ds.now c.lines.d-index c.d-item.result c.lines-test.true c.d-item.is c.lines.invariant c.in_ok-line.ensures
