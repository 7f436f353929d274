use Rattle.lt_print.specs.Canonical.{equation_lines}
use Rattle.lt_print.specs.Printed.{equation_line}
use Rattle.lt_print.proofs.Printing.{next, equations_snoc}
use Rattle.lt_print.proofs.printer.equations.Goals as goal

pub equations-preserved : goal.equations-preserved
equations-preserved c = next equation_lines equation_line equations_snoc c.args.out.now c.equations.out c.equation.new.out c.args.es.now c.equations.e-index c.e-item.result c.equations-test.true c.e-item.is c.equations.invariant c.in_ok-equation.ensures
