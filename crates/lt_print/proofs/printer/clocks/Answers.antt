use Rattle.lt_print.specs.Canonical.{clocks_text, when_text}
use Rattle.lt_print.proofs.Printing.{next, clocks_snoc}
use Rattle.lt_print.proofs.printer.clocks.Goals as goal

pub clocks-preserved : goal.clocks-preserved
clocks-preserved c = next clocks_text (λ p. when_text p.0 p.1) clocks_snoc c.args.out.now c.clocks.out c.clock.new.out c.args.cs.now c.clocks.pair-index c.pair-item.result c.clocks-test.true c.pair-item.is c.clocks.invariant c.in_ok-clock.ensures
