use Rattle.std.proofs.Common.{◌*◌, ◌<◌, ◌≤◌, arith}
use Rattle.std.proofs.lemmas.Nat.{mul-le}
use Rattle.lt_diagram.proofs.Going.{ticks_on, ticks_end}
use Rattle.lt_diagram.proofs.axis.write_multiples.Goals as goal

pub overflow_mul-time : goal.overflow_mul-time
overflow_mul-time c = omega (arith, mul-le c.multiples.k c.args.step c.args.last c.args.step (omega arith) (omega arith), c.requires)

pub multiples-preserved : goal.multiples-preserved
multiples-preserved c = ticks_on c.args.chart.now c.args.step c.multiples.k c.args.last c.multiples.out c.write_tick.new.out _ c.multiples-test.true c.multiples.invariant c.in_ok-write_tick.ensures

pub returns : goal.returns
returns c = ticks_end c.args.chart.now c.args.step c.multiples.k c.args.last c.multiples.out _ c.multiples-test.false c.multiples.invariant
