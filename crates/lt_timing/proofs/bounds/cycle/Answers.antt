use Rattle.std.proofs.Common.{arith}
use Rattle.lt_arch.proofs.Ranges.{slowest-some}
use Rattle.lt_timing.proofs.bounds.cycle.Goals as goal

pub returns-in-BackPressure-clause-some : goal.returns-in-BackPressure-clause-some
returns-in-BackPressure-clause-some c = let s = slowest-some c.args.timing.now c.args.node c.requires in omega (arith, s, c.back_pressure_cycle.ensures)
