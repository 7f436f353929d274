use Rattle.std.proofs.Common.{arith}
use Rattle.lt_net_start.proofs.RowsRead.{row_all}
use Rattle.lt_net_start.proofs.feeding.read_row.Goals as goal

pub returns-clause-row : goal.returns-clause-row
returns-clause-row c =
    row_all c.args.width c.args.inputs.now.rows c.args.instant c.loop-input.input c.loop-input.row.items c.requires.wide c.requires.instant c.loop-input.invariant.0 (omega (arith, c.loop-input-test.false)) c.loop-input.invariant.1
