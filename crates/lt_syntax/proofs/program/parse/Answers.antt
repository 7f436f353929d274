use Rattle.std.proofs.Common.{Ok, Err, arith}
use Rattle.lt_syntax.proofs.Reading.{only_read}
use Rattle.lt_syntax.proofs.program.parse.Goals as goal

pub invariant_of-result : goal.invariant_of-result
invariant_of-result c = (c.args.bytes.now, c.in-Ok.ensures)

pub returns-in-Ok-clause-only : goal.returns-in-Ok-clause-only
returns-in-Ok-clause-only c = only_read 200 (omega arith) c.args.bytes.now (Ok c.in-Ok.nodes) c.in-Ok.ensures

pub returns-in-Err-clause-only : goal.returns-in-Err-clause-only
returns-in-Err-clause-only c = only_read 200 (omega arith) c.args.bytes.now (Err c.in-Err.error) c.in-Err.ensures
