use Rattle.std.proofs.Common.{Err, sym}
use Rattle.lt_lossy.proofs.Rows.{plain-line, is_fault}
use Rattle.lt_lossy.proofs.reading.read_other.Goals as goal

pub returns-in_default : goal.returns-in_default
returns-in_default c = record { event = sym (plain-line c.args.shape.now (Err c.args.fault) (is_fault c.args.fault c.in_default.not-Kind) c.args.line.now c.requires.other); of_shape = tt }
