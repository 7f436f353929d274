use Rattle.std.proofs.Common.{◌+◌, refl, ap, arith}
use Rattle.lt_io.specs.Visits.{taken_of}
use Rattle.lt_io.proofs.Visiting.{visited_one}
use Rattle.lt_io.proofs.transfer.read_file.Goals as goal

pub returns-in-Ok-clause-visits : goal.returns-in-Ok-clause-visits
returns-in-Ok-clause-visits g c =
    visited_one (record { name = c.args.name.now; most = c.args.limit + 1 }) _ _ _ c.open.ensures.visits c.read_rest.ensures.keeps.visits
    (omega (arith, c.read_rest.ensures.taken, ap taken_of c.open.ensures.visits)) _

pub returns-in-Err-clause-visits : goal.returns-in-Err-clause-visits
returns-in-Err-clause-visits g c =
    visited_one (record { name = c.args.name.now; most = c.args.limit + 1 }) _ _ _ c.open.ensures.visits refl (omega (arith, ap taken_of c.open.ensures.visits)) _
