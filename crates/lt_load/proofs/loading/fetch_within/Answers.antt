use Rattle.lt_load.proofs.Wholes.{at_limit, is_fetched, fetched_short}
use Rattle.lt_load.proofs.loading.fetch_within.Goals as goal

pub returns-clause-answered : goal.returns-clause-answered
returns-clause-answered g c =
    let read = c.read_file-read.ensures in
    rw c.bytes_or_fault.ensures (is_fetched c.args.what _ _ _ c.read_file-read.result (at_limit _ _ _ _ _ _ c.limit.ensures (record { cause = read.cause; keeps = read.keeps; visits = read.visits; whole = read.whole; missing = read.missing; sound = read.sound })))

pub returns-clause-short : goal.returns-clause-short
returns-clause-short g c = rw c.bytes_or_fault.ensures (fetched_short c.args.what c.read_file-read.result)
