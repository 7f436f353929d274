use Rattle.lt_tape.proofs.Fronting.{fresh_front}
use Rattle.lt_tape.proofs.front.Front.new.Goals as goal

pub returns-clause-fresh : goal.returns-clause-fresh
returns-clause-fresh c = fresh_front c.args.from c.args.most c.args.to c.new.result c.new-2.result c.new-3.result c.new.ensures c.new-2.ensures c.new-3.ensures
