use Rattle.lt_net_lossy.proofs.OddBits.{odd_is}
use Rattle.lt_net_lossy.proofs.sending.bit_of.Goals as goal

pub returns : goal.returns
returns c = odd_is c.args.number
