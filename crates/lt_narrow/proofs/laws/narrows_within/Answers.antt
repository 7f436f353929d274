use Rattle.lt_narrow.proofs.Times.{within}
use Rattle.lt_narrow.proofs.laws.narrows_within.Goals as goal

pub returns : goal.returns
returns c = λ jitter t narrow h. within jitter t narrow h
