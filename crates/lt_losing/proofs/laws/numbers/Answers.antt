use Rattle.lt_losing.proofs.Walking.{lossy_numbers}
use Rattle.lt_losing.proofs.laws.numbers.Goals as goal

pub returns : goal.returns
returns c = lossy_numbers
