use Rattle.lt_print.proofs.Spelled as spelled
use Rattle.lt_print.proofs.laws.canonical_spells.Goals as goal

pub returns : goal.returns
returns c = λ bytes t s. spelled.canonical_spells bytes t s
