use Rattle.lt_losing.proofs.Wider.{lossy_admissible_within}
use Rattle.lt_losing.proofs.laws.stays_admissible.Goals as goal

pub returns : goal.returns
returns c s t narrow limit rows es w h = lossy_admissible_within s t narrow w limit rows es h
