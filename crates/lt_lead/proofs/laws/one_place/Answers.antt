use Rattle.lt_lead.proofs.Keeping.{one_place as law}
use Rattle.lt_lead.proofs.laws.one_place.Goals as goal

pub returns : goal.returns
returns c = law
