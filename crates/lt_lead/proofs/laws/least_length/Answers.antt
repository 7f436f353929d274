use Rattle.lt_lead.proofs.Keeping.{least_length as law}
use Rattle.lt_lead.proofs.laws.least_length.Goals as goal

pub returns : goal.returns
returns c = law
