use Rattle.lt_lead.proofs.Keeping.{exact_messages as law}
use Rattle.lt_lead.proofs.laws.exact_messages.Goals as goal

pub returns : goal.returns
returns c = law
