use Rattle.lt_lead.proofs.LeadShape.{lead_shapes_fit as law}
use Rattle.lt_lead.proofs.laws.lead_shapes_fit.Goals as goal

pub returns : goal.returns
returns c = law
