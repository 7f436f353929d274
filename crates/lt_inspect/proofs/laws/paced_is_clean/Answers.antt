use Rattle.lt_inspect.proofs.Exactness.{paced_clean}
use Rattle.lt_inspect.proofs.laws.paced_is_clean.Goals as goal

pub returns : goal.returns
returns c = paced_clean c.accepted_is_clean.ensures c.lead_shapes_fit.ensures c.exact_messages.ensures
