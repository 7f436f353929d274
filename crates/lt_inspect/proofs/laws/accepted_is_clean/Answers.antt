use Rattle.lt_inspect.proofs.Exactness.{accepted_clean}
use Rattle.lt_inspect.proofs.laws.accepted_is_clean.Goals as goal

pub returns : goal.returns
returns c = accepted_clean c.shapes_fit.ensures c.one_place.ensures c.exact_messages.ensures
