use Rattle.lt_big_texts.proofs.Bounds.{horizon_serves}
use Rattle.lt_big_texts.proofs.laws.horizon_serves.Goals as goal

pub returns : goal.returns
returns c = horizon_serves
