use Rattle.lt_big_texts.proofs.SetupRead.{setup_read}
use Rattle.lt_big_texts.proofs.laws.setup_read.Goals as goal

pub returns : goal.returns
returns c = setup_read
