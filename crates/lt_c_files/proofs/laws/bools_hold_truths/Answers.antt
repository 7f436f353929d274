use Rattle.lt_c_files.proofs.BoolRuns.{bools_hold_truths}
use Rattle.lt_c_files.proofs.laws.bools_hold_truths.Goals as goal

pub returns : goal.returns
returns c = bools_hold_truths c.networks_are_sound.ensures
