use Rattle.lt_c.proofs.Heads.{head_is_sound}
use Rattle.lt_c.proofs.laws.head_is_sound.Goals as goal

pub returns : goal.returns
returns c = head_is_sound
