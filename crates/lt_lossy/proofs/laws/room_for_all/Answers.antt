use Rattle.lt_lossy.proofs.Spacing.{law-room}
use Rattle.lt_lossy.proofs.laws.room_for_all.Goals as goal

pub returns : goal.returns
returns c = law-room
