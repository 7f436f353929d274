-- What a loaded program's nodes keep, so that a list can be drawn for them.
use Rattle.std.proofs.Common.{length}
use Rattle.lt_net_replay.specs.Sound.{PlanIsSound, PlansAreSound}
use Rattle.lt_load.specs.Plan.{LoadedPlan, IsLoaded}

-- a loaded program's nodes can be drawn for
pub loaded_sound : (k : LoadedPlan) → IsLoaded k → PlansAreSound → PlanIsSound k.layout k.shape k.timing (length k.inputs.rows)
loaded_sound k kept sound = sound k.checked.flat k.layout k.shape k.timing (length k.inputs.rows) kept.placed (k.pace, kept.paced) kept.timed kept.accepted
