-- A schedule that is drawn, on the sink that takes it.
use Rattle.std.specs.Prelude.{ℕ, length, Result}
use Rattle.lt_base.specs.declared.memory.Or.{Or}
use Rattle.lt_io.specs.SinkState.{SinkState}
use Rattle.lt_load.specs.Plan.{LoadedPlan}
use Rattle.lt_sim.specs.declared.fault.SimFault.{SimFault}
use Rattle.lt_sim.specs.Drawn.{drawn}
use Rattle.lt_sim.specs.Recorded.{Records}
use Rattle.lt_text_answers.specs.Draws.{ShowsDrawing, drawing}

-- what the seed draws for what was loaded, up to the horizon, is recorded
abbrev pub RecordsDrawn : LoadedPlan → (seed horizon : ℕ) → (old new : SinkState) → Result ℕ (Or SimFault) → Type 0
RecordsDrawn k seed horizon old new result = Records k.shape (drawn k.shape k.timing (length k.inputs.rows) seed horizon) old new result

-- and unless it has too many events it keeps to the bounds, ends at the horizon, and its file reads back
abbrev pub DrawsShown : LoadedPlan → (seed horizon : ℕ) → Type 0
DrawsShown k seed horizon = ShowsDrawing k.shape k.timing (length k.inputs.rows) horizon (drawing k.shape k.timing (length k.inputs.rows) seed horizon)
