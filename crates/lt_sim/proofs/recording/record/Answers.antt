use Rattle.std.proofs.Common.{length, Result, Ok, Err, subst}
use Rattle.std.specs.Prelude.{OnOk}
use Rattle.lt_sim.specs.Drawn.{drawn}
use Rattle.lt_sim.specs.Recorded.{IsWithinMost}
use Rattle.lt_sim.proofs.Shown.{shown}
use Rattle.lt_sim.proofs.recording.record.Goals as goal

whatever : {T E : Type 0} (X : Type 0) (result : Result T E) → X → OnOk result X
whatever X (Ok value) holds = holds
whatever X (Err fault) holds = tt

pub returns-then-branch-clause-sim_shown : goal.returns-then-branch-clause-sim_shown
returns-then-branch-clause-sim_shown g c =
    let few = subst (IsWithinMost (length (drawn c.args.shape.now c.args.timing.now c.args.rows c.args.seed c.args.horizon))) c.if-branch.true c.in_ok-ends_in_time.ensures in
    whatever _ c.write_events.result (shown c.args.shape.now c.args.timing.now c.args.rows c.args.seed c.args.horizon c.requires.one_place c.requires.horizon few)
