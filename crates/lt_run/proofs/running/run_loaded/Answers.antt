use Rattle.std.proofs.Common.{subst}
use Rattle.lt_load.specs.Plan.{LoadedPlan}
use Rattle.lt_run.specs.Run.{AsCommand}
use Rattle.lt_run.proofs.Elsewhere.{near_as_command}
use Rattle.lt_run.proofs.Onward.{shown_by, fault_of}
use Rattle.lt_run.proofs.running.run_loaded.Goals as goal

pub returns-in-Ok : goal.returns-in-Ok
returns-in-Ok g c = record { answered = shown_by c.args.loaded.now c.args.schedule.now _ _ _ _ c.in-Ok.outputs c.in-Ok.ensures; near = λ told. tt; opens = record { calls = c.in-Ok.ensures.opens.calls; done = c.in-Ok.ensures.opens.done } }

pub returns-in-Err : goal.returns-in-Err
returns-in-Err g c =
    let is = subst (λ (k : LoadedPlan). AsCommand k.shape c.in-Err.fault c.as_command.result) c.loaded.view_is c.as_command.ensures in
    record {
      answered = fault_of c.args.loaded.now c.args.schedule.now _ _ _ _ c.in-Err.fault _ is c.in-Err.ensures;
      near = λ told. near_as_command c.args.loaded.now.shape _ _ c.in-Err.fault c.as_command.result is (c.in-Err.ensures.near told);
      opens = record { calls = c.in-Err.ensures.opens.calls; done = tt };
    }
