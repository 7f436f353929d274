use Rattle.std.proofs.Common.{Err, refl, subst}
use Rattle.lt_arch.specs.declared.shape.Shape.{Shape}
use Rattle.lt_run.specs.Run.{AsCommand}
use Rattle.lt_run.proofs.Elsewhere.{near_as_command}
use Rattle.lt_run.proofs.Onward.{fault_of, not_printed, outputs_of, shown_by}
use Rattle.lt_run.proofs.running.run_with.Goals as goal

pub returns-in-Ok : goal.returns-in-Ok
returns-in-Ok g c =
    let shown = outputs_of _ c.args.loaded c.args.schedule.now _ _ _ _ c.in-Ok.printed c.into_outputs.result c.into_outputs.ensures.names c.into_outputs.ensures.cells c.in-Ok.ensures in
    record { answered = shown_by c.args.loaded c.args.schedule.now _ _ _ _ c.into_outputs.result shown; near = λ told. tt; opens = record { calls = shown.opens.calls; done = shown.opens.done } }

pub returns-in-Err : goal.returns-in-Err
returns-in-Err g c =
    let is = subst (λ (s : Shape). AsCommand s c.in-Err.fault c.as_command.result) c.requires.same c.as_command.ensures in
    let refused = not_printed _ c.args.loaded c.args.schedule.now _ _ _ _ c.in-Err.fault (Err c.in-Err.fault) refl c.in-Err.ensures in
    record {
      answered = fault_of c.args.loaded c.args.schedule.now _ _ _ _ c.in-Err.fault _ is refused;
      near = λ told. near_as_command c.args.loaded.shape _ _ c.in-Err.fault c.as_command.result is (refused.near told);
      opens = record { calls = refused.opens.calls; done = tt };
    }
