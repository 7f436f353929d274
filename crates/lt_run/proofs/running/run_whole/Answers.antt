use Rattle.std.proofs.Common.{refl}
use Rattle.lt_run.proofs.Onward.{not_run}
use Rattle.lt_run.proofs.running.run_whole.Goals as goal

pub returns-in-Err : goal.returns-in-Err
returns-in-Err g c =
    let short = not_run c.args.loaded c.args.schedule.now _ _ _ refl in
    record { answered = short.0; near = short.1; opens = short.2 }
