use Rattle.std.proofs.Common.{None}
use Rattle.lt_answer.specs.World.{alone}
use Rattle.lt_answer.proofs.Stages.{settles}
use Rattle.lt_watch.specs.Blamed.{watch_blame}
use Rattle.lt_watch.specs.Errands.{observer_errand}
use Rattle.lt_watch.specs.Watch.{observer_verdict}
use Rattle.lt_plotting.proofs.Optional.{named_value, named_fault}
use Rattle.lt_plotting.proofs.printing.observer_if_named.Goals as goal

pub returns-in-Ok : goal.returns-in-Ok
returns-in-Ok g c =
    let a = g.F.Files.state c.args.files.now in
    rw c.in-Some.is (named_value watch_blame observer_errand (λ name. observer_verdict c.args.main.now (a.named name)) (alone a) (alone (g.F.Files.state c.load_observer.new.files)) c.in-Some.name.now c.in-Ok.observer c.in-Ok.ensures)

pub returns-in-Err : goal.returns-in-Err
returns-in-Err g c =
    let a = g.F.Files.state c.args.files.now in
    rw c.in-Some.is (named_fault watch_blame observer_errand (λ name. observer_verdict c.args.main.now (a.named name)) (alone a) (alone (g.F.Files.state c.load_observer.new.files)) c.in-Some.name.now c.in-Err.fault c.in-Err.ensures)

pub returns-in-None : goal.returns-in-None
returns-in-None g c = rw c.in-None.is (settles _ None tt)
