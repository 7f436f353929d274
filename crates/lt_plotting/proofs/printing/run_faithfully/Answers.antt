use Rattle.std.proofs.Common.{◌∙◌, ◌==◌, ℕ, List, length, IsTrue, ap}
use Rattle.lt_io.specs.MemFabric.{mem_fabric_state}
use Rattle.lt_answer.specs.World.{world}
use Rattle.lt_watch.specs.Blamed.{watch_blame}
use Rattle.lt_watch.specs.Watch.{InCommand, run_along}
use Rattle.lt_plotting.specs.Stage.{loaded_run_verdict}
use Rattle.lt_plotting.proofs.Faithful.{apart}
use Rattle.lt_plotting.proofs.Widened.{run_faithful}
use Rattle.lt_plotting.proofs.printing.run_faithfully.Goals as goal

pub returns : goal.returns
returns g c =
    let a = g.F.Files.state c.args.files.now in
    let b = g.F.Files.state c.run_outputs-outputs.new.files in
    let v = mem_fabric_state c.new-fabric.result in
    let w = mem_fabric_state c.run_outputs-outputs.new.fabric in
    let k = c.args.loaded.now in
    let file = a.named c.args.schedule.now in
    let answered = c.run_outputs-outputs.ensures.answered in
    let quiet : IsTrue v.sound = c.new-fabric.ensures.sound ∙ ap (λ (l : List ℕ). length l == 0) c.new.ensures in
    let faithful : IsTrue w.faithful = answered.keeps.fabric.faithful ∙ c.new-fabric.ensures.faithful in
    apart watch_blame (InCommand (run_along file (world b w) k)) (loaded_run_verdict k file) a b v w _ quiet (run_faithful k file b.place w faithful) answered
