use Rattle.std.proofs.Common.{◌∙◌, ℕ, List, Option, Err, sym, subst}
use Rattle.std.specs.Prelude.{option_map}
use Rattle.lt_load_fit.specs.Main.{main_in}
use Rattle.lt_load.proofs.Steps.{counts_on}
use Rattle.lt_watch.specs.Watch.{observer_verdict}
use Rattle.lt_watch.proofs.Stages.{not_loaded, loaded_watched}
use Rattle.lt_watch.proofs.Unwatched.{observer_refused}
use Rattle.lt_watch.proofs.watching.watch.Goals as goal

pub returns-in_err-loaded-clause-answered : goal.returns-in_err-loaded-clause-answered
returns-in_err-loaded-clause-answered g c =
    not_loaded c.args.program.now c.args.inputs.now c.args.schedule.now c.args.observer.now (option_map (λ s. s.now) c.args.config) (g.F.Files.state c.args.files.now) (g.F.Files.state c.load_run.new.files) (g.W.Fabric.state c.args.fabric.now) _ _
    c.from_residual.ensures.1 c.in_err-loaded.ensures

pub watch_loaded-watched-requires-clause-count : goal.watch_loaded-watched-requires-clause-count
watch_loaded-watched-requires-clause-count g c = counts_on _ _ c.in_ok-loaded.ensures.cause.files c.requires.count

pub returns-clause-answered : goal.returns-clause-answered
returns-clause-answered g c =
    loaded_watched c.args.program.now c.args.inputs.now c.args.schedule.now c.args.observer.now (option_map (λ s. s.now) c.args.config) (g.F.Files.state c.args.files.now) (g.F.Files.state c.load_run.new.files) (g.W.Fabric.state c.args.fabric.now) c.in_ok-loaded.loaded
    (g.F.Files.state c.watch_loaded-watched.new.files) (g.W.Fabric.state c.watch_loaded-watched.new.fabric) _ c.in_ok-loaded.ensures c.watch_loaded-watched.ensures.answered

pub returns-clause-untouched : goal.returns-clause-untouched
returns-clause-untouched g c told e refused =
    let first = c.in_ok-loaded.ensures in
    let a = g.F.Files.state c.args.files.now in
    let k = c.in_ok-loaded.loaded in
    let at_observer = observer_refused c.args.program.now c.args.inputs.now c.args.observer.now (option_map (λ s. s.now) c.args.config) a _ k first told e refused in
    c.watch_loaded-watched.ensures.untouched (first.keeps.files.told ∙ told) e
    (subst (λ (named : List ℕ → Option (List ℕ)). observer_verdict (main_in k.checked.program) (named c.args.observer.now) (Err e)) (sym first.keeps.files.named) at_observer)
