use Rattle.std.proofs.Common.{◌≡◌, ◌∙◌, [], Ok, Err, length, ap, subst, arith}
use Rattle.lt_base.specs.Program.{Function}
use Rattle.lt_answer.specs.World.{alone, world}
use Rattle.lt_answer.specs.Answered.{Answered}
use Rattle.lt_front.specs.Checked.{CheckedText}
use Rattle.lt_load_fit.specs.Main.{main_in}
use Rattle.lt_load.specs.Plan.{LoadedPlan}
use Rattle.lt_load.proofs.Steps.{counts_on}
use Rattle.lt_watch.specs.Blamed.{watch_blame}
use Rattle.lt_watch.specs.Errands.{observer_errand}
use Rattle.lt_watch.specs.Watch.{observer_verdict}
use Rattle.lt_watch.proofs.Stages.{few_outputs, no_observer, with_observer}
use Rattle.lt_watch.proofs.Unwatched.{not_observed}
use Rattle.lt_watch.proofs.watching.watch_loaded.Goals as goal

pub load_observer-requires-clause-few : goal.load_observer-requires-clause-few
load_observer-requires-clause-few g c =
    let none : Function = record { name = []; decls = []; n_in = 0; outs = []; eqs = [] } in
    let few = few_outputs c.checked.inside.program.funcs c.checked.inside.program.main none (omega arith) c.checked.invariant.examined.resolved.small in
    omega (arith, few, ap (λ (f : Function). length f.outs) c.main_of.ensures)

pub returns-in_err-observer-clause-answered : goal.returns-in_err-observer-clause-answered
returns-in_err-observer-clause-answered g c =
    let a = g.F.Files.state c.args.files.now in
    let b = g.F.Files.state c.load_observer.new.files in
    let fabric = g.W.Fabric.state c.args.fabric.now in
    let program = ap (λ (t : CheckedText). t.program) c.checked.view_is ∙ ap (λ (k : LoadedPlan). k.checked.program) c.loaded.view_is in
    let main : c.main_of.result.now ≡ main_in c.args.loaded.now.checked.program = c.main_of.ensures ∙ ap main_in program in
    no_observer c.args.schedule.now c.args.observer.now a b fabric c.args.loaded.now (world b fabric) _ _ c.from_residual.ensures.1
    (subst (λ (f : Function). Answered watch_blame (observer_errand c.args.observer.now) (observer_verdict f (a.named c.args.observer.now)) (alone a) (alone b) (Err c.in_err-observer.field-0.0)) main c.in_err-observer.ensures)

pub follow-watched-requires-clause-count : goal.follow-watched-requires-clause-count
follow-watched-requires-clause-count g c = counts_on _ _ c.in_ok-observer.ensures.cause.files c.requires.count

pub returns-clause-answered : goal.returns-clause-answered
returns-clause-answered g c =
    let a = g.F.Files.state c.args.files.now in
    let b = g.F.Files.state c.load_observer.new.files in
    let fabric = g.W.Fabric.state c.args.fabric.now in
    let program = ap (λ (t : CheckedText). t.program) c.checked.view_is ∙ ap (λ (k : LoadedPlan). k.checked.program) c.loaded.view_is in
    let main : c.main_of.result.now ≡ main_in c.args.loaded.now.checked.program = c.main_of.ensures ∙ ap main_in program in
    with_observer c.args.schedule.now c.args.observer.now a b fabric c.args.loaded.now (g.F.Files.state c.follow-watched.new.files) (g.W.Fabric.state c.follow-watched.new.fabric) c.in_ok-observer.observer _
    (subst (λ (f : Function). Answered watch_blame (observer_errand c.args.observer.now) (observer_verdict f (a.named c.args.observer.now)) (alone a) (alone b) (Ok c.in_ok-observer.observer)) main c.in_ok-observer.ensures) c.follow-watched.ensures.answered

pub returns-clause-untouched : goal.returns-clause-untouched
returns-clause-untouched g c told e refused =
    let a = g.F.Files.state c.args.files.now in
    let program = ap (λ (t : CheckedText). t.program) c.checked.view_is ∙ ap (λ (k : LoadedPlan). k.checked.program) c.loaded.view_is in
    let main : c.main_of.result.now ≡ main_in c.args.loaded.now.checked.program = c.main_of.ensures ∙ ap main_in program in
    absurd (not_observed (main_in c.args.loaded.now.checked.program) c.args.observer.now a _ c.in_ok-observer.observer
    (subst (λ (f : Function). Answered watch_blame (observer_errand c.args.observer.now) (observer_verdict f (a.named c.args.observer.now)) (alone a) (alone (g.F.Files.state c.load_observer.new.files)) (Ok c.in_ok-observer.observer)) main c.in_ok-observer.ensures)
    told e refused)
