use Rattle.std.proofs.Common.{◌≡◌, ◌∙◌, [], Ok, Err, length, ap, subst, arith}
use Rattle.lt_base.specs.Program.{Function}
use Rattle.lt_answer.specs.Alone.{given_word}
use Rattle.lt_front.specs.Checked.{CheckedText}
use Rattle.lt_load_fit.specs.Main.{main_in}
use Rattle.lt_load.specs.Plan.{LoadedPlan}
use Rattle.lt_load.proofs.Steps.{counts_on}
use Rattle.lt_watch.proofs.Stages.{few_outputs}
use Rattle.lt_plotting.specs.Plotted.{wish_of}
use Rattle.lt_plotting.specs.Stage.{ObservesIfNamed}
use Rattle.lt_plotting.proofs.Loaded.{no_observer, with_observer}
use Rattle.lt_plotting.proofs.plotting.plot_limited.Goals as goal

pub observer_if_named-requires-clause-few : goal.observer_if_named-requires-clause-few
observer_if_named-requires-clause-few g c =
    let none : Function = record { name = []; decls = []; n_in = 0; outs = []; eqs = [] } in
    let few = few_outputs c.checked.inside.program.funcs c.checked.inside.program.main none (omega arith) c.checked.invariant.examined.resolved.small in
    omega (arith, few, ap (λ (f : Function). length f.outs) c.main_of.ensures)

pub returns-in_err-observer : goal.returns-in_err-observer
returns-in_err-observer g c =
    let a = g.F.Files.state c.args.files.now in
    let b = g.F.Files.state c.observer_if_named.new.files in
    let program = ap (λ (t : CheckedText). t.program) c.checked.view_is ∙ ap (λ (k : LoadedPlan). k.checked.program) c.loaded.view_is in
    let main : c.main_of.result.now ≡ main_in c.args.loaded.now.checked.program = c.main_of.ensures ∙ ap main_in program in
    no_observer c.args.loaded.now (wish_of (given_word c.args.schedule) (given_word c.args.observer) c.args.title c.args.view) a b _ _ c.from_residual.ensures.1
    (subst (λ (f : Function). ObservesIfNamed f (given_word c.args.observer) a b (Err c.in_err-observer.field-0.0)) main c.in_err-observer.ensures)

pub plot_observed-text-requires : goal.plot_observed-text-requires
plot_observed-text-requires g c = counts_on _ _ c.in_ok-observer.ensures.cause.files c.requires

pub returns : goal.returns
returns g c =
    let a = g.F.Files.state c.args.files.now in
    let b = g.F.Files.state c.observer_if_named.new.files in
    let program = ap (λ (t : CheckedText). t.program) c.checked.view_is ∙ ap (λ (k : LoadedPlan). k.checked.program) c.loaded.view_is in
    let main : c.main_of.result.now ≡ main_in c.args.loaded.now.checked.program = c.main_of.ensures ∙ ap main_in program in
    with_observer c.args.loaded.now (wish_of (given_word c.args.schedule) (given_word c.args.observer) c.args.title c.args.view) a b c.in_ok-observer.observer (g.F.Files.state c.plot_observed-text.new.files) _
    (subst (λ (f : Function). ObservesIfNamed f (given_word c.args.observer) a b (Ok c.in_ok-observer.observer)) main c.in_ok-observer.ensures) c.plot_observed-text.ensures
