use Rattle.std.proofs.Common.{Ok}
use Rattle.lt_answer.specs.Alone.{given_word}
use Rattle.lt_plotting.specs.Plotted.{plot_text_verdict}
use Rattle.lt_plotting.proofs.Loaded.{no_run, short_settles, with_run}
use Rattle.lt_plotting.proofs.plotting.plot_observed.Goals as goal

pub returns-in_err-printed : goal.returns-in_err-printed
returns-in_err-printed g c =
    no_run c.args.loaded.now (given_word c.args.schedule) c.args.title c.args.view c.args.observer.now (g.F.Files.state c.args.files.now) (g.F.Files.state c.run_if_named.new.files) _ _ c.from_residual.ensures.1 c.in_err-printed.ensures

pub returns-in_err-drawn : goal.returns-in_err-drawn
returns-in_err-drawn g c =
    let k = c.args.loaded.now in
    with_run k (given_word c.args.schedule) c.args.title c.args.view c.args.observer.now (g.F.Files.state c.args.files.now) (g.F.Files.state c.run_if_named.new.files) c.in_ok-printed.printed _ c.in_ok-printed.ensures
    (short_settles (plot_text_verdict k.checked.program k.inputs.rows c.args.title c.args.view c.args.observer.now c.in_ok-printed.printed) _ c.from_residual-in_err-drawn.ensures.1)

pub returns : goal.returns
returns g c =
    with_run c.args.loaded.now (given_word c.args.schedule) c.args.title c.args.view c.args.observer.now (g.F.Files.state c.args.files.now) (g.F.Files.state c.run_if_named.new.files) c.in_ok-printed.printed (Ok c.in_ok-drawn.field-0)
    c.in_ok-printed.ensures c.in_ok-drawn.ensures
