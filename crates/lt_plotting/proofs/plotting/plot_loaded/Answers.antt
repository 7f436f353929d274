use Rattle.lt_answer.specs.Alone.{given_word}
use Rattle.lt_plotting.specs.Plotted.{wish_of}
use Rattle.lt_plotting.proofs.Loaded.{over_limit, within_limit}
use Rattle.lt_plotting.proofs.plotting.plot_loaded.Goals as goal

pub returns-in_err-limit_loaded : goal.returns-in_err-limit_loaded
returns-in_err-limit_loaded g c =
    over_limit c.args.loaded.now (wish_of (given_word c.args.schedule) (given_word c.args.observer) c.args.title c.args.view) (g.F.Files.state c.args.files.now) _ _ c.from_residual.ensures.1 c.in_err-limit_loaded.ensures

pub returns : goal.returns
returns g c =
    within_limit c.args.loaded.now (wish_of (given_word c.args.schedule) (given_word c.args.observer) c.args.title c.args.view) (g.F.Files.state c.args.files.now) tt (g.F.Files.state c.plot_limited.new.files) _
    c.in_ok-limit_loaded.ensures c.plot_limited.ensures
