use Rattle.lt_load.proofs.Steps.{counts_on}
use Rattle.lt_answer.specs.Alone.{given_word}
use Rattle.lt_plotting.specs.Plotted.{wish_of}
use Rattle.lt_plotting.proofs.Loaded.{not_loaded, then_plotted}
use Rattle.lt_plotting.proofs.plotting.plot_wish.Goals as goal

pub returns-in_err-loaded : goal.returns-in_err-loaded
returns-in_err-loaded g c =
    not_loaded c.args.program.now c.args.inputs.now (given_word c.args.config) (wish_of (given_word c.args.schedule) (given_word c.args.observer) c.args.title c.args.view) (g.F.Files.state c.args.files.now) (g.F.Files.state c.load_run.new.files) _ _
    c.from_residual.ensures.1 c.in_err-loaded.ensures

pub plot_loaded-text-requires : goal.plot_loaded-text-requires
plot_loaded-text-requires g c = counts_on _ _ c.in_ok-loaded.ensures.cause.files c.requires

pub returns : goal.returns
returns g c =
    then_plotted c.args.program.now c.args.inputs.now (given_word c.args.config) (wish_of (given_word c.args.schedule) (given_word c.args.observer) c.args.title c.args.view) (g.F.Files.state c.args.files.now) (g.F.Files.state c.load_run.new.files)
    c.in_ok-loaded.loaded (g.F.Files.state c.plot_loaded-text.new.files) _ c.in_ok-loaded.ensures c.plot_loaded-text.ensures
