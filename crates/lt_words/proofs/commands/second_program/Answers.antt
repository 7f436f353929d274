use Rattle.lt_words.specs.Lttac.{emit_app, schedule_app, draw_app, plot_app, lttac_app}
use Rattle.lt_words.proofs.commands.second_program.Goals as goal

pub returns : goal.returns
unfolding lttac_app
returns c =
    c.with_command.ensures _ plot_app
    (c.with_command-command-3.ensures _ draw_app
    (c.with_command-command-2.ensures _ schedule_app (c.with_command-command.ensures _ emit_app c.bare.ensures c.emit.ensures) c.schedule.ensures)
    c.draw.ensures) c.plot.ensures
