use Rattle.lt_words.specs.Commands.{sim_app, big_app}
use Rattle.lt_words.proofs.commands.with_drawings.Goals as goal

pub returns : goal.returns
returns c = λ said made. c.with_command.ensures _ big_app (c.with_command-command.ensures _ sim_app made c.sim.ensures) c.big.ensures
