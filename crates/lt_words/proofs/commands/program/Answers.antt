use Rattle.std.specs.Prelude.{codes}
use Rattle.lt_words.specs.Commands.{bare_app, program_app}
use Rattle.lt_words.proofs.commands.program.Goals as goal

pub returns : goal.returns
unfolding program_app
returns c = c.with_views.ensures _ (c.with_drawings-command.ensures _ (c.with_programs-command.ensures (bare_app (codes "ltta")) c.bare.ensures))
