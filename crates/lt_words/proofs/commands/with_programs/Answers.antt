use Rattle.lt_words.specs.Commands.{check_app, meaning_app, run_app, plan_app}
use Rattle.lt_words.proofs.commands.with_programs.Goals as goal

pub returns : goal.returns
returns c = λ said made. c.with_command.ensures _ plan_app (c.with_command-command-3.ensures _ run_app (c.with_command-command-2.ensures _ meaning_app (c.with_command-command.ensures _ check_app made c.check.ensures) c.meaning.ensures) c.run.ensures) c.plan.ensures
