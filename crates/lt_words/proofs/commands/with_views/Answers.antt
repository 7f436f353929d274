use Rattle.lt_words.specs.Commands.{watch_app, audit_app, trace_app}
use Rattle.lt_words.proofs.commands.with_views.Goals as goal

pub returns : goal.returns
returns c = λ said made. c.with_command.ensures _ trace_app (c.with_command-command-2.ensures _ audit_app (c.with_command-command.ensures _ watch_app made c.watch.ensures) c.audit.ensures) c.trace.ensures
