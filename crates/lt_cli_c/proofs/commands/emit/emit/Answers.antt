use Rattle.lt_cli_c.proofs.Obeying.{replied}
use Rattle.lt_cli_c.proofs.commands.emit.emit.Goals as goal

pub returns : goal.returns
returns g c = replied _ _ _ _ c.emit-emitted.result c.emit_reply.result c.emit_reply.ensures c.emit-emitted.ensures
