use Rattle.lt_emit.proofs.OneEmit.{emit_refused, emit_refuses}
use Rattle.lt_emit.proofs.laws.same_refusals.Goals as goal

pub returns : goal.returns
returns c = λ named header program config node e. (emit_refused named header program config node e, emit_refuses named header program config node e)
