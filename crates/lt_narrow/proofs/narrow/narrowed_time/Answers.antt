use Rattle.std.proofs.Common.{refl}
use Rattle.lt_narrow.proofs.Times.{entry, narrowed_is}
use Rattle.lt_narrow.proofs.narrow.narrowed_time.Goals as goal

pub returns : goal.returns
returns c =
    narrowed_is c.args.jitter c.args.timing.now c.args.node c.index-deref-node.result c.trim-trim.result _
    (entry c.args.timing.now c.args.node c.deref.result.now c.index-deref-node.result c.deref.ensures c.index-deref-node.is c.requires.node)
    c.trim-trim.ensures.value refl refl refl refl
