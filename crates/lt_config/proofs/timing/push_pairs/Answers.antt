use Rattle.std.proofs.Common.{map}
use Rattle.toml.specs.View.{table_view}
use Rattle.lt_arch.specs.NodeNames.{names_of}
use Rattle.lt_config.specs.Setup.{pair_numbers}
use Rattle.lt_config.specs.Reading.{delays_of}
use Rattle.lt_config.proofs.Pairs.{more_pairs, same_pairs}
use Rattle.lt_config.proofs.timing.push_pairs.Goals as goal
use Rattle.lt_config.proofs.timing.push_pairs.Goals.{then-to-from+in_ok-pair_time+in_ok-push, else-to-from}

pub loop-to-preserved : goal.loop-to-preserved
loop-to-preserved c =
    let f = pair_numbers (table_view c.args.table.now) (names_of c.args.nodes.now) in
    let start = map delays_of c.args.pairs.now in
    elim c.if-to-from.branch [
      | then-to-from+in_ok-pair_time+in_ok-push w ↦ rw (w.pairs-is, w.in_ok-push.ensures.ok) (more_pairs f start c.loop-to.pairs w.in_ok-pair_time.field-0 c.args.from c.loop-to.to w.if-to-from.true w.in_ok-pair_time.ensures c.loop-to.invariant)
      | else-to-from w ↦ rw w.pairs-is (same_pairs f start (map delays_of c.loop-to.pairs) c.args.from c.loop-to.to w.if-to-from.false c.loop-to.invariant)
    ]
