use Rattle.std.proofs.Common.{sym, ◌∙◌}
use Rattle.toml.specs.View.{table_view}
use Rattle.lt_arch.specs.NodeNames.{names_of}
use Rattle.lt_config.proofs.NoFault.{no_fault}
use Rattle.lt_config.proofs.Ranges.{delay_good}
use Rattle.lt_config.proofs.Pairs.{name_at, one_pair}
use Rattle.lt_config.proofs.timing.pair_time.Goals as goal

pub invariant_of-result : goal.invariant_of-result
invariant_of-result c =
    let t = table_view c.args.table.now in
    let (low, order, high) = delay_good t (no_fault t c.requires.none) c.as_str.result.now in
    record { delay = rw (c.bounds_of-dmin.ensures, c.own_or_plain-own.ensures) (order, high) }

pub returns : goal.returns
returns c =
    let t = table_view c.args.table.now in
    let nodes = c.args.nodes.now in
    let sender = name_at nodes c.args.from c.index-nodes-from.result c.requires.from ∙ sym c.as_str-sender.ensures in
    let receiver = name_at nodes c.args.to c.index-nodes-to.result c.requires.to ∙ sym c.as_str-receiver.ensures in
    one_pair t (names_of nodes) c.args.from c.args.to c.as_str-sender.result.now c.as_str-receiver.result.now c.as_str.result.now c.bounds_of-dmin.result sender receiver
    (c.as_str.ensures.value ∙ c.in_ok-name.ensures) (rw c.own_or_plain-own.ensures at c.bounds_of-dmin.ensures)
