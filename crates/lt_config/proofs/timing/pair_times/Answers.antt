use Rattle.std.proofs.Common.{◌≡◌, map, length, arith, ap, ◌∙◌}
use Rattle.toml.specs.View.{table_view}
use Rattle.lt_arch.specs.Pairs.{pairs_below}
use Rattle.lt_arch.specs.NodeNames.{names_of}
use Rattle.lt_config.specs.Setup.{pair_numbers}
use Rattle.lt_config.specs.Reading.{delays_of}
use Rattle.lt_config.proofs.Pairs.{pairs_of_next}
use Rattle.lt_config.proofs.timing.pair_times.Goals as goal

pub loop-from-preserved : goal.loop-from-preserved
loop-from-preserved c =
    let f = pair_numbers (table_view c.args.table.now) (names_of c.args.nodes.now) in
    pairs_of_next f (length c.args.nodes.now) c.loop-from.from (map delays_of c.loop-from.pairs) (map delays_of c.push_pairs.new.pairs) c.loop-from.invariant c.in_ok-push_pairs.ensures

pub returns : goal.returns
returns c =
    let f = pair_numbers (table_view c.args.table.now) (names_of c.args.nodes.now) in
    let n = length c.args.nodes.now in
    let end : c.loop-from.from ≡ n = omega (arith, c.loop-from.auto.from-end) in
    c.loop-from.invariant ∙ ap (λ i. map f (pairs_below n i)) end
