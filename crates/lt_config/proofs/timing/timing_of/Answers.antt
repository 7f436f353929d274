use Rattle.std.proofs.Common.{◌≡◌, ◌≤◌, List, length, ap, sym, ◌∙◌, arith}
use Rattle.std.proofs.lemmas.List.{length-map}
use Rattle.toml.specs.View.{table_view}
use Rattle.lt_arch.specs.Pairs.{ordered_pairs}
use Rattle.lt_arch.specs.declared.named.NamedNode.{NamedNode}
use Rattle.lt_arch.specs.NodeNames.{names_of}
use Rattle.lt_config.specs.Setup.{setup_nodes, node_numbers}
use Rattle.lt_config.specs.Reading.{numbers_of}
use Rattle.lt_config.proofs.NoFault.{no_fault}
use Rattle.lt_config.proofs.Ranges.{most_good}
use Rattle.lt_config.proofs.GoodNodes.{good_nodes}
use Rattle.lt_config.proofs.Pairs.{pairs_are, none_above, as_many}
use Rattle.lt_config.proofs.timing.timing_of.Goals as goal

pub pair_times-requires-clause-few : goal.pair_times-requires-clause-few
pair_times-requires-clause-few c =
    let t = table_view c.args.table.now in
    rw (c.as_slice-nodes.ensures, c.requires.nodes) (good_nodes t (no_fault t c.requires.none)).few

pub invariant_of-result : goal.invariant_of-result
invariant_of-result c =
    let t = table_view c.args.table.now in
    let good = no_fault t c.requires.none in
    let nodes : List NamedNode = c.as_slice-nodes.result.now in
    let same : nodes ≡ setup_nodes t = c.as_slice-nodes.ensures ∙ c.requires.nodes in
    let count : length c.in_ok-node_times.field-0 ≡ length nodes = as_many numbers_of (node_numbers t) c.in_ok-node_times.field-0 (names_of nodes) c.in_ok-node_times.ensures ∙ length-map nodes (λ node. node.name) in
    let few : length nodes ≤ 32 = rw same (good_nodes t good).few in
    record {
      pairs_are = pairs_are t (names_of nodes) c.in_ok-pair_times.field-0 (ordered_pairs (length nodes)) c.in_ok-pair_times.ensures ∙ ap ordered_pairs (sym count);
      none_above = rw c.most_delay.ensures (none_above t (names_of nodes) c.in_ok-pair_times.field-0 (ordered_pairs (length nodes)) c.in_ok-pair_times.ensures);
      most_range = rw c.most_delay.ensures (most_good t good);
      numbered = omega (arith, count, few);
    }
