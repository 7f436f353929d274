use Rattle.std.proofs.Common.{◌≡◌, ◌≤◌, length, ap, sym, ◌∙◌, subst, arith}
use Rattle.std.proofs.lemmas.List.{length-map}
use Rattle.toml.specs.View.{table_view}
use Rattle.lt_arch.specs.NodeNames.{names_of}
use Rattle.lt_config.specs.Setup.{setup_nodes, node_numbers}
use Rattle.lt_config.specs.Reading.{numbers_of}
use Rattle.lt_config.proofs.NoFault.{no_fault}
use Rattle.lt_config.proofs.GoodNodes.{good_nodes}
use Rattle.lt_config.proofs.Pairs.{as_many}
use Rattle.lt_arch.specs.Paced.{FitsPace}
use Rattle.lt_config.proofs.Leaders.{fits_pace}
use Rattle.lt_config.proofs.reading.setup_of.Goals as goal

pub invariant_of-result : goal.invariant_of-result
invariant_of-result c =
    let t = table_view c.args.table.now in
    let times = c.in_ok-timing.timing.nodes in
    let named = c.in_ok-named.named.nodes in
    let same : named ≡ setup_nodes t = c.in_ok-named.ensures in
    let count : length times ≡ length (names_of (setup_nodes t)) = as_many numbers_of (node_numbers t) times (names_of (setup_nodes t)) c.in_ok-timing.ensures.times in
    let few : length (setup_nodes t) ≤ 32 = (good_nodes t (no_fault t c.requires)).few in
    let names : length (names_of (setup_nodes t)) ≡ length (setup_nodes t) = length-map (setup_nodes t) (λ node. node.name) in
    record {
      same_nodes = count ∙ ap (λ ns. length (names_of ns)) (sym same);
      few = omega (arith, count, names, few);
      paced =
          subst (λ pace. FitsPace pace c.in_ok-timing.timing) (sym c.pace_of-pace.ensures)
          (fits_pace t (no_fault t c.requires) c.in_ok-timing.timing named same (c.names_differ.ensures c.in_ok-named.named) c.in_ok-named.named.inhabited c.in_ok-timing.ensures.times c.in_ok-timing.ensures.protocol);
    }

pub pace_of-pace-requires-clause-few : goal.pace_of-pace-requires-clause-few
pace_of-pace-requires-clause-few c =
    let t = table_view c.args.table.now in
    rw (c.deref.ensures, c.in_ok-named.ensures) (good_nodes t (no_fault t c.requires)).few
