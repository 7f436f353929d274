use Rattle.std.proofs.Common.{get_or, sym, ◌∙◌, arith}
use Rattle.std.proofs.lemmas.List.Elements.{Contains-get_or}
use Rattle.std.proofs.lemmas.Option.{slice_get-get_or, slice_get_within}
use Rattle.lt_graph.proofs.Edges.{same_circular, read_same, none_before_more, none_closed}
use Rattle.lt_graph.proofs.circular.first_circular.Goals as goal

pub returns-then-index : goal.returns-then-index
returns-then-index c =
    let edges = c.args.edges.now in
    let k = c.loop-place.place in
    let l = c.loop-place-test.true in
    let e = get_or edges k (0, 0) in
    let there = Contains-get_or edges k (0, 0) l in
    let read = read_same c.args.nodes edges c.requires c.in_ok-table.table c.in_ok-table.ensures c.in_ok-names.names.items c.in_ok-names.ensures k c.index.result.now c.index-in-loop-place.result.now l c.index.ensures c.index-in-loop-place.ensures in
    record {
      circular = (e, slice_get-get_or edges k (0, 0) l, same_circular c.args.nodes edges c.requires c.in_ok-table.table c.in_ok-table.ensures c.in_ok-names.names.items c.in_ok-names.ensures e there (sym read.0 ∙ c.if-index.true ∙ read.1));
      first = c.loop-place.invariant;
    }

pub loop-place-preserved : goal.loop-place-preserved
loop-place-preserved c =
    none_before_more c.args.nodes c.args.edges.now c.requires c.in_ok-table.table c.in_ok-table.ensures c.in_ok-names.names.items c.in_ok-names.ensures c.loop-place.place c.index.result.now c.index-in-loop-place.result.now c.loop-place-test.true c.index.ensures c.index-in-loop-place.ensures c.if-index.false c.loop-place.invariant

pub returns : goal.returns
returns c =
    let edges = c.args.edges.now in
    none_closed edges (λ k e at. let l = slice_get_within edges k e at in let over = c.loop-place-test.false in c.loop-place.invariant k e (omega (arith, l, over)) at)
