use Rattle.std.proofs.Common.{◌≡◌, ◌∷◌, [], ◌++◌, List, ℕ, take, get_or, set, sym, ap, ◌∙◌, subst, length, arith}
use Rattle.std.proofs.lemmas.List.{get_or_default, take_more}
use Rattle.lt_graph.specs.Edges.{HasEdges}
use Rattle.lt_graph.proofs.Edges.{one_more}
use Rattle.lt_graph.proofs.circular.add_edges.Goals as goal

pub loop-from-preserved : goal.loop-from-preserved
loop-from-preserved c =
    let edges = c.args.edges.now in
    let table = c.loop-from.rows.items in
    let i = c.loop-from.from-index in
    let e = get_or edges i (0, 0) in
    let inside = (c.requires.within i (0, 0) c.loop-from-test.true).0 in
    let size = c.loop-from.invariant.size in
    let row : c.index_mut.result.now ≡ get_or table e.0 [] = c.index_mut.ensures.value ∙ get_or_default table e.0 c.index_mut.result.now [] (omega (arith, inside, size)) in
    let pushed : get_or table e.0 [] ++ e.1 ∷ [] ≡ c.push.new.self = ap (λ r. r ++ e.1 ∷ []) (sym row) ∙ sym c.in_ok-push.ensures.ok in
    subst (λ es. HasEdges (length c.args.rows.now.items) es (set table e.0 c.push.new.self)) (sym (take_more edges i (0, 0) c.loop-from-test.true))
    (subst (λ (r : List ℕ). HasEdges (length c.args.rows.now.items) (take i edges ++ e ∷ []) (set table e.0 r)) pushed (one_more (length c.args.rows.now.items) (take i edges) table c.loop-from.invariant e inside))
