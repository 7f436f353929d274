use Rattle.std.proofs.Common.{arith}
use Rattle.lt_graph.specs.Search.{mark}
use Rattle.lt_graph.proofs.Standing.{idle_stack, closed_or, if_ok, components_named}
use Rattle.lt_graph.proofs.strong.components.Goals as goal

pub names-requires : goal.names-requires
names-requires c = λ x l.
    let s = c.loop-root.search in
    let i = c.loop-root.invariant in
    let over = c.loop-root-test.false in
    let end' = c.len-root-end.ensures in
    let sized = i.stands.marks_size in
    let empty = idle_stack c.args.table.now s.marks.items s.rest.items s.stack.items s.starts.items s.path.items i.stands i.idle in
    closed_or (mark s.marks.items x) (i.met x (omega (arith, l, over, end', sized))) (λ k e. let p = (i.stands.searching.placed x k e).0 in omega (arith, p, empty))

pub returns : goal.returns
returns c =
    let s = c.loop-root.search in
    if_ok _ _ c.names.result c.names.ensures (λ r n. components_named c.args.table.now s.marks.items s.rest.items s.stack.items s.starts.items s.path.items r.items c.loop-root.invariant.stands n)
