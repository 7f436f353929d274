use Rattle.std.proofs.Common.{◌<◌, ◌^◌, List, length, sym, subst}
use Rattle.lt_place_reads.specs.declared.crossing.Crossing.{Crossing}
use Rattle.lt_net_node.specs.Layout.{joins}
use Rattle.lt_c_node.specs.NodeOf.{carried}
use Rattle.lt_c_heads.proofs.Growing.{few_picked}
use Rattle.lt_c_node.proofs.linking.peer.Goals as goal

pub invariant_of-result : goal.invariant_of-result
invariant_of-result c =
    let few = subst (λ (xs : List Crossing). length xs < 2 ^ 32) (sym c.deref.ensures) c.requires.few in
    record { few = few_picked (carried c.args.layout.now) (joins c.args.i c.args.j) c.deref.result.now c.in_ok-values.values c.in_ok-values.ensures few }
