use Rattle.std.proofs.Common.{◌≡◌, ◌+◌, ◌<◌, ℕ, ◌∙◌, ◌∷◌, [], List, ap, sym, subst, arith, length, map}
use Rattle.std.proofs.lemmas.List.{length-map, length-append}
use Rattle.lt_arch.specs.State.{first_phase}
use Rattle.lt_lead.specs.declared.controller.NodeController.{NodeController}
use Rattle.lt_sim.specs.Controlled.{controller_of, IsControlled}
use Rattle.lt_sim.proofs.Controls.{controlled, started, one_more}
use Rattle.lt_sim.proofs.controllers.Controllers.start.Goals as goal

pub loop-node-preserved : goal.loop-node-preserved
loop-node-preserved c =
    let before = c.loop-node.invariant in
    let t = c.args.timing.now in
    let here = started t c.loop-node.node c.of_node.result c.of_node.ensures.phase c.of_node.ensures.send c.of_node.ensures.execute in
    record {
      size = let size = before.size in let grown = ap length c.in_ok-push.ensures.items ∙ length-append c.loop-node.items.items (c.of_node.result ∷ []) in omega (arith, size, grown);
      each = subst (λ (items : List NodeController). (k : ℕ) → k < c.loop-node.node + 1 → IsControlled t k (first_phase t.protocol) (controller_of (map controlled items) k)) (sym c.in_ok-push.ensures.items)
          (one_more t (first_phase t.protocol) c.loop-node.items.items c.of_node.result c.loop-node.node before.size before.each here);
    }

pub returns : goal.returns
returns c =
    let at_end = c.loop-node.invariant in
    let size = at_end.size in
    let count = c.node_count-node-end.ensures in
    let low = c.loop-node-test.false in
    let high = c.loop-node.auto.node-end in
    let same : c.loop-node.node ≡ length c.args.timing.now.nodes = omega (arith, count, low, high) in
    record {
      size = length-map c.loop-node.items.items controlled ∙ (size ∙ same);
      each = λ n lt. at_end.each n (omega (arith, lt, same));
    }
