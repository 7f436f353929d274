use Rattle.std.proofs.Common.{◌∷◌, ◌++◌, [], sym, ◌∙◌, arith}
use Rattle.std.proofs.lemmas.List.{map_more}
use Rattle.lt_net_bench.specs.Starts.{exit_for}
use Rattle.lt_net_bench.proofs.tables.exits.Goals as goal

pub loop-variable-preserved : goal.loop-variable-preserved
loop-variable-preserved c =
    c.in_ok-push.ensures.items ∙ (λ i. c.loop-variable.invariant i ++ c.exit_for.ensures i ∷ [])
    ∙ sym (map_more (exit_for c.deref-nodes.result.now) c.deref-outs.result.now c.loop-variable.variable-index 0 (omega (arith, c.loop-variable-test.true)))
