use Rattle.std.proofs.Common.{◌∙◌}
use Rattle.lt_resolve.proofs.Lefts.{left_more}
use Rattle.lt_resolve.proofs.scope.table_of_lefts.Goals as goal

pub eqs-preserved : goal.eqs-preserved
eqs-preserved c =
    left_more c.deref-eq-items.result.now c.eqs.eq-index c.eq-item.result c.eqs.names c.insert.new.self c.as_str.result.now c.eqs-test.true c.eq-item.is (c.as_str.ensures ∙ c.left.ensures) c.in_ok-insert.ensures.names c.eqs.invariant
