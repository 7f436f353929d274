use Rattle.std.proofs.Common.{length, ap, ◌∙◌}
use Rattle.std.proofs.lemmas.List.{with_items_is}
use Rattle.lt_tests_calls.proofs.observers.first_difference.Goals as goal

pub instants-preserved : goal.instants-preserved
instants-preserved c = record {
  sized = ap length (with_items_is c.instants.row c.fill.new.row (c.fill.auto.row ∙ c.deref_mut.ensures.len)) ∙ c.fill.auto.row ∙ ap length c.deref_mut.ensures.value ∙ c.instants.invariant.sized;
  width = c.step.ensures.width ∙ c.instants.invariant.width;
}
