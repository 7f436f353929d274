use Rattle.lt_front.proofs.Numbered.{few_variables, few_equations}
use Rattle.lt_tests_network.proofs.Sizes.{kept_at}
use Rattle.lt_tests_network.proofs.machines.tell_table.Goals as goal

pub start-requires-clause-causal : goal.start-requires-clause-causal
start-requires-clause-causal c = (kept_at _ _ c.checked.view_is c.invariant_holds.ensures).keeps.causal

pub start-requires-clause-variables : goal.start-requires-clause-variables
start-requires-clause-variables c = few_variables _ _ ((kept_at _ _ c.checked.view_is c.invariant_holds.ensures).keeps)

pub start-requires-clause-equations : goal.start-requires-clause-equations
start-requires-clause-equations c = few_equations _ _ ((kept_at _ _ c.checked.view_is c.invariant_holds.ensures).keeps)
