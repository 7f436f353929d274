use Rattle.lt_front.proofs.Numbered.{few_variables, few_equations, few_slots}
use Rattle.lt_tests_network.proofs.Sizes.{kept_at, small_step}
use Rattle.lt_tests_network.proofs.machines.tell_way.Goals as goal

pub code_of-requires-clause-typed : goal.code_of-requires-clause-typed
code_of-requires-clause-typed c = (kept_at _ _ c.checked.view_is c.invariant_holds.ensures).keeps.typed

pub code_of-requires-clause-clocked : goal.code_of-requires-clause-clocked
code_of-requires-clause-clocked c = (kept_at _ _ c.checked.view_is c.invariant_holds.ensures).keeps.clocked

pub code_of-requires-clause-causal : goal.code_of-requires-clause-causal
code_of-requires-clause-causal c = (kept_at _ _ c.checked.view_is c.invariant_holds.ensures).keeps.causal

pub code_of-requires-clause-variables : goal.code_of-requires-clause-variables
code_of-requires-clause-variables c = few_variables _ _ ((kept_at _ _ c.checked.view_is c.invariant_holds.ensures).keeps)

pub code_of-requires-clause-equations : goal.code_of-requires-clause-equations
code_of-requires-clause-equations c = few_equations _ _ ((kept_at _ _ c.checked.view_is c.invariant_holds.ensures).keeps)

pub code_of-requires-clause-slots : goal.code_of-requires-clause-slots
code_of-requires-clause-slots c = few_slots _ _ ((kept_at _ _ c.checked.view_is c.invariant_holds.ensures).keeps)

pub code_of-requires-clause-size : goal.code_of-requires-clause-size
code_of-requires-clause-size c = small_step _ _ ((kept_at _ _ c.checked.view_is c.invariant_holds.ensures).keeps)
