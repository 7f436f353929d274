use Rattle.lt_front.proofs.Numbered.{few_variables}
use Rattle.lt_tests_network.proofs.Sizes.{kept_at, has_origins}
use Rattle.lt_tests_network.proofs.layouts.tell_placed.Goals as goal

pub place-requires-clause-typed : goal.place-requires-clause-typed
place-requires-clause-typed c = (kept_at _ _ c.checked.view_is c.invariant_holds.ensures).keeps.typed

pub place-requires-clause-clocked : goal.place-requires-clause-clocked
place-requires-clause-clocked c = (kept_at _ _ c.checked.view_is c.invariant_holds.ensures).keeps.clocked

pub place-requires-clause-causal : goal.place-requires-clause-causal
place-requires-clause-causal c = (kept_at _ _ c.checked.view_is c.invariant_holds.ensures).keeps.causal

pub place-requires-clause-origins : goal.place-requires-clause-origins
place-requires-clause-origins c = has_origins _ _ ((kept_at _ _ c.checked.view_is c.invariant_holds.ensures).keeps)

pub place-requires-clause-variables : goal.place-requires-clause-variables
place-requires-clause-variables c = few_variables _ _ ((kept_at _ _ c.checked.view_is c.invariant_holds.ensures).keeps)
