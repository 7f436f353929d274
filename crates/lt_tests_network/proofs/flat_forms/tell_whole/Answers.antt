use Rattle.lt_tests_network.proofs.Sizes.{kept_at}
use Rattle.lt_tests_network.proofs.flat_forms.tell_whole.Goals as goal

pub expand-requires : goal.expand-requires
expand-requires c = (kept_at _ _ c.checked.view_is c.invariant_holds.ensures).examined.checked
