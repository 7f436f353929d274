use Rattle.lt_tests_network.proofs.Sizes.{kept_at, has_room}
use Rattle.lt_tests_network.proofs.tables.tell_outputs.Goals as goal

pub output_streams-requires-clause-checked : goal.output_streams-requires-clause-checked
output_streams-requires-clause-checked c = (kept_at _ _ c.checked.view_is c.invariant_holds.ensures).examined.checked

pub output_streams-requires-clause-room : goal.output_streams-requires-clause-room
output_streams-requires-clause-room c = has_room _ ((kept_at _ _ c.checked.view_is c.invariant_holds.ensures).examined)
