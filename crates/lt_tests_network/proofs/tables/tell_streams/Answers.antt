use Rattle.lt_tests_network.proofs.Sizes.{kept_at, has_room}
use Rattle.lt_tests_network.proofs.tables.tell_streams.Goals as goal

pub streams-requires-clause-checked : goal.streams-requires-clause-checked
streams-requires-clause-checked c = (kept_at _ _ c.checked.view_is c.invariant_holds.ensures).examined.checked

pub streams-requires-clause-room : goal.streams-requires-clause-room
streams-requires-clause-room c = has_room _ ((kept_at _ _ c.checked.view_is c.invariant_holds.ensures).examined)
