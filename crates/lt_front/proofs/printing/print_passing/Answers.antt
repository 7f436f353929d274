use Rattle.lt_front.proofs.Lengths.{spelled_few}
use Rattle.lt_front.proofs.Rooms.{room_of}
use Rattle.lt_front.proofs.Printed.{text_settles}
use Rattle.lt_front.proofs.printing.print_passing.Goals as goal

pub passing_tree-requires : goal.passing_tree-requires
passing_tree-requires c = room_of _ _ c.requires (spelled_few 200 c.args.bytes.now c.in-Ok.tree c.in-Ok.ensures.exact)

pub returns-in-Ok : goal.returns-in-Ok
returns-in-Ok c = text_settles c.args.bytes.now c.in-Ok.tree c.in-Ok.ensures.exact c.passing_tree.result c.passing_tree.ensures
