use Rattle.lt_front.proofs.Printed.{tree_passes}
use Rattle.lt_front.proofs.printing.passing_tree.Goals as goal

pub passing_program-requires : goal.passing_program-requires
passing_program-requires c = record { tree = c.args.tree; room = c.requires; resolved = c.in-Ok.ensures }

pub returns-in-Ok : goal.returns-in-Ok
returns-in-Ok c = tree_passes c.args.tree c.in-Ok.program c.in-Ok.ensures c.in_ok-text.text c.in_ok-text.ensures.text c.passing_program.result c.passing_program.ensures
