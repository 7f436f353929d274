use Rattle.std.proofs.Common.{◌≡◌, take, reverse}
use Rattle.lt_c.specs.Views.{tree_of}
use Rattle.lt_c_step.specs.Part.{clock_tree}
use Rattle.lt_c_step.proofs.clock_trees.joined.Given as goal

abbrev pub invariant-steps : goal.invariant-steps
invariant-steps l = tree_of l.all ≡ clock_tree (reverse (take l.i l.steps))
