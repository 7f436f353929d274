-- A machine that makes a step.
use Rattle.std.specs.Prelude.{◌≡◌, ◌+◌, List, [], ◌∷◌, ◌++◌}
use Rattle.lt_base.specs.declared.value.Value.{Value}
use Rattle.lt_base.specs.declared.value.Cell.{Cell}
use Rattle.lt_base.specs.Program.{Function}
use Rattle.lt_machine.specs.declared.machine.Machine.{Ghosts as Machines}
use Rattle.lt_machine.specs.Follows.{Follows}

-- a machine made a step on these inputs, and answered these cells
pub record MachineSteps {M : Type 0} (K : Machines M) (before after : M) (ins : List Value) (outs : List Cell) : Type 0 where
  pub stands_more : (f : Function) (rows : List (List Value)) → K.stands before f rows → K.stands after f (rows ++ ins ∷ [])
  pub follows : (f : Function) (rows : List (List Value)) → K.stands before f rows → Follows f rows ins outs
  pub made_more : K.made after ≡ K.made before + 1
  pub left_less : K.left before ≡ K.left after + 1
