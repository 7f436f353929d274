use Rattle.std.proofs.Common.{◌≡◌, length}
use Rattle.lt_machine.specs.contracts.step_machine.StepMachineMachine.TheImpl.{ghosts}
use Rattle.lt_compile.specs.Ready.{AreReadySoFar}
use Rattle.lt_compile.proofs.machines.each_machine.Given as goal

abbrev pub invariant-loop-node : goal.invariant-loop-node
invariant-loop-node g l = record {
  count : length l.machines.items ≡ l._node;
  ready : AreReadySoFar (ghosts g.row.G g.G.Operators g.G.Operators-dict g.G.Operators-dict) l.layout l.rows l.machines.items;
}
