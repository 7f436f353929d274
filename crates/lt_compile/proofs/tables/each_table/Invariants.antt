use Rattle.std.proofs.Common.{◌≡◌, length}
use Rattle.lt_machine.specs.contracts.table_machine.TableMachineMachine.TheImpl.{stands-value, made-value, left-value, ghosts}
use Rattle.lt_compile.specs.Ready.{AreReadySoFar}
use Rattle.lt_compile.proofs.tables.each_table.Given as goal

abbrev pub invariant-loop-node : goal.invariant-loop-node
invariant-loop-node l = record {
  count : length l.machines.items ≡ l._node;
  ready : AreReadySoFar ghosts l.layout l.rows l.machines.items;
}
