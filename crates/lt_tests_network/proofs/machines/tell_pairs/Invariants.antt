use Rattle.std.proofs.Common.{◌≡◌, ◌≤◌, ◌+◌, length}
use Rattle.lt_tests_network.proofs.machines.tell_pairs.Given as goal

abbrev pub invariant-loop-x : goal.invariant-loop-x
invariant-loop-x g l = record {
  left : length l.rows ≤ g.M.Machine.left l.machine + l.x-index;
  inputs : g.M.Machine.inputs l.machine ≡ 2;
  outputs : g.M.Machine.outputs l.machine ≡ 2;
}
