use Rattle.std.proofs.Common.{◌≡◌, All, length}
use Rattle.lt_arch.specs.State.{Ready, Wait}
use Rattle.lt_bp.specs.declared.controller.BackPressure.{BackPressure}
use Rattle.lt_net_lossy.proofs.starting.controllers.Given as goal
use Rattle.std.specs.Prelude.{if◌then◌else◌}

abbrev pub invariant-loop-node : goal.invariant-loop-node
invariant-loop-node l = record {
  count : length l.controllers.items ≡ l._node;
  phases : All (λ (c : BackPressure). if◌then◌else◌ c.ready Ready Wait ≡ Wait) l.controllers.items;
}
