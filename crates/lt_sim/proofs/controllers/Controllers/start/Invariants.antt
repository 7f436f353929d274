use Rattle.std.proofs.Common.{◌≡◌, ◌<◌, ℕ, length, map}
use Rattle.lt_arch.specs.State.{first_phase}
use Rattle.lt_sim.specs.Controlled.{controller_of, IsControlled}
use Rattle.lt_sim.proofs.Controls.{controlled}
use Rattle.lt_sim.proofs.controllers.Controllers.start.Given as goal

abbrev pub invariant-loop-node : goal.invariant-loop-node
invariant-loop-node l = record {
  size : length l.items.items ≡ l.node;
  each : (n : ℕ) → n < l.node → IsControlled l.timing n (first_phase l.timing.protocol) (controller_of (map controlled l.items.items) n);
}
