use Rattle.std.proofs.Common.{◌≡◌, ℕ, length, Some}
use Rattle.std.specs.Prelude.{slice_get}
use Rattle.lt_lead.specs.declared.controller.NodeController.{NodeController}
use Rattle.lt_lead.specs.Controllers.{IsControllerOf}
use Rattle.lt_lead.specs.contracts.controller.NodeControllerController.TheImpl.{ghosts}
use Rattle.lt_lead.proofs.controllers.controllers_of.Given as goal

abbrev pub invariant-loop-node : goal.invariant-loop-node
invariant-loop-node l = record {
  count : length l.controllers.items ≡ l.node;
  each : (n : ℕ) (c : NodeController) → slice_get l.controllers.items n ≡ Some c → IsControllerOf ghosts l.timing n c;
}
