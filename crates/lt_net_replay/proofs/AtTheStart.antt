-- The controllers of the nodes, before the first event.
use Rattle.std.proofs.Common.{List, ◌∙◌}
use Rattle.lt_arch.specs.declared.timing.Timing.{Timing}
use Rattle.lt_arch.specs.declared.shape.Shape.{Shape}
use Rattle.lt_arch.specs.Shapes.{HaveSameNodes}
use Rattle.lt_net_bench.specs.Starts.{ControllersAreAtStart}
use Rattle.lt_net_node.specs.Wakes.{AreConfigured}
use Rattle.lt_lead.specs.Controllers.{AreControllers}
use Rattle.lt_arch.specs.declared.controller.Controller.{Ghosts as Controls}

module _ {C : Type 0} (ctl : Controls C) (t : Timing) where
  pub at_start : (s : Shape) (cs : List C) → HaveSameNodes s t → AreControllers ctl t cs → ControllersAreAtStart ctl s t cs
  at_start s cs same are = record {
    count = are.count ∙ same;
    phases = λ n c is. (are.each n c is).phase_is;
  }

  pub configured : (cs : List C) → AreControllers ctl t cs → AreConfigured ctl t cs
  configured cs are = record {
    same_protocol = λ n c is. (are.each n c is).protocol_is;
    sends = λ by_time n c is. (are.each n c is).send_is by_time;
    executes = λ by_time n c is. (are.each n c is).execute_is by_time;
  }
