-- What a controller of either protocol has.
use Rattle.lt_bp.specs.declared.controller.BackPressure.{BackPressure}
use Rattle.lt_tb.specs.declared.controller.TimeBased.{TimeBased}
use Rattle.lt_lead.specs.declared.controller.NodeController.{NodeController}
use Rattle.lt_lead.specs.declared.controller.NodeController.TheVariants.{Pressure, Counting}

-- it is that of the controller that was chosen
abbrev pub of_either : {A : Type 0} → (BackPressure → A) → (TimeBased → A) → NodeController → A
of_either by_pressure by_time (Pressure controller) = by_pressure controller
of_either by_pressure by_time (Counting controller) = by_time controller
