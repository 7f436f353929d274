use Rattle.std.proofs.Common.{◌≡◌, drop}
use Rattle.lt_diagram.specs.Chart.{fitting_step}
use Rattle.lt_diagram.proofs.scale.fitting_step.Given as goal

abbrev pub invariant-steps : goal.invariant-steps
invariant-steps l = fitting_step l.room l.breadth l.units l.steps ≡ fitting_step l.room l.breadth l.units (drop l.step-index l.steps)
