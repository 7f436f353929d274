use Rattle.std.proofs.Common.{◌≡◌, drop}
use Rattle.lt_scale.specs.Room.{first_fitting}
use Rattle.lt_scale.proofs.room.first_fit.Given as goal

-- none of those before fits
abbrev pub invariant-steps : goal.invariant-steps
invariant-steps l = first_fitting l.chart l.room (drop l.step-index l.steps) ≡ first_fitting l.chart l.room l.steps
