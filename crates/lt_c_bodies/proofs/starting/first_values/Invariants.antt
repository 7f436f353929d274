use Rattle.std.proofs.Common.{◌≡◌, take}
use Rattle.lt_c_bodies.specs.Starts.{first_values}
use Rattle.lt_c_bodies.proofs.starting.first_values.Given as goal

abbrev pub invariant-values : goal.invariant-values
invariant-values l = l.all ≡ first_values (take l.value-index l.values)
