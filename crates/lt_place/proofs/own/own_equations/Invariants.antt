use Rattle.std.proofs.Common.{◌≡◌, map, take}
use Rattle.std.specs.List.{filter}
use Rattle.lt_place.specs.Spread.{own_equation, stays}
use Rattle.lt_place.proofs.own.own_equations.Given as goal

abbrev pub invariant-loop-equation : goal.invariant-loop-equation
invariant-loop-equation l = l.new.items ≡ map (own_equation l.own) (filter (stays l.nodes l.fed l.n) (take l.equation-index l.equations))
