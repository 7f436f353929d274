use Rattle.std.proofs.Common.{◌≡◌, [], Some, take}
use Rattle.lt_base.specs.Expression.{shape}
use Rattle.lt_base.specs.Meaning.{latest, value_of}
use Rattle.lt_base.specs.Behaviour.{calls_of}
use Rattle.lt_machine.specs.Values.{instants_of}
use Rattle.lt_machine.proofs.tables.delay_value.Given as goal

abbrev pub invariant-loop-values : goal.invariant-loop-values
invariant-loop-values l = l.kept ≡ latest l.clock (Some l.fn.first) (value_of (calls_of []) (shape l.operand) l.clock) (instants_of (take l.values-index l.past))
