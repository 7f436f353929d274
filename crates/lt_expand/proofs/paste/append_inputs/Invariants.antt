use Rattle.std.proofs.Common.{◌≡◌, ◌+◌, ◌++◌, map, length}
use Rattle.lt_base.specs.Expression.{shape, arguments_of}
use Rattle.lt_expand.specs.Copies.{input_equations}
use Rattle.lt_expand.proofs.paste.append_inputs.Given as goal

abbrev pub invariant-loop-input : goal.invariant-loop-input
invariant-loop-input l = record {
  number : l.number ≡ l.first + length l.yielded;
  eqs : l.eqs.items ≡ l.initial.eqs.items ++ input_equations l.first (arguments_of (map shape l.yielded));
}
