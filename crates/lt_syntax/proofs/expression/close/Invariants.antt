use Rattle.std.proofs.Common.{◌≡◌, List, vec_len}
use Rattle.lt_syntax.specs.Machine as machine
use Rattle.lt_syntax.specs.Views.{operand_of, stack_of}
use Rattle.lt_syntax.proofs.expression.close.Given as goal

abbrev pub invariant-forms : goal.invariant-forms
invariant-forms l = record {
  room : machine.HasRoom 200 (stack_of l.frames.items) (operand_of l.b);
  closed : (k : List machine.Frame → machine.Operand → machine.Next) → machine.close l.l (stack_of l.initial.frames.items) (operand_of l.initial.b) k ≡ machine.close l.l (stack_of l.frames.items) (operand_of l.b) k;
}

abbrev pub decreases-forms : goal.decreases-forms
decreases-forms l = vec_len l.frames
