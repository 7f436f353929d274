use Rattle.std.proofs.Common.{◌≡◌, length}
use Rattle.lt_past.specs.Machine as machine
use Rattle.lt_past.specs.Parsed.{observer_operand_of, observer_stack_of}
use Rattle.lt_past.proofs.parser.close.Given as goal

abbrev pub invariant-forms : goal.invariant-forms
invariant-forms l = record {
  room : machine.ObserverHasRoom 200 (observer_stack_of l.frames.items) (observer_operand_of l.b);
  closed : machine.observer_close l.l (observer_stack_of l.initial.frames.items) (observer_operand_of l.initial.b) ≡ machine.observer_close l.l (observer_stack_of l.frames.items) (observer_operand_of l.b);
}

abbrev pub decreases-forms : goal.decreases-forms
decreases-forms l = length l.frames.items
