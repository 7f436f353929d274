use Rattle.std.proofs.Common.{◌≤◌, length}
use Rattle.lt_past.specs.Naming.{output_number}
use Rattle.lt_past.specs.Parsed.{observer_state_of}
use Rattle.lt_past.proofs.Loop.{SoFar}
use Rattle.lt_past.proofs.reading.read_formula.Given as goal

abbrev pub invariant-text : goal.invariant-text
invariant-text l = record {
  within : length l.rest ≤ length l.fn.bytes;
  so_far : SoFar 200 (output_number l.fn.main l.fn.outs) l.fn.bytes l.rest (observer_state_of l.parser);
}

abbrev pub decreases-text : goal.decreases-text
decreases-text l = length l.rest
