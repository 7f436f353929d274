use Rattle.std.proofs.Common.{◌≤◌, length}
use Rattle.lt_syntax.specs.Phases.{state_of}
use Rattle.lt_syntax.proofs.Reading.{SoFar}
use Rattle.lt_syntax.proofs.read.take_tokens.Given as goal

abbrev pub invariant-text : goal.invariant-text
invariant-text l = record {
  within : length l.rest ≤ length l.fn.bytes;
  so_far : SoFar 200 l.fn.bytes l.rest (state_of l.p);
}

abbrev pub decreases-text : goal.decreases-text
decreases-text l = length l.rest
