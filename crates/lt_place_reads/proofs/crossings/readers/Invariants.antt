use Rattle.std.proofs.Common.{take}
use Rattle.lt_place_reads.specs.Crossings.{ReadsSoFar}
use Rattle.lt_place_reads.proofs.crossings.readers.Given as goal

abbrev pub invariant-loop-equation : goal.invariant-loop-equation
invariant-loop-equation l = ReadsSoFar l.f l.nodes (take l.equation-index l.equation-items) l.readers.items
