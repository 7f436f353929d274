use Rattle.std.proofs.Common.{◌≡◌, drop}
use Rattle.lt_tape.specs.Kept.{early_from}
use Rattle.lt_tape.proofs.keeping.note_all_early.Given as goal

abbrev pub invariant-strokes : goal.invariant-strokes
invariant-strokes l = early_from l.from l.marks (drop l.stroke-index l.strokes) ≡ early_from l.from l.initial.marks l.strokes
