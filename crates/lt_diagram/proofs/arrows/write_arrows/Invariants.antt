use Rattle.std.proofs.Common.{◌≡◌, ◌++◌, drop}
use Rattle.lt_diagram.specs.Template.{each_text}
use Rattle.lt_diagram.specs.Arrows.{arrow_piece, is_crowded}
use Rattle.lt_diagram.proofs.arrows.write_arrows.Given as goal

abbrev pub invariant-arrows : goal.invariant-arrows
invariant-arrows l = l.out ++ each_text (arrow_piece l.chart l.names l.head l.ink l.is_thin) (drop l.k l.arrows) ≡ l.initial.out ++ each_text (arrow_piece l.chart l.names l.head l.ink l.is_thin) l.arrows
