use Rattle.std.proofs.Common.{◌++◌, ◌∙◌, ap, get_or}
use Rattle.lt_diagram.specs.Tints.{tint_piece, drawn_tints}
use Rattle.lt_diagram.proofs.Pieces.{goes_on, ends}
use Rattle.lt_diagram.proofs.Going.{no_mark}
use Rattle.lt_diagram.proofs.tints.write_tints.Goals as goal

pub marks-preserved : goal.marks-preserved
marks-preserved c =
    let ms = c.args.marks.now in
    goes_on (tint_piece c.args.chart.now c.args.end) c.marks.out c.tint_after.new.out _ ms c.marks.k no_mark c.marks-test.true c.marks.invariant
    (c.in_ok-tint_after.ensures ∙ ap (λ z. c.marks.out ++ tint_piece c.args.chart.now c.args.end (get_or ms c.marks.k no_mark) z) c.marks_behind-later.ensures)

pub returns : goal.returns
unfolding drawn_tints
returns c = ends (tint_piece c.args.chart.now c.args.end) c.marks.out _ c.args.marks.now c.marks.k c.marks-test.false c.marks.invariant
