use Rattle.std.proofs.Common.{◌+◌, drop}
use Rattle.lt_diagram.specs.Marks.{mark_piece, drawn_marks}
use Rattle.lt_diagram.proofs.Pieces.{goes_on, ends}
use Rattle.lt_diagram.proofs.marks.write_marks.Goals as goal

pub marks-preserved : goal.marks-preserved
marks-preserved c =
    let ms = c.args.marks.now in
    goes_on (mark_piece c.args.chart.now c.args.style c.args.names.now) c.marks.out c.write_within.new.out _ ms c.marks.k _ c.marks-test.true c.marks.invariant (c.in_ok-write_within.ensures (drop (c.marks.k + 1) ms))

pub returns : goal.returns
unfolding drawn_marks
returns c = ends (mark_piece c.args.chart.now c.args.style c.args.names.now) c.marks.out _ c.args.marks.now c.marks.k c.marks-test.false c.marks.invariant
