use Rattle.std.proofs.Common.{◌+◌, ◌++◌, ◌∙◌, ap, drop}
use Rattle.lt_diagram.specs.Template.{each_text}
use Rattle.lt_diagram.specs.Arrows.{arrow_piece, drawn_arrows}
use Rattle.lt_diagram.proofs.Pieces.{goes_on, ends}
use Rattle.lt_diagram.proofs.arrows.write_arrows.Goals as goal

pub arrows-preserved : goal.arrows-preserved
arrows-preserved c =
    let xs = c.args.arrows.now in
    goes_on (arrow_piece c.args.chart.now c.args.names.now c.args.head c.args.ink c.is_crowded-is_thin.result) c.arrows.out c.write_drawn.new.out _ xs c.arrows.k _ c.arrows-test.true c.arrows.invariant (c.in_ok-write_drawn.ensures (drop (c.arrows.k + 1) xs))

pub returns : goal.returns
unfolding drawn_arrows
returns c =
    ends (arrow_piece c.args.chart.now c.args.names.now c.args.head c.args.ink c.is_crowded-is_thin.result) c.arrows.out _ c.args.arrows.now c.arrows.k c.arrows-test.false c.arrows.invariant
    ∙ ap (λ z. c.args.out.now ++ each_text (arrow_piece c.args.chart.now c.args.names.now c.args.head c.args.ink z) c.args.arrows.now) c.is_crowded-is_thin.ensures
