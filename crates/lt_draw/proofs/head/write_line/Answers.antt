use Rattle.lt_draw.specs.Heading.{drawn_line}
use Rattle.lt_diagram.proofs.Pieces.{two_pieces}
use Rattle.lt_draw.proofs.head.write_line.Goals as goal

pub returns : goal.returns
unfolding drawn_line
returns c = two_pieces c.enclosed.result c.args.out.now _ _ c.fill.new.out c.enclosed.new.out c.in_ok-fill.ensures c.enclosed.ensures
