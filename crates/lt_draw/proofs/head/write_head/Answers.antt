use Rattle.lt_draw.specs.Heading.{drawn_head}
use Rattle.lt_diagram.proofs.Pieces.{three_pieces}
use Rattle.lt_draw.proofs.head.write_head.Goals as goal

pub returns : goal.returns
unfolding drawn_head
returns c = three_pieces c.write_paper.result c.args.out.now _ _ _ c.write_opening.new.out c.write_style.new.out c.write_paper.new.out c.in_ok-write_opening.ensures c.in_ok-write_style.ensures c.write_paper.ensures
