use Rattle.lt_draw.specs.Heading.{drawn_titles}
use Rattle.lt_diagram.proofs.Pieces.{three_pieces}
use Rattle.lt_draw.proofs.head.write_titles.Goals as goal

pub returns : goal.returns
unfolding drawn_titles
returns c = three_pieces c.enclosed-2.result c.args.out.now _ _ _ c.enclosed.new.out c.write_red.new.out c.enclosed-2.new.out c.in_ok-enclosed.ensures c.in_ok-write_red.ensures c.enclosed-2.ensures
