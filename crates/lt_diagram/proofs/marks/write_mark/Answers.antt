use Rattle.lt_diagram.specs.Marks.{drawn_mark}
use Rattle.lt_diagram.proofs.Pieces.{four_pieces}
use Rattle.lt_diagram.proofs.marks.write_mark.Goals as goal

pub returns : goal.returns
unfolding drawn_mark
returns c = four_pieces c.extend.result c.args.out.now _ _ _ _ c.open_mark.new.out c.write_name.new.out c.sign_shape.new.out c.extend.new.self c.in_ok-open_mark.ensures c.in_ok-write_name.ensures c.in_ok-sign_shape.ensures c.extend.ensures.ok
