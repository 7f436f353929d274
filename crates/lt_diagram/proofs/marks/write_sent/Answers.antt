use Rattle.lt_diagram.specs.Marks.{drawn_sent}
use Rattle.lt_diagram.proofs.Pieces.{two_pieces}
use Rattle.lt_diagram.proofs.marks.write_sent.Goals as goal

pub returns : goal.returns
unfolding drawn_sent
returns c = two_pieces c.write_triangle.result c.args.out.now _ _ c.say_sending.new.out c.write_triangle.new.out c.in_ok-say_sending.ensures c.write_triangle.ensures
