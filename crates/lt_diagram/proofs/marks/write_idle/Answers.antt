use Rattle.lt_diagram.specs.Marks.{drawn_idle}
use Rattle.lt_diagram.proofs.Pieces.{two_pieces}
use Rattle.lt_diagram.proofs.marks.write_idle.Goals as goal

pub returns : goal.returns
unfolding drawn_idle
returns c = two_pieces c.write_stroke.result c.args.out.now _ _ c.extend.new.self c.write_stroke.new.out c.in_ok-extend.ensures.ok c.write_stroke.ensures
