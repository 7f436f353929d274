use Rattle.lt_draw.specs.Red.{gone_mark}
use Rattle.lt_diagram.proofs.Pieces.{two_pieces}
use Rattle.lt_draw.proofs.red.mark_gone.Goals as goal

pub returns : goal.returns
unfolding gone_mark
returns c = two_pieces c.cross_out.result c.args.out.now _ _ c.write_course.new.out c.cross_out.new.out c.in_ok-write_course.ensures c.cross_out.ensures
