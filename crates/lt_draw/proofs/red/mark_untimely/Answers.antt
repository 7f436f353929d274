use Rattle.lt_draw.specs.Red.{untimely_mark}
use Rattle.lt_diagram.proofs.Pieces.{two_pieces}
use Rattle.lt_draw.proofs.red.mark_untimely.Goals as goal

pub returns : goal.returns
unfolding untimely_mark
returns c = two_pieces c.extend.result c.args.out.now _ _ c.write_course.new.out c.extend.new.self c.in_ok-write_course.ensures c.extend.ensures.ok
