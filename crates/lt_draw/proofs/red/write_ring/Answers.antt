use Rattle.lt_draw.specs.Red.{drawn_ring}
use Rattle.lt_diagram.proofs.Pieces.{two_pieces}
use Rattle.lt_draw.proofs.red.write_ring.Goals as goal

pub returns : goal.returns
unfolding drawn_ring
returns c = two_pieces c.mark_ring.result c.args.out.now _ _ c.write_title.new.out c.mark_ring.new.out c.in_ok-write_title.ensures c.mark_ring.ensures
