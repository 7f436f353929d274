use Rattle.lt_diagram.specs.Axis.{node_track}
use Rattle.lt_diagram.proofs.Pieces.{three_pieces}
use Rattle.lt_diagram.proofs.axis.write_track.Goals as goal

pub returns : goal.returns
unfolding node_track
returns c = three_pieces c.extend.result c.args.out.now _ _ _ c.write_rail.new.out c.escape.new.out c.extend.new.self c.in_ok-write_rail.ensures c.in_ok-escape.ensures c.extend.ensures.ok
