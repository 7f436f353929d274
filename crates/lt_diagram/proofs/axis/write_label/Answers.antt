use Rattle.lt_diagram.specs.Axis.{node_label}
use Rattle.lt_diagram.proofs.Pieces.{three_pieces}
use Rattle.lt_diagram.proofs.axis.write_label.Goals as goal

pub returns : goal.returns
unfolding node_label
returns c = three_pieces c.extend.result c.args.out.now _ _ _ c.open_label.new.out c.write_short.new.out c.extend.new.self c.in_ok-open_label.ensures c.in_ok-write_short.ensures c.extend.ensures.ok
