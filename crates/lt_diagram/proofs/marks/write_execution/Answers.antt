use Rattle.lt_diagram.specs.Marks.{drawn_execution}
use Rattle.lt_diagram.proofs.Pieces.{two_pieces}
use Rattle.lt_diagram.proofs.marks.write_execution.Goals as goal

pub returns : goal.returns
unfolding drawn_execution
returns c = two_pieces c.instant_shape.result c.args.out.now _ _ c.say_execution.new.out c.instant_shape.new.out c.in_ok-say_execution.ensures c.instant_shape.ensures
