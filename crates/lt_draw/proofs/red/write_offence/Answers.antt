use Rattle.lt_draw.specs.Red.{drawn_offence}
use Rattle.lt_diagram.proofs.Pieces.{three_pieces}
use Rattle.lt_draw.proofs.red.write_offence.Goals as goal

pub returns : goal.returns
unfolding drawn_offence
returns c = three_pieces c.extend.result c.args.out.now _ _ _ c.write_title.new.out c.write_refusal.new.out c.extend.new.self c.in_ok-write_title.ensures c.in_ok-write_refusal.ensures c.extend.ensures.ok
