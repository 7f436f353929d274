use Rattle.lt_draw.specs.PictureText.{charted_text}
use Rattle.lt_diagram.proofs.Pieces.{four_pieces}
use Rattle.lt_draw.proofs.writer.write_charted.Goals as goal

pub returns : goal.returns
unfolding charted_text
returns c = four_pieces c.extend.result c.args.out.now _ _ _ _ c.write_above.new.out c.write_styled.new.out c.write_legend.new.out c.extend.new.self c.in_ok-write_above.ensures c.in_ok-write_styled.ensures c.in_ok-write_legend.ensures c.extend.ensures.ok
