use Rattle.lt_draw.specs.PictureText.{drawn_rows}
use Rattle.lt_diagram.proofs.Pieces.{four_pieces}
use Rattle.lt_draw.proofs.writer.write_rows.Goals as goal

pub returns : goal.returns
unfolding drawn_rows
returns c = four_pieces c.write_red.result c.args.out.now _ _ _ _ c.write_ground.new.out c.write_messages.new.out c.write_deeds.new.out c.write_red.new.out c.in_ok-write_ground.ensures c.in_ok-write_messages.ensures c.in_ok-write_deeds.ensures c.write_red.ensures
