use Rattle.lt_draw.specs.Red.{drawn_refusal}
use Rattle.lt_diagram.proofs.Pieces.{three_pieces}
use Rattle.lt_draw.proofs.red.write_refusal.Goals as goal

pub returns : goal.returns
unfolding drawn_refusal
returns c = three_pieces c.write_spot.result c.args.out.now _ _ _ c.write_band.new.out c.write_row.new.out c.write_spot.new.out c.in_ok-write_band.ensures c.in_ok-write_row.ensures c.write_spot.ensures
