use Rattle.lt_draw.specs.Heading.{drawn_heading}
use Rattle.lt_diagram.proofs.Pieces.{three_pieces}
use Rattle.lt_draw.proofs.head.write_heading.Goals as goal

pub returns : goal.returns
unfolding drawn_heading
returns c = three_pieces c.write_red_lines.result c.args.out.now _ _ _ c.write_title_lines.new.out c.write_fact_lines.new.out c.write_red_lines.new.out c.in_ok-write_title_lines.ensures c.in_ok-write_fact_lines.ensures c.write_red_lines.ensures
