use Rattle.std.proofs.Common.{◌≡◌, ◌++◌, ap, ◌∙◌, arith, take_all}
use Rattle.std.specs.List.{flat_map}
use Rattle.lt_svg.specs.Pieces.{safe_byte, escaped}
use Rattle.lt_svg.proofs.template.escape.Goals as goal

pub returns : goal.returns
unfolding escaped
returns c = c.bytes.invariant ∙ ap (λ text. c.args.out.now ++ flat_map safe_byte text) (take_all c.bytes.byte-index c.args.text.now (omega arith))
