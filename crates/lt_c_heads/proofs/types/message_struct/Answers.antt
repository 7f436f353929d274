use Rattle.std.proofs.Common.{codes, ◌++◌, ap, ◌∙◌}
use Rattle.lt_c_heads.specs.Words.{texts_from}
use Rattle.lt_c_heads.specs.Types.{mark_text, carried_text}
use Rattle.lt_c_heads.proofs.Growing.{three_pieces}
use Rattle.lt_c_heads.proofs.types.message_struct.Goals as goal

pub returns : goal.returns
returns c =
    three_pieces c.extend.result c.args.out.now
    (codes "typedef struct {\n" ++ mark_text c.args.regime) (texts_from carried_text 0 c.args.values.now) (codes "} ")
    c.two.new.out c.carried_all.new.out c.extend.new.self
    (c.in_ok-two.ensures ∙ ap (λ z. c.args.out.now ++ (codes "typedef struct {\n" ++ z)) c.mark.ensures) c.in_ok-carried_all.ensures c.extend.ensures.ok
