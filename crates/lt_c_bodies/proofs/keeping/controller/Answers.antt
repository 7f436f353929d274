use Rattle.std.proofs.Common.{◌++◌, ap, ◌∙◌}
use Rattle.lt_c_heads.proofs.Growing.{three_pieces}
use Rattle.lt_c_bodies.proofs.keeping.controller.Goals as goal

pub returns : goal.returns
returns c =
    three_pieces c.pointers.result c.args.out.now _ _ _ c.extend.new.self c.extend-2.new.self c.pointers.new.out
    c.in_ok-extend.ensures.ok (c.in_ok-extend-2.ensures.ok ∙ ap (λ z. c.extend.new.self ++ z) c.control.ensures) c.pointers.ensures
