use Rattle.std.proofs.Common.{◌≡◌, ◌++◌, ℕ, List, OnOk, subst}
use Rattle.lt_c_heads.proofs.Growing.{two_pieces}
use Rattle.lt_c_heads.proofs.heads.acknowledge_head.Goals as goal

pub returns : goal.returns
returns c =
    two_pieces c.two.result c.args.out.now _ _ c.three.new.out c.two.new.out c.in_ok-three.ensures
    (subst (λ (z : List ℕ). OnOk c.two.result (c.two.new.out ≡ c.three.new.out ++ z)) (λ i. c.node_name.ensures i ++ c.answer_parameter.ensures i) c.two.ensures)
