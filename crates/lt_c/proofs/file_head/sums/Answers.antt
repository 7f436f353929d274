use Rattle.lt_c.specs.Tree.{h_add, h_sub, h_mul, h_div}
use Rattle.lt_c.specs.HeadText.{helper_if}
use Rattle.lt_c.proofs.Chains.{four_after}
use Rattle.lt_c.proofs.file_head.sums.Goals as goal

pub returns : goal.returns
returns c =
    let calls = c.args.c.now in
    four_after c.helper_if-4.result c.args.out.now c.helper_if.new.out c.helper_if-2.new.out c.helper_if-3.new.out c.helper_if-4.new.out
    (helper_if calls.add h_add) (helper_if calls.sub h_sub) (helper_if calls.mul h_mul) (helper_if calls.div h_div)
    c.in_ok-helper_if.ensures c.in_ok-helper_if-2.ensures c.in_ok-helper_if-3.ensures c.helper_if-4.ensures
