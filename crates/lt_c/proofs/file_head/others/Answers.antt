use Rattle.lt_c.specs.Tree.{h_mod, h_min, h_max, h_gcd}
use Rattle.lt_c.specs.HeadText.{helper_if}
use Rattle.lt_c.proofs.Chains.{four_after}
use Rattle.lt_c.proofs.file_head.others.Goals as goal

pub returns : goal.returns
returns c =
    let calls = c.args.c.now in
    four_after c.helper_if-4.result c.args.out.now c.helper_if.new.out c.helper_if-2.new.out c.helper_if-3.new.out c.helper_if-4.new.out
    (helper_if calls.rest h_mod) (helper_if calls.min h_min) (helper_if calls.max h_max) (helper_if calls.gcd h_gcd)
    c.in_ok-helper_if.ensures c.in_ok-helper_if-2.ensures c.in_ok-helper_if-3.ensures c.helper_if-4.ensures
