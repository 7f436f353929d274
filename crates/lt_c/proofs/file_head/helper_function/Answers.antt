use Rattle.std.proofs.Common.{codes}
use Rattle.lt_c.specs.Text.{helper_text}
use Rattle.lt_c.specs.Head.{helper_body}
use Rattle.lt_c.specs.HeadText.{head_body_text}
use Rattle.lt_c.specs.Views.{helper_of}
use Rattle.lt_c.proofs.Chains.{fourth_after}
use Rattle.lt_c.proofs.file_head.helper_function.Goals as goal

pub returns : goal.returns
returns c =
    fourth_after c.helper_body.result c.args.out.now c.helper_name.new.out c.helper_body.new.out
    (codes "\nstatic inline int64_t ") (helper_text (helper_of c.args.h)) (codes "int64_t a, int64_t b") (head_body_text (helper_body (helper_of c.args.h)))
    c.in_ok-helper_name.ensures c.helper_body.ensures
