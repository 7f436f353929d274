use Rattle.std.proofs.Common.{codes}
use Rattle.lt_c.specs.Text.{helper_text}
use Rattle.lt_c.specs.Views.{helper_of}
use Rattle.lt_c.proofs.Chains.{third_after}
use Rattle.lt_c.proofs.file_head.helper_name.Goals as goal

pub returns : goal.returns
returns c =
    third_after c.extend.result c.args.out.now c.two.new.out c.extend.new.self
    (codes "\nstatic inline int64_t ") (helper_text (helper_of c.args.h)) c.function_text.result.now (codes "int64_t a, int64_t b")
    c.function_text.ensures c.in_ok-two.ensures c.extend.ensures.ok
