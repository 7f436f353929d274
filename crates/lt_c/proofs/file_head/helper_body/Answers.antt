use Rattle.std.proofs.Common.{◌≡◌, ◌++◌, OnOk, subst}
use Rattle.lt_c.specs.Head.{Body}
use Rattle.lt_c.specs.HeadText.{head_body_text}
use Rattle.lt_c.proofs.file_head.helper_body.Goals as goal

pub returns : goal.returns
returns c =
    subst (λ (b : Body). OnOk c.body.result (c.body.new.out ≡ c.args.out.now ++ head_body_text b))
    (λ i. record { does = c.in_ok-does.ensures i; gives = c.in_ok-gives.ensures i }) c.body.ensures
