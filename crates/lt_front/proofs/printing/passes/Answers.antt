use Rattle.lt_front.proofs.Printed.{all_pass, not_right}
use Rattle.lt_front.proofs.printing.passes.Goals as goal

pub returns-then-not-branch : goal.returns-then-not-branch
returns-then-not-branch c =
    let test = c.if-not-branch.true in
    not_right c.args.p.now (λ right. let yes = c.in_ok-types_and_clocks.ensures.1 right in cc)

pub returns : goal.returns
returns c =
    let test = c.if-not-branch.false in
    all_pass c.args.p.now (c.in_ok-types_and_clocks.ensures.0 (cc)) c.order_passes.result c.order_passes.ensures
