use Rattle.std.proofs.Common.{◌++◌, ◌||◌, ap, ◌∙◌}
use Rattle.lt_c.specs.Head.{aid_signed, aid_neg, aid_size}
use Rattle.lt_c.specs.HeadText.{aid_if, needs_signed}
use Rattle.lt_c.proofs.Chains.{three_after}
use Rattle.lt_c.proofs.file_head.aids.Goals as goal

pub returns : goal.returns
returns c =
    let calls = c.args.c.now in
    three_after c.aid_if-3.result c.args.out.now c.aid_if.new.out c.aid_if-2.new.out c.aid_if-3.new.out
    (aid_if (needs_signed calls) aid_signed) (aid_if (calls.negate || calls.div) aid_neg) (aid_if calls.gcd aid_size)
    (c.in_ok-aid_if.ensures ∙ ap (λ b. c.args.out.now ++ aid_if b aid_signed) c.needs_signed-signed.ensures)
    (c.in_ok-aid_if-2.ensures ∙ ap (λ b. c.aid_if.new.out ++ aid_if b aid_neg) c.needs_negative-negative.ensures)
    c.aid_if-3.ensures
