use Rattle.std.proofs.Common.{◌∙◌}
use Rattle.lt_check.specs.Shares.{IsShare}
use Rattle.lt_check.proofs.Shares.{one_more, all_more}
use Rattle.lt_check.proofs.sizing.shares.Goals as goal

pub functions-preserved : goal.functions-preserved
functions-preserved c =
    let old = c.functions.shares.items in
    let new = c.push.new.self.items in
    let share = c.in_ok-share_of.field-0 in
    record {
      done = one_more (λ s. s.function.now) c.args.functions.now c.functions.function-index c.function-item.result old new share c.functions-test.true c.in_ok-push.ensures.items (c.in_ok-share_of.ensures.function ∙ c.function-item.is) c.functions.invariant.done;
      all = all_more IsShare old new share c.in_ok-push.ensures.items c.functions.invariant.all c.in_ok-share_of.ensures.share;
    }
