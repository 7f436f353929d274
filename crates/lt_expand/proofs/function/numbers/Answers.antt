use Rattle.std.proofs.Common.{[], ◌∷◌, ◌++◌, ap, ◌∙◌}
use Rattle.lt_expand.proofs.Loops.{numbers_more}
use Rattle.lt_expand.proofs.function.numbers.Goals as goal

pub loop-number-preserved : goal.loop-number-preserved
loop-number-preserved c =
    c.in_ok-push.ensures.items ∙ ap (λ l. l ++ c.loop-number.number ∷ []) c.loop-number.invariant ∙ numbers_more c.loop-number.number
