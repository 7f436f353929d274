use Rattle.std.proofs.Common.{◌+◌, ◌++◌, ◌∷◌, [], ap, sym, ◌∙◌, add-one}
use Rattle.lt_resolve.specs.Named.{numbers_from}
use Rattle.lt_resolve.proofs.Pairs.{numbers_more}
use Rattle.lt_resolve.proofs.function.count.Goals as goal

pub numbers-preserved : goal.numbers-preserved
numbers-preserved c =
    c.in_ok-push.ensures.items
    ∙ ap (λ l. l ++ (c.args.first + c.numbers.i) ∷ []) c.numbers.invariant
    ∙ sym (numbers_more c.args.first c.numbers.i)
    ∙ ap (numbers_from c.args.first) (sym (add-one c.numbers.i))
