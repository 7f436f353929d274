use Rattle.std.proofs.Common.{◌+◌, ◌-◌, ◌^◌, min, ap, sym, ◌∙◌, arith}
use Rattle.std.specs.List.{sum_by}
use Rattle.std.proofs.lemmas.List.{take_all}
use Rattle.lt_base.specs.Expression.{shape, parts}
use Rattle.lt_base.proofs.Shape.{shape-Call, arguments_parts-map}
use Rattle.lt_base.proofs.expression.Expr.+parts.Goals as goal

pub returns-after-loop-a : goal.returns-after-loop-a
returns-after-loop-a t c =
    let all = take_all c.loop-a.a-index c.deref-a-items.result.now (omega arith) in
    c.loop-a.invariant
    ∙ ap (λ l. min (1 + sum_by (λ e. parts (shape e)) l) (2 ^ 64 - 1)) (all ∙ c.deref-a-items.ensures.value)
    ∙ ap (λ n. min (1 + n) (2 ^ 64 - 1)) (sym (arguments_parts-map c.in-Call.args.items))
    ∙ ap (λ e. min (parts e) (2 ^ 64 - 1)) (sym (shape-Call c.in-Call.field-0 c.in-Call.args))
    ∙ ap (λ e. min (parts (shape e)) (2 ^ 64 - 1)) (sym c.in-Call.is)
