use Rattle.std.proofs.Common.{◌≡◌, ◌+◌, ap, sym, ◌∙◌, map, arith}
use Rattle.std.specs.List.{sum_by}
use Rattle.std.proofs.lemmas.List.{take_all}
use Rattle.lt_base.specs.Expression.{shape, arguments_of}
use Rattle.lt_base.specs.Sizes.{cost, arguments_cost, cut}
use Rattle.lt_base.proofs.Shape.{shape-Call}
use Rattle.lt_check.specs.Shares.{nothing}
use Rattle.lt_check.proofs.Shares.{arguments_cost-map}
use Rattle.lt_check.proofs.sizing.+delays.Goals as goal

pub all_delays-returns : goal.all_delays-returns
all_delays-returns t c =
    c.arguments.invariant
    ∙ ap (λ l. cut (sum_by (λ e. cost 1 nothing (shape e)) l)) (take_all c.arguments.a-index c.args.args.now (omega arith))
    ∙ ap cut (sym (arguments_cost-map c.args.args.now))

pub delays-returns-in-Call : goal.delays-returns-in-Call
delays-returns-in-Call t c =
    let es = c.in-Call.args.items in
    let alone : 0 + arguments_cost 1 nothing (arguments_of (map shape es)) ≡ arguments_cost 1 nothing (arguments_of (map shape es)) = omega arith in
    let e = ap (λ x. cost 1 nothing (shape x)) c.in-Call.is ∙ ap (cost 1 nothing) (shape-Call c.in-Call.field-0 c.in-Call.args) ∙ alone in
    c.all_delays.ensures ∙ ap (λ l. cut (arguments_cost 1 nothing (arguments_of (map shape l)))) c.deref-in-Call.ensures.value ∙ ap cut (sym e)
