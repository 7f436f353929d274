use Rattle.std.proofs.Common.{◌≡◌, ◌+◌, ap, sym, ◌∙◌, map, arith}
use Rattle.std.specs.List.{sum_by}
use Rattle.std.proofs.lemmas.List.{take_all}
use Rattle.lt_base.specs.Expression.{shape, arguments_of}
use Rattle.lt_base.specs.Sizes.{cost, arguments_cost, cut, in_table}
use Rattle.lt_base.proofs.Shape.{shape-Call}
use Rattle.lt_base.proofs.Cuts.{arguments_cost-map}
use Rattle.lt_base.proofs.weights.+cost.Goals as goal

pub returns-after-loop-a : goal.returns-after-loop-a
returns-after-loop-a t c =
    let w = in_table c.args.table.now in
    let d = c.args.delay in
    let all = take_all c.loop-a.a-index c.deref-a-items.result.now (omega arith) in
    let s : c.loop-a.sum ≡ cut (arguments_cost d w (arguments_of (map shape c.in-Call.args.items))) =
    c.loop-a.invariant
    ∙ ap (λ l. cut (sum_by (λ e. cost d w (shape e)) l)) (all ∙ c.deref-a-items.ensures.value)
    ∙ ap cut (sym (arguments_cost-map d w c.in-Call.args.items)) in
    let e : cost d w (shape c.args.e.now) ≡ w c.in-Call.g + arguments_cost d w (arguments_of (map shape c.in-Call.args.items)) =
    ap (λ x. cost d w (shape x)) c.in-Call.is ∙ ap (cost d w) (shape-Call c.in-Call.g c.in-Call.args) in
    let n = c.entry_of.ensures in
    let r = c.saturating_add-in-Call.ensures in
    rw e (omega (arith, s, n, r))
