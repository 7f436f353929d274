use Rattle.std.proofs.Common.{◌≡◌, length, map, sym, ap, ◌∙◌, arith, add-one}
use Rattle.lt_base.specs.Sizes.{cut, in_table, nested}
use Rattle.lt_base.specs.Measured.{measured}
use Rattle.lt_base.proofs.Cuts.{same_tables, one_round, settled_rounds}
use Rattle.lt_base.proofs.weights.totals.Goals as goal

pub returns-then-eq : goal.returns-then-eq
returns-then-eq c =
    let fs = c.args.functions.now in
    let table = c.loop-round.table.items in
    let again : c.in_ok-next.next.items ≡ table =
    sym c.as_slice-in-loop-round.ensures.value
    ∙ same_tables _ _ (sym c.eq.ensures ∙ c.if-eq.true)
    ∙ c.as_slice-in-loop-round-2.ensures.value in
    let next : table ≡ map (λ f. cut (measured c.args.measure (in_table table) f)) fs =
    sym again ∙ c.in_ok-next.ensures ∙ ap (λ l. map (λ f. cut (measured c.args.measure (in_table l) f)) fs) c.as_slice.ensures.value in
    settled_rounds c.args.measure fs c.loop-round._round table c.loop-round.invariant next (length fs) (omega arith)

pub loop-round-preserved : goal.loop-round-preserved
loop-round-preserved c =
    let fs = c.args.functions.now in
    let table = c.loop-round.table.items in
    let next : c.in_ok-next.next.items ≡ map (λ f. cut (measured c.args.measure (in_table table) f)) fs =
    c.in_ok-next.ensures ∙ ap (λ l. map (λ f. cut (measured c.args.measure (in_table l) f)) fs) c.as_slice.ensures.value in
    λ g.
    one_round c.args.measure fs c.loop-round._round table c.in_ok-next.next.items c.loop-round.invariant next g
    ∙ ap (λ k. cut (nested (measured c.args.measure) fs k g)) (sym (add-one c.loop-round._round))
