use Rattle.std.proofs.Common.{◌≡◌, ◌∙◌, ◌<◌, ◌≤◌, ◌+◌, ℕ, true, false, [], ◌∷◌, ◌++◌, length, refl, sym, ap, subst, arith, ltb-true, ltb-false}
use Rattle.std.specs.Prelude.{nat_lt}
use Rattle.std.proofs.lemmas.List.{with_items_is}
use Rattle.lt_past.specs.Formula.{SignalsBelow}
use Rattle.lt_past.specs.Satisfaction.{Sat}
use Rattle.lt_past.specs.Observer.{Observing}
use Rattle.lt_past.specs.Monitoring.{MonitorStands}
use Rattle.lt_watch.specs.Judged.{IsShortest, counted_columns, signals_at, values_at}
use Rattle.lt_watch.proofs.Cells.{rows_below, rows_more, over_next}
use Rattle.lt_watch.proofs.judging.judge.Goals as goal

pub returns-then-not-step : goal.returns-then-not-step
returns-then-not-step c =
    let o = c.args.observer.now in
    let cells = c.args.cells.now in
    let i = c.instants.instant in
    let same : c.deref-outs.result.now ≡ o.outs = c.deref-outs.ensures ∙ ap (λ (o : Observing). o.outs) c.observer.view_is in
    let low : SignalsBelow (length o.outs) o.formula = subst (λ (o : Observing). SignalsBelow (length o.outs) o.formula) c.observer.view_is c.observer.invariant.placed in
    let filled = with_items_is c.instants.row c.fill.new.row (c.fill.auto.row ∙ c.deref_mut.ensures.len) in
    let now : c.deref.result.now ≡ values_at o.outs cells i = c.deref.ensures.value ∙ filled ∙ c.fill.ensures ∙ ap (λ z. values_at z cells i) same in
    let rows = rows_below o.outs cells i in
    let right = c.step.ensures.value o.formula rows c.instants.invariant.stands in
    let next = over_next o.outs cells o.formula low i c.deref.result.now now in
    let least : IsShortest (counted_columns o.outs cells) c.count_instants-count.result = subst (λ z. IsShortest (counted_columns z cells) c.count_instants-count.result) same c.count_instants-count.ensures in
    (c.count_instants-count.result, least, c.instants-test.true, (λ x. let y = right.1 (next.1 x) in let n = c.if-not-step.true in cc), c.instants.invariant.holds)

pub instants-preserved : goal.instants-preserved
instants-preserved c =
    let o = c.args.observer.now in
    let cells = c.args.cells.now in
    let i = c.instants.instant in
    let same : c.deref-outs.result.now ≡ o.outs = c.deref-outs.ensures ∙ ap (λ (o : Observing). o.outs) c.observer.view_is in
    let low : SignalsBelow (length o.outs) o.formula = subst (λ (o : Observing). SignalsBelow (length o.outs) o.formula) c.observer.view_is c.observer.invariant.placed in
    let filled = with_items_is c.instants.row c.fill.new.row (c.fill.auto.row ∙ c.deref_mut.ensures.len) in
    let now : c.deref.result.now ≡ values_at o.outs cells i = c.deref.ensures.value ∙ filled ∙ c.fill.ensures ∙ ap (λ z. values_at z cells i) same in
    let rows = rows_below o.outs cells i in
    let right = c.step.ensures.value o.formula rows c.instants.invariant.stands in
    let next = over_next o.outs cells o.formula low i c.deref.result.now now in
    let more : rows ++ c.deref.result.now ∷ [] ≡ rows_below o.outs cells (i + 1) = ap (λ z. rows ++ z ∷ []) now ∙ rows_more o.outs cells i in
    let here : Sat (signals_at o.outs cells) o.formula i = next.0 (right.0 c.if-not-step.false) in
    record {
      sized = ap length filled ∙ c.fill.auto.row ∙ ap length c.deref_mut.ensures.value ∙ c.instants.invariant.sized;
      width = c.step.ensures.width ∙ c.instants.invariant.width;
      stands = subst (MonitorStands c.step.new.self o.formula) more (c.step.ensures.stands o.formula rows c.instants.invariant.stands);
      holds = λ j h.
          elim (nat_lt j i) as (λ t. nat_lt j i ≡ t → Sat (signals_at o.outs cells) o.formula j) [
            | true ↦ λ is. c.instants.invariant.holds j (ltb-true j i is)
            | false ↦ λ is. let ge : i ≤ j = ltb-false j i is in let e : i ≡ j = omega (arith, h, ge) in subst (Sat (signals_at o.outs cells) o.formula) e here
          ] refl;
    }
