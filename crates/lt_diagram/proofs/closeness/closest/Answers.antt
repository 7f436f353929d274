use Rattle.std.proofs.Common.{ℕ, ◌+◌, ◌∙◌, min, sym, ap, drop, get_or}
use Rattle.lt_diagram.specs.Marks.{gap_after, closest_from}
use Rattle.lt_diagram.proofs.Going.{no_mark, closest_on, closest_ends}
use Rattle.lt_diagram.proofs.closeness.closest.Goals as goal

pub marks-preserved : goal.marks-preserved
marks-preserved c =
    let chart = c.args.chart.now in
    let ms = c.args.marks.now in
    let k = c.marks.k in
    c.marks.invariant ∙ closest_on chart c.marks.best ms k no_mark c.marks-test.true
    ∙ ap (λ z. closest_from chart (min c.marks.best (gap_after chart (get_or ms k no_mark) z)) (drop (k + 1) ms)) (sym c.marks_behind-later.ensures)
    ∙ ap (λ (z : ℕ). closest_from chart z (drop (k + 1) ms)) (sym c.nearer-best.ensures)

pub returns : goal.returns
returns c = sym (c.marks.invariant ∙ closest_ends c.args.chart.now c.marks.best c.args.marks.now c.marks.k c.marks-test.false)
