use Rattle.std.proofs.Common.{subst, ◌∙◌}
use Rattle.std.proofs.lemmas.List.{take_all}
use Rattle.lt_place_reads.specs.Reads.{looked}
use Rattle.lt_place_reads.proofs.Lefts.{left_inside}
use Rattle.lt_place.specs.Reports.{HasLeast, reports}
use Rattle.lt_place.proofs.Inside.{looked_inside, note_variable, note_reads, note_marks, marks_more}
use Rattle.lt_place.proofs.marks.marks.Goals as goal

pub looked_at-requires : goal.looked_at-requires
looked_at-requires c = left_inside c.args.f.now c.invariant_holds.ensures.good c.equation-item.result c.equations-equation-items.result.now c.loop-equation.equation-index c.equations-equation-items.ensures c.loop-equation-test.true c.equation-item.is

pub note-requires-clause-variable : goal.note-requires-clause-variable
note-requires-clause-variable c = note_variable c.args.f.now c.requires.origins c.origins-origin.result.now c.origins-origin.ensures c.left.result c.equation-item.result.0 c.left.ensures (left_inside c.args.f.now c.invariant_holds.ensures.good c.equation-item.result c.equations-equation-items.result.now c.loop-equation.equation-index c.equations-equation-items.ensures c.loop-equation-test.true c.equation-item.is)

pub note-requires-clause-reads : goal.note-requires-clause-reads
note-requires-clause-reads c = note_reads c.args.f.now c.requires.origins c.origins-origin.result.now c.origins-origin.ensures c.deref.result.now _ (c.deref.ensures ∙ c.in_ok-ys.ensures) (looked_inside c.args.f.now c.invariant_holds.ensures.good c.args.look c.equation-item.result c.equations-equation-items.result.now c.loop-equation.equation-index c.equations-equation-items.ensures c.loop-equation-test.true c.equation-item.is)

pub note-requires-clause-marks : goal.note-requires-clause-marks
note-requires-clause-marks c = note_marks c.args.f.now c.requires.origins c.origins-origin.result.now c.origins-origin.ensures c.left.result c.equation-item.result.0 _ c.left.ensures (left_inside c.args.f.now c.invariant_holds.ensures.good c.equation-item.result c.equations-equation-items.result.now c.loop-equation.equation-index c.equations-equation-items.ensures c.loop-equation-test.true c.equation-item.is) c.loop-equation.invariant.size

pub loop-equation-preserved : goal.loop-equation-preserved
loop-equation-preserved c = record {
  size = c.note.ensures.same ∙ c.loop-equation.invariant.size;
  least = marks_more (looked c.args.look c.args.f.now) c.args.nodes.now c.origins-origin.result.now c.equations-equation-items.result.now c.loop-equation.equation-index c.equation-item.result c.loop-equation-test.true c.equation-item.is c.left.result c.deref.result.now c.left.ensures (c.deref.ensures ∙ c.in_ok-ys.ensures) c.loop-equation.marks.items c.note.new.marks.items c.note.ensures.least c.loop-equation.invariant.least;
}

pub returns-clause-least : goal.returns-clause-least
returns-clause-least c =
    subst (HasLeast c.loop-equation.marks.items)
    (λ j. reports (looked c.args.look c.args.f.now) c.args.nodes.now (c.origins-origin.ensures j) ((take_all c.loop-equation.equation-index c.equations-equation-items.result.now c.loop-equation-test.false ∙ c.equations-equation-items.ensures) j))
    c.loop-equation.invariant.least
