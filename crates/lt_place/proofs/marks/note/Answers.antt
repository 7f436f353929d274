use Rattle.std.proofs.Common.{◌++◌, ◌+◌, length, ap, sym, subst, ◌∙◌, take}
use Rattle.std.proofs.lemmas.List.{take_all}
use Rattle.lt_place.specs.Reports.{HasLeast, elsewhere}
use Rattle.lt_place.proofs.Marked.{note_same, note_other}
use Rattle.lt_place.proofs.marks.note.Goals as goal
use Rattle.lt_place.proofs.marks.note.Goals.{then-nodes-y, else-nodes-y}

pub loop-y-preserved : goal.loop-y-preserved
loop-y-preserved c = elim c.if-nodes-y.branch [
  | then-nodes-y w ↦ record {
    same = ap (λ v. length v.items) w.marks-is ∙ w.mark.ensures.same ∙ c.loop-y.invariant.same;
    least = λ rs h. subst (λ v. HasLeast v.items (rs ++ elsewhere c.args.nodes.now c.args.origin.now c.args.x (take (c.loop-y.y-index + 1) c.args.ys.now))) (sym w.marks-is)
        (note_other c.args.nodes.now c.args.origin.now c.args.x c.args.ys.now c.loop-y.y-index c.loop-y-test.true w.mark.new.marks.items rs w.if-nodes-y.true
        (w.mark.ensures.least (rs ++ elsewhere c.args.nodes.now c.args.origin.now c.args.x (take c.loop-y.y-index c.args.ys.now)) (c.loop-y.invariant.least rs h)));
  }
  | else-nodes-y w ↦ record {
    same = ap (λ v. length v.items) w.marks-is ∙ c.loop-y.invariant.same;
    least = λ rs h. subst (λ v. HasLeast v.items (rs ++ elsewhere c.args.nodes.now c.args.origin.now c.args.x (take (c.loop-y.y-index + 1) c.args.ys.now))) (sym w.marks-is)
        (note_same c.args.nodes.now c.args.origin.now c.args.x c.args.ys.now c.loop-y.y-index c.loop-y-test.true c.loop-y.marks.items rs w.if-nodes-y.false (c.loop-y.invariant.least rs h));
  }
]

pub returns-clause-least : goal.returns-clause-least
returns-clause-least c = λ rs h.
    subst (λ ys. HasLeast c.loop-y.marks.items (rs ++ elsewhere c.args.nodes.now c.args.origin.now c.args.x ys)) (take_all c.loop-y.y-index c.args.ys.now c.loop-y-test.false) (c.loop-y.invariant.least rs h)
