use Rattle.std.proofs.Common.{◌∙◌}
use Rattle.lt_place.proofs.Marked.{marked, lower_some, lower_none}
use Rattle.lt_place.proofs.marks.mark.Goals as goal
use Rattle.lt_place.proofs.marks.mark.Goals.{in-Some, in-None}

pub returns-clause-least : goal.returns-clause-least
returns-clause-least c = λ rs h.
    marked rs c.args.at c.args.number c.args.marks.now.items c.match-index.least c.requires
    (elim c.match-index.branch [
      | in-Some w ↦ lower_some c.args.marks.now.items c.args.at c.args.number w.in-Some.other c.match-index.least c.index.result.now c.requires c.index.ensures w.in-Some.is (w.least-is ∙ w.min-least.ensures)
      | in-None w ↦ lower_none c.args.marks.now.items c.args.at c.args.number c.match-index.least c.index.result.now c.requires c.index.ensures w.in-None.is w.least-is
    ])
    h
