use Rattle.std.proofs.Common.{◌∙◌}
use Rattle.lt_base.specs.Expression.{shape}
use Rattle.lt_place_reads.proofs.Looked.{looked_clocks, looked_direct, looked_slow}
use Rattle.lt_place_reads.proofs.reads.looked_at.Goals as goal
use Rattle.lt_place_reads.proofs.reads.looked_at.Goals.{in-Clocks+in_ok-push_clock-in-Clocks, in-Direct+in_ok-push_direct-in-Direct, in-Slow+in_ok-push_slow-in-Slow}

pub returns : goal.returns
returns c = elim c.match-look.branch [
  | in-Clocks+in_ok-push_clock-in-Clocks w ↦ looked_clocks c.args.f.now c.args.equation.now.0 c.args.equation.now.1 c.decls.result.now c.index-decls-left.result c.left.result c.decls.ensures c.left.ensures c.requires c.args.look c.new-ys.result c.match-look.ys c.new-ys.ensures w.in-Clocks.is (w.ys-is ∙ w.in_ok-push_clock-in-Clocks.ensures)
  | in-Direct+in_ok-push_direct-in-Direct w ↦ looked_direct c.args.f.now c.args.equation.now.0 c.args.equation.now.1 c.decls.result.now c.index-decls-left.result c.left.result c.decls.ensures c.left.ensures c.requires c.args.look c.new-ys.result c.match-look.ys c.new-ys.ensures (shape w.right.result.now) w.right.ensures w.in-Direct.is (w.ys-is ∙ w.in_ok-push_direct-in-Direct.ensures)
  | in-Slow+in_ok-push_slow-in-Slow w ↦ looked_slow c.args.f.now c.args.equation.now.0 c.args.equation.now.1 c.decls.result.now c.index-decls-left.result c.left.result c.decls.ensures c.left.ensures c.requires c.args.look c.new-ys.result c.match-look.ys c.new-ys.ensures (shape w.right-in-Slow.result.now) w.right-in-Slow.ensures w.in-Slow.is (w.ys-is ∙ w.in_ok-push_slow-in-Slow.ensures)
]
