use Rattle.std.proofs.Common.{◌≡◌, ◌++◌, sym, subst}
use Rattle.std.specs.Prelude.{OnOk}
use Rattle.lt_base.specs.Expression.{shape}
use Rattle.lt_place_reads.specs.Reads.{delayed_reads}
use Rattle.lt_place_reads.proofs.Looked.{unless_at}
use Rattle.lt_place_reads.proofs.reads.push_slow.Goals as goal

pub returns : goal.returns
returns c =
    subst (λ ys. OnOk c.push_delayed.result (c.push_delayed.new.to ≡ c.args.to.now ++ ys)) (sym (unless_at c.args.clock.now c.clock.inside.steps c.is_empty.result c.is_empty.ensures c.if-is_empty.false c.clock.view_is (delayed_reads (shape c.args.right.now)))) c.push_delayed.ensures
