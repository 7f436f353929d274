use Rattle.lt_course.proofs.Transit.{one_more}
use Rattle.lt_course.proofs.drawn.add_pending.Goals as goal

pub places-preserved : goal.places-preserved
places-preserved g c =
    one_more (g.D.Drawable.transit c.args.drawn.now c.args.channel) c.places.place c.arrow_at.result c.places.arrows c.push.new.self c.args.arrows.now c.arrow_at.ensures c.places.invariant c.in_ok-push.ensures.ok
