use Rattle.std.proofs.Common.{◌≡◌}
use Rattle.lt_course.specs.Strokes.{arrows_below}
use Rattle.lt_course.proofs.drawn.pending_of.Given as goal

abbrev pub invariant-channels : goal.invariant-channels
invariant-channels g l = l.arrows ≡ arrows_below (g.D.Drawable.transit l.drawn) l.channel
