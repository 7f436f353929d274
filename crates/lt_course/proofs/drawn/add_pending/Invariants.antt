use Rattle.std.proofs.Common.{◌≡◌, ◌++◌, take}
use Rattle.lt_course.proofs.drawn.add_pending.Given as goal

abbrev pub invariant-places : goal.invariant-places
invariant-places g l = l.arrows ≡ l.initial.arrows ++ take l.place (g.D.Drawable.transit l.drawn l.channel)
