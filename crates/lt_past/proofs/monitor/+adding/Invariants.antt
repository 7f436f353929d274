use Rattle.std.proofs.Common.{◌+◌, ◌*◌, max}
use Rattle.lt_past.proofs.formula.Obs.TheLaws.{the_size}
use Rattle.lt_past.proofs.monitor.+adding.Given as goal

abbrev pub decreases-add_parts : goal.decreases-add_parts
decreases-add_parts l = 2 * the_size l.formula.now

abbrev pub decreases-add_before : goal.decreases-add_before
decreases-add_before l = 2 * the_size l.a.now + 1

abbrev pub decreases-add_between : goal.decreases-add_between
decreases-add_between l = 2 * max (the_size l.a.now) (the_size l.b.now) + 1
