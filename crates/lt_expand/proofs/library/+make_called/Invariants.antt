use Rattle.lt_expand.proofs.Making.{Reached}
use Rattle.lt_expand.proofs.library.+make_called.Given as goal

abbrev pub decreases-make_called : goal.decreases-make_called
decreases-make_called l = l.left

abbrev pub invariant-loop-h : goal.invariant-loop-h
invariant-loop-h l = Reached l.p.funcs l.initial.versions.items l.h-items l.h-index l.versions.items
