use Rattle.std.proofs.Common.{◌≡◌, replicate, None}
use Rattle.lt_expand.proofs.library.none_made.Given as goal

abbrev pub invariant-loop-function : goal.invariant-loop-function
invariant-loop-function l = l.versions.items ≡ replicate l._function None
