use Rattle.std.proofs.Common.{◌≡◌, ℕ, ◌<◌, Some}
use Rattle.std.specs.Prelude.{slice_get}
use Rattle.lt_place.proofs.Verdicts.{Silent}
use Rattle.lt_place.proofs.judge.judge.Given as goal

abbrev pub invariant-loop-var : goal.invariant-loop-var
invariant-loop-var l = (i m : ℕ) → i < l.var-index → slice_get l.var-items i ≡ Some m → Silent l.clocks.items l.direct.items l.slow.items m
