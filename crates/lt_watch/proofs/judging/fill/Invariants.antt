use Rattle.std.proofs.Common.{◌≡◌, ◌<◌, ℕ, false, get_or}
use Rattle.lt_watch.specs.Judged.{values_at}
use Rattle.lt_watch.proofs.judging.fill.Given as goal

abbrev pub invariant-outs : goal.invariant-outs
invariant-outs l = (j : ℕ) → j < l.k → get_or l.row j false ≡ get_or (values_at l.outs l.cells l.instant) j false
