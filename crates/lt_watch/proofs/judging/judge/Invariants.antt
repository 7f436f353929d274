use Rattle.std.proofs.Common.{◌≡◌, ℕ, ◌<◌, length}
use Rattle.lt_past.specs.Satisfaction.{Sat}
use Rattle.lt_past.specs.Monitoring.{MonitorStands}
use Rattle.lt_watch.specs.Judged.{signals_at}
use Rattle.lt_watch.proofs.Cells.{rows_below}
use Rattle.lt_watch.proofs.judging.judge.Given as goal

abbrev pub invariant-instants : goal.invariant-instants
invariant-instants l = record {
  sized : length l.row.items ≡ length l.fn.observer.outs;
  width : l.monitor.width ≡ length l.fn.observer.outs;
  stands : MonitorStands l.monitor l.fn.observer.formula (rows_below l.fn.observer.outs l.cells l.instant);
  holds : (j : ℕ) → j < l.instant → Sat (signals_at l.fn.observer.outs l.cells) l.fn.observer.formula j;
}
