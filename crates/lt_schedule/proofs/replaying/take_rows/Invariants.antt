use Rattle.std.proofs.Common.{◌≡◌, ◌≤◌, IsTrue}
use Rattle.lt_io.specs.FilesState.{KeepsFiles}
use Rattle.lt_rows.specs.Lines.{CanGoOn, rows_ahead, end_ahead}
use Rattle.lt_schedule.proofs.Rounds.{Went}
use Rattle.lt_schedule.proofs.replaying.take_rows.Given as goal

abbrev pub invariant-loop-number : goal.invariant-loop-number
invariant-loop-number g l =
    let before = g.F.Files.state l.initial.files in
    let now = g.F.Files.state l.files in
    record {
      counted : now.faults ≡ before.faults;
      link_counted : g.R.Replica.faults l.outside ≡ g.R.Replica.faults l.initial.outside;
      keeps_files : KeepsFiles before now;
      keeps : g.R.Replica.keeps l.initial.replica l.initial.outside l.replica l.outside;
      ready : CanGoOn l.lines now;
      few : l.number ≤ 5000001;
      end : IsTrue before.told → end_ahead l.lines now ≡ end_ahead l.initial.lines before;
      went : Went (g.R.Replica.rules l.initial.replica) (g.R.Replica.stands l.replica l.outside l.steps) l.number (end_ahead l.initial.lines before) before.told (rows_ahead l.initial.lines before) (rows_ahead l.lines now);
    }
