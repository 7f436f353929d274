use Rattle.std.proofs.Common.{◌≡◌, ◌≤◌, ℕ, Bool, true, false, subst, ◌∙◌, refl, arith}
use Rattle.lt_io.proofs.Keeps.{files_trans}
use Rattle.lt_rows.specs.Lines.{rows_ahead, end_ahead}
use Rattle.lt_schedule.specs.Halted.{finished}
use Rattle.lt_schedule.specs.Replayed.{ScheduleGoesOn, TakesRow, IsOver}
use Rattle.lt_schedule.proofs.Steps.{err_is}
use Rattle.lt_schedule.proofs.Rounds.{went_none, went_on, went_refused, went_finished}
use Rattle.lt_schedule.proofs.replaying.take_rows.Goals as goal

pub take_row-requires-clause-stands : goal.take_row-requires-clause-stands
take_row-requires-clause-stands g c = (c.loop-number.invariant.went.events, c.loop-number.invariant.went.stands_for)

pub returns-in_err-take_row-clause-judged : goal.returns-in_err-take_row-clause-judged
returns-in_err-take_row-clause-judged g c =
    let same = g.met.R.Replica.keeps_rules _ _ _ _ c.loop-number.invariant.keeps in
    rw (err_is _ _ c.from_residual.ensures.1)
    (went_refused _ _ _ c.loop-number.number _ _ _ _ _ _ _ _ c.loop-number.auto.number same c.loop-number.invariant.end c.loop-number.invariant.keeps_files.told c.loop-number.invariant.went
    (c.in_err-take_row.ensures.goes c.loop-number.invariant.went.events c.loop-number.invariant.went.stands_for))

pub returns-then-not-branch-clause-judged : goal.returns-then-not-branch-clause-judged
returns-then-not-branch-clause-judged g c =
    let same = g.met.R.Replica.keeps_rules _ _ _ _ c.loop-number.invariant.keeps in
    let went = c.loop-number.invariant.went in
    let over : IsOver (g.R.Replica.stands c.take_row.new.replica c.take_row.new.outside c.take_row.new.steps) went.events (end_ahead c.loop-number.lines (g.F.Files.state c.loop-number.files)) (g.F.Files.state c.loop-number.files).told (rows_ahead c.loop-number.lines (g.F.Files.state c.loop-number.files)) =
    subst (λ (b : Bool). ScheduleGoesOn (g.R.Replica.rules c.loop-number.replica) (g.R.Replica.stands c.take_row.new.replica c.take_row.new.outside c.take_row.new.steps) went.events c.loop-number.number (end_ahead c.loop-number.lines (g.F.Files.state c.loop-number.files)) (g.F.Files.state c.loop-number.files).told
    (rows_ahead c.loop-number.lines (g.F.Files.state c.loop-number.files)) (rows_ahead c.take_row.new.lines (g.F.Files.state c.take_row.new.files)) b) c.if-not-branch.true (c.in_ok-take_row.ensures.goes went.events went.stands_for) in
    let later = g.met.R.Replica.keeps_rules _ _ _ _ (g.met.R.Replica.keeps_on _ _ _ _ _ _ c.loop-number.invariant.keeps c.take_row.ensures.keeps) in
    went_finished _ _ _ c.loop-number.number _ _ _ _ _ _ _ c.loop-number.auto.number c.loop-number.invariant.end c.loop-number.invariant.keeps_files.told went over c.finish.result
    (subst (λ (rules : _). c.finish.result ≡ finished c.loop-number.number (rules.missing went.events)) later (c.finish.ensures _ _ went.events over.stands_still))

pub loop-number-init : goal.loop-number-init
loop-number-init g c = record {
  counted = refl;
  link_counted = refl;
  keeps_files = record { sound = refl; told = refl; named = refl; visits = refl };
  keeps = g.met.R.Replica.keeps_same _ _;
  ready = c.requires.ready;
  few = Rattle.std.proofs.Common.lit≤ tt;
  end = λ _. refl;
  went = went_none _ _ _ _ _ c.requires.stands;
}

pub loop-number-preserved : goal.loop-number-preserved
loop-number-preserved g c =
    let few = c.in_ok-take_row.ensures.few c.if-not-branch.false in
    let same = g.met.R.Replica.keeps_rules _ _ _ _ c.loop-number.invariant.keeps in
    let went = c.loop-number.invariant.went in
    let row : TakesRow (g.R.Replica.rules c.loop-number.replica) (g.R.Replica.stands c.take_row.new.replica c.take_row.new.outside c.take_row.new.steps) went.events c.loop-number.number (end_ahead c.loop-number.lines (g.F.Files.state c.loop-number.files)) (g.F.Files.state c.loop-number.files).told (rows_ahead c.loop-number.lines (g.F.Files.state c.loop-number.files)) (rows_ahead c.take_row.new.lines (g.F.Files.state c.take_row.new.files)) =
    subst (λ (b : Bool). ScheduleGoesOn (g.R.Replica.rules c.loop-number.replica) (g.R.Replica.stands c.take_row.new.replica c.take_row.new.outside c.take_row.new.steps) went.events c.loop-number.number (end_ahead c.loop-number.lines (g.F.Files.state c.loop-number.files)) (g.F.Files.state c.loop-number.files).told
    (rows_ahead c.loop-number.lines (g.F.Files.state c.loop-number.files)) (rows_ahead c.take_row.new.lines (g.F.Files.state c.take_row.new.files)) b) c.if-not-branch.false (c.in_ok-take_row.ensures.goes went.events went.stands_for) in
    record {
      counted = c.in_ok-take_row.ensures.cause ∙ c.loop-number.invariant.counted;
      link_counted = c.in_ok-take_row.ensures.link_cause ∙ c.loop-number.invariant.link_counted;
      keeps_files = files_trans _ _ _ c.loop-number.invariant.keeps_files c.take_row.ensures.keeps_files;
      keeps = g.met.R.Replica.keeps_on _ _ _ _ _ _ c.loop-number.invariant.keeps c.take_row.ensures.keeps;
      ready = c.in_ok-take_row.ensures.ready;
      few = omega (arith, few);
      end = λ told. c.in_ok-take_row.ensures.end (c.loop-number.invariant.keeps_files.told ∙ told) ∙ c.loop-number.invariant.end told;
      went = went_on _ _ _ _ c.loop-number.number _ _ _ _ _ _ _ c.loop-number.auto.number same c.loop-number.invariant.end c.loop-number.invariant.keeps_files.told went row;
    }
