use Rattle.lt_schedule.proofs.Steps.{err_is}
use Rattle.lt_schedule.proofs.Headers.{lacked, unlinked, judged_all}
use Rattle.lt_schedule.proofs.replaying.replay_lines.Goals as goal

pub returns-clause-judged : goal.returns-clause-judged
returns-clause-judged g c =
    judged_all _ _ _ _ _ _ _ c.in_ok-take_header.ensures.header c.in_ok-take_header.ensures.end c.take_header.ensures.keeps_files.told _ _ _ c.take_rows.ensures.judged

pub returns-in_err-take_header-clause-judged : goal.returns-in_err-take_header-clause-judged
returns-in_err-take_header-clause-judged g c = rw (err_is _ _ c.from_residual.ensures.1) (lacked _ _ _ _ _ c.in_err-take_header.field-0.0 c.in_err-take_header.ensures.header)

pub returns-in_err-take_header-clause-link_cause : goal.returns-in_err-take_header-clause-link_cause
returns-in_err-take_header-clause-link_cause g c = rw (err_is _ _ c.from_residual.ensures.1) (unlinked _ c.in_err-take_header.field-0.0 c.in_err-take_header.ensures.unlinked)
