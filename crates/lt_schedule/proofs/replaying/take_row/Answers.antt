use Rattle.std.proofs.Common.{Bool, subst}
use Rattle.lt_rows.specs.declared.fault.LineFault.TheVariants.{TooLong, Bytes}
use Rattle.lt_rows.specs.Lines.{GivesLine, RefusesNext}
use Rattle.lt_schedule.proofs.Steps.{err_is, refuses_long, refuses_bytes}
use Rattle.lt_schedule.proofs.Turns.{takes_row, refuses_row, is_over}
use Rattle.lt_schedule.proofs.replaying.take_row.Goals as goal

pub returns-in_err-take_event-in-Ok-true-clause-goes : goal.returns-in_err-take_event-in-Ok-true-clause-goes
returns-in_err-take_event-in-Ok-true-clause-goes g c before stands =
    rw (err_is _ _ c.from_residual.ensures.1)
    (refuses_row (g.R.Replica.rules c.args.replica.now) c.args.number c.args.lines.now c.advance.new.self (g.F.Files.state c.args.files.now) (g.F.Files.state c.advance.new.files) before (g.F.Files.state c.args.files.now).told c.line.result.now c.in_err-take_event-in-Ok-true.field-0.0
    (λ told. subst (λ (b : Bool). GivesLine c.args.lines.now c.advance.new.self (g.F.Files.state c.args.files.now) (g.F.Files.state c.advance.new.files) b) c.in-Ok-true.field-0-test (c.in-Ok-true.ensures.advances told))
    c.line.ensures (c.in_err-take_event-in-Ok-true.ensures.takes before stands))

pub returns-in_ok-take_event-in-Ok-true-clause-goes : goal.returns-in_ok-take_event-in-Ok-true-clause-goes
returns-in_ok-take_event-in-Ok-true-clause-goes g c before stands =
    takes_row (g.R.Replica.rules c.args.replica.now) c.args.number c.args.lines.now c.advance.new.self (g.F.Files.state c.args.files.now) (g.F.Files.state c.advance.new.files) before _ (g.F.Files.state c.args.files.now).told c.line.result.now
    (λ told. subst (λ (b : Bool). GivesLine c.args.lines.now c.advance.new.self (g.F.Files.state c.args.files.now) (g.F.Files.state c.advance.new.files) b) c.in-Ok-true.field-0-test (c.in-Ok-true.ensures.advances told))
    c.line.ensures (c.in_ok-take_event-in-Ok-true.ensures.takes before stands)

pub returns-in-Ok-false-clause-goes : goal.returns-in-Ok-false-clause-goes
returns-in-Ok-false-clause-goes g c before stands =
    is_over c.args.lines.now c.advance.new.self (g.F.Files.state c.args.files.now) (g.F.Files.state c.advance.new.files) (g.R.Replica.stands c.args.replica.now c.args.outside.now c.args.steps.now) before (g.F.Files.state c.args.files.now).told stands
    (λ told. subst (λ (b : Bool). GivesLine c.args.lines.now c.advance.new.self (g.F.Files.state c.args.files.now) (g.F.Files.state c.advance.new.files) b) c.in-Ok-false.field-0-test (c.in-Ok-false.ensures.advances told))

pub returns-in-Err-TooLong-clause-goes : goal.returns-in-Err-TooLong-clause-goes
returns-in-Err-TooLong-clause-goes g c before stands =
    rw c.too_long.ensures (λ told.
    let refuses : RefusesNext c.args.lines.now (g.F.Files.state c.args.files.now) (g.F.Files.state c.advance.new.files) TooLong = rw c.in-Err-TooLong.field-0-is at (c.in-Err-TooLong.ensures.advances told) in
    refuses_long (g.R.Replica.rules c.args.replica.now) before c.args.number _ _ _ refuses.next (g.met.R.Replica.long c.args.replica.now) refuses.near)

pub returns-in-Err-Bytes-clause-goes : goal.returns-in-Err-Bytes-clause-goes
returns-in-Err-Bytes-clause-goes g c before stands = λ told.
    let refuses : RefusesNext c.args.lines.now (g.F.Files.state c.args.files.now) (g.F.Files.state c.advance.new.files) Bytes = rw c.in-Err-Bytes.field-0-is at (c.in-Err-Bytes.ensures.advances told) in
    refuses_bytes (g.R.Replica.rules c.args.replica.now) before c.args.number _ _ _ refuses.next refuses.near
