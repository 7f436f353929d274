use Rattle.std.proofs.Common.{Bool, true, false, sym, ap, subst, ◌∙◌}
use Rattle.lt_rows.specs.declared.fault.LineFault.TheVariants.{TooLong, Bytes}
use Rattle.lt_rows.specs.Events.{header_fault}
use Rattle.lt_rows.specs.Lines.{GivesLine, RefusesNext}
use Rattle.lt_schedule.proofs.Headers.{other_header, no_header, long_header, past_header}
use Rattle.lt_schedule.proofs.replaying.take_header.Goals as goal

pub returns-in-Err-clause-header : goal.returns-in-Err-clause-header
returns-in-Err-clause-header g c told =
    let gives : GivesLine c.args.lines.now c.advance.new.self (g.F.Files.state c.args.files.now) (g.F.Files.state c.advance.new.files) true =
    subst (λ (b : Bool). GivesLine c.args.lines.now c.advance.new.self (g.F.Files.state c.args.files.now) (g.F.Files.state c.advance.new.files) b) c.in-Ok-true.field-0-test (c.in-Ok-true.ensures.advances told) in
    rw c.at_row.ensures (other_header _ _ _ _ _ _ c.in-Err.fault gives.leaves gives.next (ap header_fault (sym c.line.ensures) ∙ c.in-Err.ensures) gives.near)

pub returns-in-Ok-false-clause-header : goal.returns-in-Ok-false-clause-header
returns-in-Ok-false-clause-header g c told =
    let gives : GivesLine c.args.lines.now c.advance.new.self (g.F.Files.state c.args.files.now) (g.F.Files.state c.advance.new.files) false =
    subst (λ (b : Bool). GivesLine c.args.lines.now c.advance.new.self (g.F.Files.state c.args.files.now) (g.F.Files.state c.advance.new.files) b) c.in-Ok-false.field-0-test (c.in-Ok-false.ensures.advances told) in
    rw c.at_row-in-Ok-false.ensures (no_header _ _ _ _ gives.leaves gives.next)

pub returns-in-Err-TooLong-clause-header : goal.returns-in-Err-TooLong-clause-header
returns-in-Err-TooLong-clause-header g c told =
    let refuses : RefusesNext c.args.lines.now (g.F.Files.state c.args.files.now) (g.F.Files.state c.advance.new.files) TooLong = rw c.in-Err-TooLong.field-0-is at (c.in-Err-TooLong.ensures.advances told) in
    rw c.at_row-in-Err-TooLong.ensures (long_header _ _ _ refuses.next refuses.near)

pub returns-in-Err-Bytes-clause-header : goal.returns-in-Err-Bytes-clause-header
returns-in-Err-Bytes-clause-header g c told =
    let refuses : RefusesNext c.args.lines.now (g.F.Files.state c.args.files.now) (g.F.Files.state c.advance.new.files) Bytes = rw c.in-Err-Bytes.field-0-is at (c.in-Err-Bytes.ensures.advances told) in
    past_header _ _ _ refuses.next refuses.near
