use Rattle.std.proofs.Common.{ℕ, subst}
use Rattle.lt_cli_c.specs.Schedule.{AnswersSchedule}
use Rattle.lt_cli_c.proofs.top.answer.Goals as goal

pub returns-in-Emit : goal.returns-in-Emit
returns-in-Emit g c = rw c.in-Emit.is c.emit.ensures

pub returns-in-Schedule : goal.returns-in-Schedule
returns-in-Schedule g c =
    let w = c.in-Schedule in
    let old = g.F.Files.state c.args.files.now in
    let new = g.F.Files.state c.schedule.new.files in
    rw w.is
    (subst (λ (loss : ℕ). AnswersSchedule w.program.now w.inputs.now w.config.now loss w.seed w.horizon w.jitter old new c.schedule.result) c.unwrap_or-lost.ensures c.schedule.ensures)

pub returns-in-Draw : goal.returns-in-Draw
returns-in-Draw g c = rw c.in-Draw.is c.draw.ensures

pub returns-in-Plot : goal.returns-in-Plot
returns-in-Plot g c = rw c.in-Plot.is c.plot.ensures
