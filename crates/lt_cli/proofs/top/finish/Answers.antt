use Rattle.std.proofs.Common.{refl, sym, ◌∙◌}
use Rattle.lt_text_answers.specs.declared.status.Status.TheVariants as status
use Rattle.lt_cli.proofs.Sinks.{written_by, short_by}
use Rattle.lt_cli.proofs.top.finish.Goals as goal

pub returns-in-Ok-clause-finishes : goal.returns-in-Ok-clause-finishes
returns-in-Ok-clause-finishes g c =
    rw (c.in-Ok.is, c.written_status.ensures) (written_by status.Ok _ _ _ c.print_text-printed.result c.print_text-printed.ensures.prints, refl)

pub returns-in-Ok-clause-short : goal.returns-in-Ok-clause-short
returns-in-Ok-clause-short g c = rw c.in-Ok.is (λ at. c.print_text-printed.ensures.short (short_by status.Ok c.print_text-printed.result (λ is. cc) (sym c.written_status.ensures ∙ at)))
