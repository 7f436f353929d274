use Rattle.std.proofs.Common.{◌≡◌, sym, ◌∙◌, subst}
use Rattle.lt_text_answers.specs.declared.status.Status.{Status}
use Rattle.lt_text_answers.specs.Texts.{refusal_status}
use Rattle.lt_text_answers.proofs.Refusals.{not_memory}
use Rattle.lt_cli.proofs.Sinks.{written_by, short_by}
use Rattle.lt_cli.proofs.top.refuse.Goals as goal

pub returns-clause-written : goal.returns-clause-written
returns-clause-written g c =
    rw (c.written_status.ensures, c.status-status.ensures) (written_by (refusal_status c.args.refusal) _ _ _ c.print_line-printed.result c.print_line-printed.ensures.prints)

pub returns-clause-short : goal.returns-clause-short
returns-clause-short g c = λ at.
    c.print_line-printed.ensures.short (short_by c.status-status.result c.print_line-printed.result (λ is. not_memory c.args.refusal (sym c.status-status.ensures ∙ is)) (sym c.written_status.ensures ∙ at))
