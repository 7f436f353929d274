use Rattle.std.proofs.Common.{◌∙◌}
use Rattle.lt_text_values.specs.OutputLines.{summary_text}
use Rattle.lt_text_answers.proofs.replies.big_text.Goals as goal

pub returns-in_ok-summary_text-in-Ok : goal.returns-in_ok-summary_text-in-Ok
returns-in_ok-summary_text-in-Ok c = rw c.in-Ok.is (c.in_ok-summary_text-in-Ok.ensures ∙ (λ i. summary_text c.args.instants (c.deref.ensures i) (c.deref-in-Ok.ensures i)))
