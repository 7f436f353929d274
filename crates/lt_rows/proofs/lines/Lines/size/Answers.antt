use Rattle.std.proofs.Common.{length, sym, ap, ◌∙◌}
use Rattle.lt_rows.proofs.Moving.{length-line_in}
use Rattle.lt_rows.proofs.lines.Lines.size.Goals as goal

pub returns : goal.returns
returns c = sym (length-line_in c.self.inside c.self.invariant) ∙ ap length (ap (λ l. l.line) c.self.view_is)
