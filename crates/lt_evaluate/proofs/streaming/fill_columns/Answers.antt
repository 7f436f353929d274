use Rattle.std.proofs.Common.{◌∙◌, length, ap}
use Rattle.std.proofs.lemmas.List.{length-replicate}
use Rattle.lt_base.specs.Program.{Function}
use Rattle.lt_evaluate.proofs.streaming.fill_columns.Goals as goal

pub take_rows-taken-requires-clause-values : goal.take_rows-taken-requires-clause-values
take_rows-taken-requires-clause-values g c = c.in_ok-values.ensures ∙ ap (λ (h : Function). h.n_in) c.function.view_is

pub take_rows-taken-requires-clause-outs : goal.take_rows-taken-requires-clause-outs
take_rows-taken-requires-clause-outs g c = ap length c.in_ok-outs.ensures ∙ length-replicate _ _ ∙ c.len.ensures ∙ ap (λ (h : Function). length h.outs) c.function.view_is
