use Rattle.std.proofs.Common.{◌∙◌}
use Rattle.lt_text_values.proofs.Missing.{no_variable}
use Rattle.lt_text_values.proofs.names.append_variable.Goals as goal

pub returns-in-None : goal.returns-in-None
returns-in-None c = no_variable _ _ _ _ _ (c.deref.ensures ∙ c.tree.view_is) c.in-None.ensures.lookup.3
