use Rattle.std.proofs.Common.{ℕ, List, ◌≤◌, length, subst}
use Rattle.lt_text_lines.proofs.Unnamed.{no_node}
use Rattle.lt_text_lines.proofs.schedule.append_node_name.Goals as goal

pub returns-in-None : goal.returns-in-None
returns-in-None c = no_node _ c.args.shape.now c.args.node (subst (λ (xs : List (List ℕ)). length xs ≤ c.args.node) c.deref.ensures c.in-None.ensures.lookup.3)
