use Rattle.std.proofs.Common.{sym, subst, length}
use Rattle.lt_graph.specs.Edges.{AreWithin}
use Rattle.lt_resolve.specs.Uses.{edges}
use Rattle.lt_resolve.proofs.Edges.{sites_within}
use Rattle.lt_resolve.proofs.calls.check_calls.Goals as goal

pub no_recursion-requires-clause-within : goal.no_recursion-requires-clause-within
no_recursion-requires-clause-within c = subst (λ l. AreWithin (length c.args.tables.now) (edges l)) (sym c.requires.calls) (sites_within c.args.tables.now)
