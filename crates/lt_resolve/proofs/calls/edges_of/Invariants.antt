use Rattle.std.proofs.Common.{◌≡◌, ◌++◌, drop}
use Rattle.lt_resolve.specs.Uses.{edges}
use Rattle.lt_resolve.proofs.calls.edges_of.Given as goal

abbrev pub invariant-calls : goal.invariant-calls
invariant-calls l = l.list.items ++ edges (drop l.call-index l.calls) ≡ edges l.calls
