use Rattle.std.proofs.Common.{◌≡◌, take, drop}
use Rattle.lt_resolve.specs.Scopes.{functions}
use Rattle.lt_resolve.specs.Faults.{first_in, twice_in}
use Rattle.lt_resolve.proofs.tables.scopes_of.Given as goal

abbrev pub invariant-nodes : goal.invariant-nodes
invariant-nodes l = record {
  table : l.functions ≡ functions (take l.i l.nodes);
  done : l.scopes.items ≡ take l.i l.nodes;
  rest : first_in (twice_in (functions l.nodes)) l.i (drop l.i l.nodes) ≡ first_in (twice_in (functions l.nodes)) 0 l.nodes;
}
