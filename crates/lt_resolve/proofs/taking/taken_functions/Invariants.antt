use Rattle.std.proofs.Common.{◌≡◌, take, drop, length}
use Rattle.lt_resolve.specs.Faults.{first_in, unknown_in}
use Rattle.lt_resolve.specs.Named.{Along, IsFunction}
use Rattle.lt_resolve.proofs.taking.taken_functions.Given as goal

abbrev pub invariant-nodes : goal.invariant-nodes
invariant-nodes l = record {
  rest : first_in (λ _. unknown_in l.functions) (length l.yielded) (drop (length l.yielded) l.fn.nodes.items) ≡ first_in (λ _. unknown_in l.functions) 0 l.fn.nodes.items;
  along : Along (IsFunction l.functions) (take (length l.yielded) l.fn.nodes.items) l.funcs.items;
}
