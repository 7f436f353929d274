use Rattle.std.proofs.Common.{◌≡◌, take, drop, length}
use Rattle.lt_resolve.specs.Names.{first_some}
use Rattle.lt_resolve.specs.Faults.{unknown_equation}
use Rattle.lt_resolve.specs.Named.{Along}
use Rattle.lt_resolve.specs.Drafts.{IsDraftEquation}
use Rattle.lt_resolve.proofs.taking.taken_equations.Given as goal

abbrev pub invariant-eqs : goal.invariant-eqs
invariant-eqs l = record {
  rest : first_some (unknown_equation l.variables l.functions) (drop (length l.yielded) l.fn.eqs.items) ≡ first_some (unknown_equation l.variables l.functions) l.fn.eqs.items;
  along : Along (IsDraftEquation l.variables l.functions) (take (length l.yielded) l.fn.eqs.items) l.list.items;
}
