use Rattle.std.proofs.Common.{◌≡◌, take, drop}
use Rattle.lt_resolve.specs.Names.{first_some}
use Rattle.lt_resolve.specs.Faults.{unknown_equation}
use Rattle.lt_resolve.specs.Named.{Along}
use Rattle.lt_resolve.specs.Drafts.{IsDraftEquation}
use Rattle.lt_resolve.proofs.function.equations.Given as goal

abbrev pub invariant-eqs : goal.invariant-eqs
invariant-eqs l = record {
  rest : first_some (unknown_equation l.variables l.functions) (drop l.eq-index l.eq-items) ≡ first_some (unknown_equation l.variables l.functions) l.eq-items;
  along : Along (IsDraftEquation l.variables l.functions) (take l.eq-index l.eq-items) l.list.items;
}
