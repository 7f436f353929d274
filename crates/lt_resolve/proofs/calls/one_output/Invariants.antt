use Rattle.std.proofs.Common.{◌≡◌, drop}
use Rattle.std.specs.Prelude.{nat_eq}
use Rattle.lt_resolve.specs.Names.{first_some}
use Rattle.lt_resolve.specs.Faults.{answered, unless}
use Rattle.lt_resolve.proofs.calls.one_output.Given as goal

abbrev pub invariant-calls : goal.invariant-calls
invariant-calls l = first_some (λ s. unless (nat_eq (answered l.tables s.callee) 1) s) (drop l.call-index l.calls) ≡ first_some (λ s. unless (nat_eq (answered l.tables s.callee) 1) s) l.calls
