use Rattle.std.proofs.Common.{◌≡◌, drop}
use Rattle.std.specs.Prelude.{nat_eq}
use Rattle.lt_resolve.specs.Names.{first_some}
use Rattle.lt_resolve.specs.Faults.{wanted, unless}
use Rattle.lt_resolve.proofs.calls.right_counts.Given as goal

abbrev pub invariant-calls : goal.invariant-calls
invariant-calls l = first_some (λ s. unless (nat_eq s.arguments (wanted l.tables s.callee)) s) (drop l.call-index l.calls) ≡ first_some (λ s. unless (nat_eq s.arguments (wanted l.tables s.callee)) s) l.calls
