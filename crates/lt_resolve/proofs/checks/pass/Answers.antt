use Rattle.std.proofs.Common.{◌≡◌, suc, ◌-◌, ◌≤◌, Option, List, refl, arith}
use Rattle.lt_syntax.specs.declared.tree.NodeText.{NodeText}
use Rattle.lt_resolve.specs.declared.checks.Check.{Check}
use Rattle.lt_resolve.specs.declared.checks.Check.TheVariants.{NoEquation, TwoEquations, EquationForInput, Inputs, Outputs}
use Rattle.lt_resolve.specs.Faults.{Occurrence, first_in, First, kind_number}
use Rattle.lt_resolve.specs.Checks.{found, check_kind, IsWhole}
use Rattle.lt_resolve.proofs.Order.{passes, shows_as}
use Rattle.lt_resolve.proofs.checks.pass.Goals as goal

whole_first : (check : Check) → IsWhole check → (t : List NodeText) (o : Option Occurrence) → o ≡ first_in (λ _. found check) 0 t → First t (check_kind check) o
whole_first NoEquation w t o h = h
whole_first TwoEquations w t o h = h
whole_first EquationForInput w t o h = h
whole_first Inputs w t o h = absurd w
whole_first Outputs w t o h = absurd w

next_number : (check : Check) → kind_number (check_kind check) ≡ suc (kind_number (check_kind check) - 1)
next_number NoEquation = refl
next_number TwoEquations = refl
next_number EquationForInput = refl
next_number Inputs = refl
next_number Outputs = refl

behind_two : (check : Check) → 2 ≤ kind_number (check_kind check) - 1
behind_two NoEquation = omega arith
behind_two TwoEquations = omega arith
behind_two EquationForInput = omega arith
behind_two Inputs = omega arith
behind_two Outputs = omega arith

pub returns-clause-passes : goal.returns-clause-passes
returns-clause-passes c =
    let t = c.args.tables.now in
    let kind = check_kind c.args.check in
    rw (next_number c.args.check)
    (passes t 2 (kind_number kind - 1) (behind_two c.args.check) kind (next_number c.args.check) c.requires.cleared c.check_all.result (shows_as kind _ _ (whole_first c.args.check c.requires.whole t) c.check_all.result c.check_all.ensures.shown))
