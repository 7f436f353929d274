use Rattle.std.proofs.Common.{◌+◌, ◌-◌, ◌^◌, ◌<◌, All, arith, sym, subst}
use Rattle.lt_base.specs.Program.{Function, VarsBelow}
use Rattle.lt_expand.proofs.Copying.{lefts_fit, rights_fit}
use Rattle.lt_expand.proofs.paste.append_copy.Goals as goal

pub append_equations-requires-clause-lefts : goal.append_equations-requires-clause-lefts
append_equations-requires-clause-lefts c =
    subst (λ (F : Function). All (λ q. q.0 + c.len-first.result < 2 ^ 32) F.eqs) (sym c.source.view_is)
    (lefts_fit c.args.source.now c.invariant_holds.ensures c.len-first.result (omega (arith, c.len-first.ensures, c.args.decls.now.ok.0, c.requires.room)))

pub append_equations-requires-clause-rights : goal.append_equations-requires-clause-rights
append_equations-requires-clause-rights c =
    subst (λ (F : Function). All (λ q. VarsBelow (2 ^ 32 - c.len-first.result) q.1) F.eqs) (sym c.source.view_is)
    (rights_fit c.args.source.now c.invariant_holds.ensures c.len-first.result (omega (arith, c.len-first.ensures, c.args.decls.now.ok.0, c.requires.room)))
