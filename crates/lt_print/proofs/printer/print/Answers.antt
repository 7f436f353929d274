use Rattle.std.proofs.Common.{◌≡◌, ap, ◌∙◌, sym, subst}
use Rattle.lt_syntax.specs.Program.{Spells}
use Rattle.lt_print.specs.Canonical.{canonical}
use Rattle.lt_print.proofs.Spelled.{canonical_spells}
use Rattle.lt_print.proofs.printer.print.Goals as goal

pub returns-clause-spells : goal.returns-clause-spells
returns-clause-spells c =
    let e : c.in_ok-out.out ≡ canonical c.args.t.now = c.in_ok-out.ensures ∙ ap canonical (c.deref.ensures ∙ c.t.view_is) in
    subst (λ z. Spells 200 z c.args.t.now) (sym e) (canonical_spells c.invariant_holds.ensures.0 c.args.t.now c.invariant_holds.ensures.1)
