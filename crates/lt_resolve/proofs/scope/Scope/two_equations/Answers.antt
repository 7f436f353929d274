use Rattle.std.proofs.Common.{sym, ap, ◌∙◌}
use Rattle.lt_resolve.specs.Names.{repeated_name}
use Rattle.lt_resolve.specs.Scopes.{left_names}
use Rattle.lt_resolve.specs.Faults.{two_equations_in}
use Rattle.lt_resolve.proofs.Told.{tells_as}
use Rattle.lt_resolve.proofs.scope.Scope.two_equations.Goals as goal

pub returns : goal.returns
returns c =
    let n = c.self.inside.node.now in
    tells_as _ _ _ (ap two_equations_in (sym c.self.view_is) ∙ ap (λ names. repeated_name names (left_names n)) (sym c.in_ok-names.ensures)) c.insert_lefts-told.ensures
