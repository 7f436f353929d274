use Rattle.lt_resolve.specs.declared.fault.NameKind.TheVariants.{Unknown}
use Rattle.lt_resolve.specs.Faults.{unknown_in}
use Rattle.lt_resolve.proofs.Taken.{Standing, none_standing, shows_on, joined, standing_head}
use Rattle.lt_resolve.proofs.taking.scoped_function.Goals as goal

pub drafted_function-requires-clause-known : goal.drafted_function-requires-clause-known
drafted_function-requires-clause-known c = none_standing c.args.place (unknown_in c.args.functions.now c.args.scope.now) c.in_ok-draft.ensures.shown

pub returns-in_err-draft-clause-shown : goal.returns-in_err-draft-clause-shown
returns-in_err-draft-clause-shown c =
    let funcs = c.args.functions.now in
    let h = c.args.scope.now in
    let qs = c.args.eqs.items in
    let place = c.args.place in
    shows_on Unknown (Standing place (unknown_in funcs h)) (Standing place (unknown_in funcs (joined funcs h qs))) c.in_err-draft.field-0.0 _ c.from_residual.ensures.1 (standing_head funcs h qs c.requires.none place) c.in_err-draft.ensures.shown
