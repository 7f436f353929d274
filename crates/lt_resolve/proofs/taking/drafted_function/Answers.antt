use Rattle.std.proofs.Common.{Some, None, refl, sym, subst}
use Rattle.lt_base.specs.Program.{Function}
use Rattle.lt_resolve.specs.declared.fault.NameKind.TheVariants.{Unknown}
use Rattle.lt_resolve.specs.Names.{first_some}
use Rattle.lt_resolve.specs.Faults.{unknown_equation, unknown_in}
use Rattle.lt_resolve.specs.Named.{IsFunction}
use Rattle.lt_resolve.proofs.Good.{good_function}
use Rattle.lt_resolve.proofs.Taken.{Standing, shows_on, shows_here, joined, standing_equations, right_joined, function_joined}
use Rattle.lt_resolve.proofs.taking.drafted_function.Goals as goal

pub function-requires-clause-good : goal.function-requires-clause-good
function-requires-clause-good c =
    let funcs = c.args.functions.now in
    let h = c.args.scope.now in
    let qs = c.args.eqs.items in
    let known : Standing c.args.place (unknown_in funcs h) None = shows_here {T = Unit {0}} Unknown c.args.place (unknown_in funcs h) tt c.requires.known in
    let right = right_joined funcs h qs c.requires.none h refl _ c.variables.ensures c.args.place known c.in_ok-taken.ensures.shown c.requires.right in
    let is = function_joined funcs h qs c.requires.none h refl _ c.variables.ensures c.args.draft c.in_ok-taken.taken.items c.requires.node c.requires.draft c.in_ok-taken.ensures.named right c.with_equations.result c.with_equations.ensures in
    good_function funcs (joined funcs h qs) _ is right

pub returns-in_err-taken-clause-shown : goal.returns-in_err-taken-clause-shown
returns-in_err-taken-clause-shown c =
    let funcs = c.args.functions.now in
    let h = c.args.scope.now in
    let qs = c.args.eqs.items in
    let place = c.args.place in
    shows_on Unknown (Standing place (first_some (unknown_equation c.variables.result.now funcs) qs)) (Standing place (unknown_in funcs (joined funcs h qs))) c.in_err-taken.field-0.0 _ c.from_residual.ensures.1
    (λ p k. standing_equations funcs h qs c.requires.none c.requires.known place p (subst (λ vs. Standing place (first_some (unknown_equation vs funcs) qs) (Some p)) c.variables.ensures k)) c.in_err-taken.ensures.shown

pub returns-clause-function : goal.returns-clause-function
returns-clause-function c =
    let funcs = c.args.functions.now in
    let h = c.args.scope.now in
    let qs = c.args.eqs.items in
    let known : Standing c.args.place (unknown_in funcs h) None = shows_here {T = Unit {0}} Unknown c.args.place (unknown_in funcs h) tt c.requires.known in
    let right = right_joined funcs h qs c.requires.none h refl _ c.variables.ensures c.args.place known c.in_ok-taken.ensures.shown c.requires.right in
    subst (λ (f : Function). IsFunction funcs (joined funcs h qs) f) (sym c.in_ok-function.ensures)
    (function_joined funcs h qs c.requires.none h refl _ c.variables.ensures c.args.draft c.in_ok-taken.taken.items c.requires.node c.requires.draft c.in_ok-taken.ensures.named right c.with_equations.result c.with_equations.ensures)
