use Rattle.std.proofs.Common.{◌≡◌, [], None, sym, subst, IfOk}
use Rattle.lt_syntax.specs.declared.tree.NodeText.{NodeText}
use Rattle.lt_resolve.specs.declared.fault.NameKind.TheVariants.{Unknown}
use Rattle.lt_resolve.specs.Faults.{unknown_in}
use Rattle.lt_resolve.specs.Named.{IsFunction}
use Rattle.lt_resolve.specs.Right.{NodeIsRight}
use Rattle.lt_resolve.specs.Told.{ShowsFault}
use Rattle.lt_resolve.proofs.Taken.{Standing, joined}
use Rattle.lt_resolve.proofs.taking.function_with.Goals as goal

pub scoped_function-func-requires-clause-none : goal.scoped_function-func-requires-clause-none
scoped_function-func-requires-clause-none c = subst (λ (n : NodeText). n.eqs ≡ []) (sym c.in_ok-scope.ensures) c.requires.none

pub scoped_function-func-requires-clause-right : goal.scoped_function-func-requires-clause-right
scoped_function-func-requires-clause-right c =
    let funcs = c.args.functions.now in
    let qs = c.args.eqs.items in
    subst (λ n. unknown_in funcs (joined funcs n qs) ≡ None → NodeIsRight funcs (joined funcs n qs)) (sym c.in_ok-scope.ensures) c.requires.right

pub returns-clause-shown : goal.returns-clause-shown
returns-clause-shown c =
    let funcs = c.args.functions.now in
    subst (λ n. ShowsFault Unknown (Standing c.args.place (unknown_in funcs (joined funcs n c.args.eqs.items))) c.scoped_function-func.result) c.in_ok-scope.ensures c.scoped_function-func.ensures.shown

pub returns-clause-function : goal.returns-clause-function
returns-clause-function c =
    let funcs = c.args.functions.now in
    subst (λ n. IfOk c.scoped_function-func.result (IsFunction funcs (joined funcs n c.args.eqs.items))) c.in_ok-scope.ensures c.scoped_function-func.ensures.function
