use Rattle.std.proofs.Common.{ℕ, List, IfOk, Some, None, refl, ap, ◌≡◌, map, sym, subst, ◌∙◌, arith, vec_len}
use Rattle.lt_base.specs.Expression.{shape, arguments_of}
use Rattle.lt_syntax.specs.Tree.{Var, Call, tms}
use Rattle.lt_syntax.specs.Views.{tm_of}
use Rattle.lt_resolve.specs.Names.{number_of_name, if_missing}
use Rattle.lt_resolve.specs.Uses.{unknown, if_uncallable, term_count}
use Rattle.lt_resolve.specs.Told.{TellsName}
use Rattle.lt_resolve.specs.Known.{StandsFor, IsCalled, IsTranslated}
use Rattle.lt_resolve.proofs.Pairs.{along_more, along_all}
use Rattle.lt_resolve.proofs.Lists.{or_none, some_next, some_none}
use Rattle.lt_resolve.proofs.Told.{refuses_first, refuses_then, tells_at, tells_on, tells_then, if_ok, boxed_as}
use Rattle.lt_resolve.proofs.Sites.{count_is}
use Rattle.lt_resolve.proofs.Terms.{tm_of-Var, unknown_arguments, translated_arguments, translated_call}
use Rattle.lt_resolve.proofs.expression.+expression.Goals as goal

pub arguments-returns-in_err-expression-clause-told : goal.arguments-returns-in_err-expression-clause-told
arguments-returns-in_err-expression-clause-told t c =
    let vars = c.args.variables.now in
    let funcs = c.args.functions.now in
    subst
    (λ o. TellsName o c.from_residual-in_err-expression.result)
    (unknown_arguments vars funcs c.args.args.now)
    (tells_at (λ a. unknown vars funcs (tm_of a)) c.args.args.now c.arguments.a-index c.a-item.result c.in_err-expression.field-0.0 c.from_residual-in_err-expression.result c.arguments-test.true c.a-item.is c.arguments.invariant.rest c.from_residual-in_err-expression.ensures.1 c.in_err-expression.ensures.told)

pub arguments-arguments-preserved : goal.arguments-arguments-preserved
arguments-arguments-preserved t c =
    let vars = c.args.variables.now in
    let funcs = c.args.functions.now in
    record {
      rest = some_next (λ a. unknown vars funcs (tm_of a)) c.args.args.now c.arguments.a-index c.a-item.result c.arguments-test.true c.a-item.is c.in_ok-expression.ensures.told c.arguments.invariant.rest;
      many = (let many = c.arguments.invariant.many in let len = c.in_ok-push.ensures.len in omega (arith, many, len));
      along = along_more (λ a e. IsTranslated vars funcs (tm_of a) (shape e)) c.args.args.now c.arguments.a-index c.a-item.result c.arguments.exprs.items c.push.new.self.items c.in_ok-expression.field-0
          c.arguments-test.true c.a-item.is c.arguments.invariant.along c.in_ok-expression.ensures.named c.in_ok-push.ensures.items;
    }

pub arguments-returns-clause-told : goal.arguments-returns-clause-told
arguments-returns-clause-told t c =
    let vars = c.args.variables.now in
    let funcs = c.args.functions.now in
    sym (unknown_arguments vars funcs c.args.args.now)
    ∙ some_none (λ a. unknown vars funcs (tm_of a)) c.args.args.now c.arguments.a-index c.arguments-test.false c.arguments.invariant.rest

pub arguments-returns-clause-named : goal.arguments-returns-clause-named
arguments-returns-clause-named t c =
    translated_arguments c.args.variables.now c.args.functions.now c.args.args.now c.arguments.exprs.items
    (along_all (λ a e. IsTranslated c.args.variables.now c.args.functions.now (tm_of a) (shape e)) c.args.args.now c.arguments.a-index c.arguments.exprs.items c.arguments-test.false c.arguments.invariant.along)

pub expression-returns-in-Var-clause-named : goal.expression-returns-in-Var-clause-named
expression-returns-in-Var-clause-named t c =
    let vars = c.args.variables.now in
    let funcs = c.args.functions.now in
    subst
    (λ a. IfOk c.variable.result (λ e. IsTranslated vars funcs a (shape e)))
    (sym (ap tm_of c.in-Var.is ∙ tm_of-Var c.in-Var.x))
    (if_ok (λ e. (functions : List (List ℕ)) → IsTranslated vars functions (Var c.in-Var.x) (shape e)) (λ e. IsTranslated vars funcs (Var c.in-Var.x) (shape e)) (λ e named. named funcs) c.variable.result c.variable.ensures.named)

pub call_of-returns-clause-told : goal.call_of-returns-clause-told
call_of-returns-clause-told t c =
    let funcs = c.args.functions.now in
    let callable : if_uncallable funcs c.args.name.now ≡ None = subst (λ x. if_uncallable funcs x ≡ None) c.as_str.ensures c.in_ok-callee.ensures.told in
    tells_then _ _ c.call.result callable (subst (λ o. TellsName o c.call.result) (sym c.in_ok-args.ensures.told) c.call.ensures.told)

pub call_of-returns-clause-named : goal.call_of-returns-clause-named
call_of-returns-clause-named t c =
    let vars = c.args.variables.now in
    let funcs = c.args.functions.now in
    let f = c.args.name.now in
    let args = c.args.args.now in
    let es = arguments_of (map shape c.in_ok-args.args.items) in
    let many : vec_len c.in_ok-args.args ≡ term_count (tms (map tm_of args)) = c.in_ok-args.ensures.len ∙ sym (count_is args) in
    let stands = subst (λ x. StandsFor funcs x c.in_ok-callee.callee) c.as_str.ensures c.in_ok-callee.ensures.found in
    if_ok
    (λ e. IsCalled c.in_ok-callee.callee (vec_len c.in_ok-args.args) es (shape e))
    (λ e. IsTranslated vars funcs (Call f (tms (map tm_of args))) (shape e))
    (λ e called. translated_call vars funcs f (tms (map tm_of args)) (vec_len c.in_ok-args.args) es many c.in_ok-args.ensures.named c.in_ok-callee.callee (shape e) stands called)
    c.call.result
    c.call.ensures.called

pub box_expression-returns-clause-told : goal.box_expression-returns-clause-told
box_expression-returns-clause-told t c = c.in_box.ensures.told (unknown c.args.variables.now c.args.functions.now (tm_of c.args.term.now)) c.expression.ensures.told

pub box_expression-returns-clause-named : goal.box_expression-returns-clause-named
box_expression-returns-clause-named t c =
    boxed_as (λ e. IsTranslated c.args.variables.now c.args.functions.now (tm_of c.args.term.now) (shape e)) c.expression.result c.in_box.result c.expression.ensures.named c.in_box.ensures.boxed

pub operands-returns-in_err-a-clause-told : goal.operands-returns-in_err-a-clause-told
operands-returns-in_err-a-clause-told t c = tells_on _ c.in_err-a.field-0.0 _ c.from_residual.ensures.1 (refuses_first _ _ _ c.in_err-a.ensures.told)

pub operands-returns-in_err-b-clause-told : goal.operands-returns-in_err-b-clause-told
operands-returns-in_err-b-clause-told t c = tells_on _ c.in_err-b.field-0.0 _ c.from_residual-in_err-b.ensures.1 (refuses_then _ _ _ c.in_ok-a.ensures.told c.in_err-b.ensures.told)

pub operands-returns-clause-told : goal.operands-returns-clause-told
operands-returns-clause-told t c = or_none _ _ c.in_ok-a.ensures.told ∙ c.in_ok-b.ensures.told

pub operands-returns-clause-named : goal.operands-returns-clause-named
operands-returns-clause-named t c = (c.in_ok-a.ensures.named, c.in_ok-b.ensures.named)

pub unary-returns-in-Err-clause-told : goal.unary-returns-in-Err-clause-told
unary-returns-in-Err-clause-told t c = c.in-Err.ensures.told

pub unary-returns-in-Ok-clause-told : goal.unary-returns-in-Ok-clause-told
unary-returns-in-Ok-clause-told t c = c.in-Ok.ensures.told

pub unary-returns-in-Ok-clause-named : goal.unary-returns-in-Ok-clause-named
unary-returns-in-Ok-clause-named t c = λ k. (refl, c.in-Ok.ensures.named k)

pub delay_of-returns-in-Err-clause-told : goal.delay_of-returns-in-Err-clause-told
delay_of-returns-in-Err-clause-told t c = c.in-Err.ensures.told

pub delay_of-returns-in-Ok-clause-told : goal.delay_of-returns-in-Ok-clause-told
delay_of-returns-in-Ok-clause-told t c = c.in-Ok.ensures.told

pub delay_of-returns-in-Ok-clause-named : goal.delay_of-returns-in-Ok-clause-named
delay_of-returns-in-Ok-clause-named t c = λ k. (refl, c.in-Ok.ensures.named k)

pub binary-returns-in-Err-clause-told : goal.binary-returns-in-Err-clause-told
binary-returns-in-Err-clause-told t c = c.in-Err.ensures.told

pub binary-returns-in-Ok-clause-told : goal.binary-returns-in-Ok-clause-told
binary-returns-in-Ok-clause-told t c = c.in-Ok.ensures.told

pub binary-returns-in-Ok-clause-named : goal.binary-returns-in-Ok-clause-named
binary-returns-in-Ok-clause-named t c = λ k. (refl, c.in-Ok.ensures.named.0 k.0, c.in-Ok.ensures.named.1 k.1)

pub follow_of-returns-in-Err-clause-told : goal.follow_of-returns-in-Err-clause-told
follow_of-returns-in-Err-clause-told t c = c.in-Err.ensures.told

pub follow_of-returns-in-Ok-clause-told : goal.follow_of-returns-in-Ok-clause-told
follow_of-returns-in-Ok-clause-told t c = c.in-Ok.ensures.told

pub follow_of-returns-in-Ok-clause-named : goal.follow_of-returns-in-Ok-clause-named
follow_of-returns-in-Ok-clause-named t c = λ k. (c.in-Ok.ensures.named.0 k.0, c.in-Ok.ensures.named.1 k.1)

pub arrow-returns-in-Err-clause-told : goal.arrow-returns-in-Err-clause-told
arrow-returns-in-Err-clause-told t c = c.in-Err.ensures.told

pub arrow-returns-in-Ok-clause-told : goal.arrow-returns-in-Ok-clause-told
arrow-returns-in-Ok-clause-told t c = c.in-Ok.ensures.told

pub arrow-returns-in-Ok-clause-named : goal.arrow-returns-in-Ok-clause-named
arrow-returns-in-Ok-clause-named t c = λ k. (c.in-Ok.ensures.named.0 k.0, c.in-Ok.ensures.named.1 k.1)

pub choice-returns-in_err-c-clause-told : goal.choice-returns-in_err-c-clause-told
choice-returns-in_err-c-clause-told t c = tells_on _ c.in_err-c.field-0.0 _ c.from_residual.ensures.1 (refuses_first _ _ _ c.in_err-c.ensures.told)

pub choice-returns-in-Err-clause-told : goal.choice-returns-in-Err-clause-told
choice-returns-in-Err-clause-told t c = refuses_then _ _ _ c.in_ok-c.ensures.told c.in-Err.ensures.told

pub choice-returns-in-Ok-clause-told : goal.choice-returns-in-Ok-clause-told
choice-returns-in-Ok-clause-told t c = or_none _ _ c.in_ok-c.ensures.told ∙ c.in-Ok.ensures.told

pub choice-returns-in-Ok-clause-named : goal.choice-returns-in-Ok-clause-named
choice-returns-in-Ok-clause-named t c = λ k. (c.in_ok-c.ensures.named k.0, c.in-Ok.ensures.named.0 k.1, c.in-Ok.ensures.named.1 k.2)

pub merge_of-returns-in-Err-clause-told : goal.merge_of-returns-in-Err-clause-told
merge_of-returns-in-Err-clause-told t c =
    let known : if_missing c.args.variables.now c.args.c.now ≡ None = subst (λ x. if_missing c.args.variables.now x ≡ None) c.as_str.ensures c.in_ok-c.ensures.told in
    refuses_then _ _ _ known c.in-Err.ensures.told

pub merge_of-returns-in-Ok-clause-told : goal.merge_of-returns-in-Ok-clause-told
merge_of-returns-in-Ok-clause-told t c =
    let known : if_missing c.args.variables.now c.args.c.now ≡ None = subst (λ x. if_missing c.args.variables.now x ≡ None) c.as_str.ensures c.in_ok-c.ensures.told in
    or_none _ _ known ∙ c.in-Ok.ensures.told

pub merge_of-returns-in-Ok-clause-named : goal.merge_of-returns-in-Ok-clause-named
merge_of-returns-in-Ok-clause-named t c =
    let number : number_of_name c.args.variables.now c.args.c.now ≡ Some c.in_ok-c.c = subst (λ x. number_of_name c.args.variables.now x ≡ Some c.in_ok-c.c) c.as_str.ensures c.in_ok-c.ensures.number in
    λ k. (number, c.in-Ok.ensures.named.0 k.1, c.in-Ok.ensures.named.1 k.2)

pub sample_of-returns-in_err-a-clause-told : goal.sample_of-returns-in_err-a-clause-told
sample_of-returns-in_err-a-clause-told t c =
    tells_on _ c.in_err-a.field-0.0 _ c.from_residual.ensures.1 (refuses_first _ _ _ c.in_err-a.ensures.told)

pub sample_of-returns-clause-told : goal.sample_of-returns-clause-told
sample_of-returns-clause-told t c =
    let known : if_missing c.args.variables.now c.args.c.now ≡ None = subst (λ x. if_missing c.args.variables.now x ≡ None) c.as_str.ensures c.in_ok-c.ensures.told in
    or_none _ _ c.in_ok-a.ensures.told ∙ known

pub sample_of-returns-clause-named : goal.sample_of-returns-clause-named
sample_of-returns-clause-named t c =
    let number : number_of_name c.args.variables.now c.args.c.now ≡ Some c.in_ok-c.c = subst (λ x. number_of_name c.args.variables.now x ≡ Some c.in_ok-c.c) c.as_str.ensures c.in_ok-c.ensures.number in
    λ k. (c.in_ok-a.ensures.named k.0, number, refl)
