use Rattle.std.proofs.Common.{◌≡◌, ◌∙◌, true, false, sym, ap, map}
use Rattle.std.specs.Prelude.{◌&&◌}
use Rattle.lt_base.specs.declared.expression.Expr.{Expr}
use Rattle.lt_base.specs.Expression.{shape, arguments_of}
use Rattle.lt_base.specs.Meaning.{function_of}
use Rattle.lt_check.specs.Innermost.{is_at, arguments_at, answers_on_base}
use Rattle.lt_check.proofs.AtLemmas.{call_at, rest_at, at_fails, at_ends, on_base_told, and_false, both_hold, one_fails}
use Rattle.lt_check.proofs.innermost.+is_at.Goals as goal

pub returns-then-not-is_at : goal.returns-then-not-is_at
returns-then-not-is_at t c =
    let fs = c.args.funcs.now in
    let ds = c.args.decls.now in
    let pair = c.args.pair in
    let items = c.deref-a-items.result.now in
    let a : Expr = c.a-item.result in
    let same : items ≡ c.in-Call.args.items = c.deref-a-items.ensures.value in
    let start : rest_at fs ds pair items c.loop-a.a-index ≡ arguments_at fs ds (arguments_of (map shape items)) pair = c.loop-a.invariant in
    let told : false ≡ is_at fs ds (shape a) pair = c.if-not-is_at.ensures in
    let rest = sym start ∙ at_fails fs ds pair items c.loop-a.a-index a c.loop-a-test.true c.a-item.is (sym told) in
    let all : arguments_at fs ds (arguments_of (map shape c.in-Call.args.items)) pair ≡ false = ap (λ l. arguments_at fs ds (arguments_of (map shape l)) pair) (sym same) ∙ rest in
    sym (call_at fs ds pair c.args.e.now c.in-Call.g c.in-Call.args c.in-Call.is ∙ and_false (answers_on_base (function_of fs c.in-Call.g)) _ all)

pub returns-after-loop-a : goal.returns-after-loop-a
returns-after-loop-a t c =
    let fs = c.args.funcs.now in
    let ds = c.args.decls.now in
    let pair = c.args.pair in
    let items = c.deref-a-items.result.now in
    let same : items ≡ c.in-Call.args.items = c.deref-a-items.ensures.value in
    let start : rest_at fs ds pair items c.loop-a.a-index ≡ arguments_at fs ds (arguments_of (map shape items)) pair = c.loop-a.invariant in
    let rest = sym start ∙ at_ends fs ds pair items c.loop-a.a-index c.loop-a-test.false in
    let all : arguments_at fs ds (arguments_of (map shape c.in-Call.args.items)) pair ≡ true = ap (λ l. arguments_at fs ds (arguments_of (map shape l)) pair) (sym same) ∙ rest in
    let base : c.answers_on_base.result ≡ answers_on_base (function_of fs c.in-Call.g) = on_base_told (function_of fs c.in-Call.g) c.function_at.result c.answers_on_base.result c.function_at.ensures c.answers_on_base.ensures in
    let yes : c.answers_on_base.result ≡ true = c.if-not-answers_on_base.false in
    sym (call_at fs ds pair c.args.e.now c.in-Call.g c.in-Call.args c.in-Call.is ∙ (λ i. sym base i && all i) ∙ ap (λ b. b && true) yes)

pub returns-then-is_at : goal.returns-then-is_at
returns-then-is_at t c =
    let at = λ (x : Expr). is_at c.args.funcs.now c.args.decls.now (shape x) c.args.pair in
    both_hold c.is_at-in-Bin.result _ _ _ c.if-is_at.true (c.is_at-in-Bin.ensures ∙ ap at c.deref-in-Bin.ensures) (c.is_at-then-is_at.ensures ∙ ap at c.deref-then-is_at.ensures) ∙ sym (ap at c.in-Bin.is)

pub returns-else-is_at : goal.returns-else-is_at
returns-else-is_at t c =
    let at = λ (x : Expr). is_at c.args.funcs.now c.args.decls.now (shape x) c.args.pair in
    one_fails c.is_at-in-Bin.result _ (at c.in-Bin.b.value) c.if-is_at.false (c.is_at-in-Bin.ensures ∙ ap at c.deref-in-Bin.ensures) ∙ sym (ap at c.in-Bin.is)

pub returns-then-is_at-2 : goal.returns-then-is_at-2
returns-then-is_at-2 t c =
    let at = λ (x : Expr). is_at c.args.funcs.now c.args.decls.now (shape x) c.args.pair in
    both_hold c.is_at-in-Imported.result _ _ _ c.if-is_at-2.true (c.is_at-in-Imported.ensures ∙ ap at c.deref-in-Imported.ensures) (c.is_at-then-is_at-2.ensures ∙ ap at c.deref-then-is_at-2.ensures) ∙ sym (ap at c.in-Imported.is)

pub returns-else-is_at-2 : goal.returns-else-is_at-2
returns-else-is_at-2 t c =
    let at = λ (x : Expr). is_at c.args.funcs.now c.args.decls.now (shape x) c.args.pair in
    one_fails c.is_at-in-Imported.result _ (at c.in-Imported.b.value) c.if-is_at-2.false (c.is_at-in-Imported.ensures ∙ ap at c.deref-in-Imported.ensures) ∙ sym (ap at c.in-Imported.is)

pub returns-then-is_at-6 : goal.returns-then-is_at-6
returns-then-is_at-6 t c =
    let at = λ (x : Expr). is_at c.args.funcs.now c.args.decls.now (shape x) c.args.pair in
    both_hold c.is_at-in-Follow.result _ _ _ c.if-is_at-6.true (c.is_at-in-Follow.ensures ∙ ap at c.deref-in-Follow.ensures) (c.is_at-then-is_at-6.ensures ∙ ap at c.deref-then-is_at-6.ensures) ∙ sym (ap at c.in-Follow.is)

pub returns-else-is_at-6 : goal.returns-else-is_at-6
returns-else-is_at-6 t c =
    let at = λ (x : Expr). is_at c.args.funcs.now c.args.decls.now (shape x) c.args.pair in
    one_fails c.is_at-in-Follow.result _ (at c.in-Follow.b.value) c.if-is_at-6.false (c.is_at-in-Follow.ensures ∙ ap at c.deref-in-Follow.ensures) ∙ sym (ap at c.in-Follow.is)

pub returns-then-is_at-7 : goal.returns-then-is_at-7
returns-then-is_at-7 t c =
    let at = λ (x : Expr). is_at c.args.funcs.now c.args.decls.now (shape x) c.args.pair in
    both_hold c.is_at-in-Arrow.result _ _ _ c.if-is_at-7.true (c.is_at-in-Arrow.ensures ∙ ap at c.deref-in-Arrow.ensures) (c.is_at-then-is_at-7.ensures ∙ ap at c.deref-then-is_at-7.ensures) ∙ sym (ap at c.in-Arrow.is)

pub returns-else-is_at-7 : goal.returns-else-is_at-7
returns-else-is_at-7 t c =
    let at = λ (x : Expr). is_at c.args.funcs.now c.args.decls.now (shape x) c.args.pair in
    one_fails c.is_at-in-Arrow.result _ (at c.in-Arrow.b.value) c.if-is_at-7.false (c.is_at-in-Arrow.ensures ∙ ap at c.deref-in-Arrow.ensures) ∙ sym (ap at c.in-Arrow.is)
