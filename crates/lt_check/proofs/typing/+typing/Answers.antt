use Rattle.std.proofs.Common.{◌≡◌, ◌≢◌, ◌∙◌, sym, ap, ap₂, arith, length, map, Some}
use Rattle.std.specs.List.{slice_get}
use Rattle.lt_base.specs.Expression.{shape}
use Rattle.lt_base.specs.declared.expression.Expr.{Expr}
use Rattle.lt_base.specs.Meaning.{function_of}
use Rattle.lt_base.specs.Program.{Function}
use Rattle.lt_base.specs.Typing.{type_of, bin_type, imported_type, shared_type, both_types, input_types, answer_type, arguments_fit}
use Rattle.lt_check.proofs.Calls.{call_typed, fit_misfit, fit_goes, fit_fails}
use Rattle.lt_check.proofs.typing.+typing.Goals as goal

pub call_type-returns-then-args-f : goal.call_type-returns-then-args-f
call_type-returns-then-args-f t c =
    let f = c.args.f.now in
    let n : c.f.inside.n_in ≡ f.n_in = ap (λ (f : Function). f.n_in) c.f.view_is in
    let m : length c.f.inside.decls ≡ length f.decls = ap (λ (f : Function). length f.decls) c.f.view_is in
    let inside = c.f.invariant.inputs in
    fit_misfit c.args.funcs.now c.args.decls.now f c.args.args.now (λ h. c.if-args-f.true (h ∙ sym n)) (omega (arith, n, m, inside))

pub call_type-returns-then-not-is_type : goal.call_type-returns-then-not-is_type
call_type-returns-then-not-is_type t c =
    let fs = c.args.funcs.now in
    let ds = c.args.decls.now in
    let a : Expr = c.index-args-i.result in
    let w = c.input_type.result in
    let want : slice_get (input_types c.args.f.now) c.loop-i.i ≡ Some w = c.input_type.ensures in
    let got : c.type_of.result ≡ type_of fs ds (shape a) = c.type_of.ensures in
    let differ : c.type_of.result ≢ Some w = c.if-not-is_type.ensures in
    sym (sym c.loop-i.invariant ∙ fit_fails fs ds c.args.f.now c.args.args.now c.loop-i.i a w want c.loop-i-test.true c.index-args-i.is (λ h. differ (got ∙ h)))

pub call_type-loop-i-preserved : goal.call_type-loop-i-preserved
call_type-loop-i-preserved t c =
    let fs = c.args.funcs.now in
    let ds = c.args.decls.now in
    let a : Expr = c.index-args-i.result in
    let w = c.input_type.result in
    let want : slice_get (input_types c.args.f.now) c.loop-i.i ≡ Some w = c.input_type.ensures in
    let got : c.type_of.result ≡ type_of fs ds (shape a) = c.type_of.ensures in
    let agree : c.type_of.result ≡ Some w = c.if-not-is_type.ensures in
    sym (fit_goes fs ds c.args.f.now c.args.args.now c.loop-i.i a w want c.loop-i-test.true c.index-args-i.is (sym got ∙ agree)) ∙ c.loop-i.invariant

pub type_of-returns-in-Some : goal.type_of-returns-in-Some
type_of-returns-in-Some t c =
    let fs = c.args.funcs.now in
    let ds = c.args.decls.now in
    let f = c.in-Some.f.now in
    let there : function_of fs c.in-Call.g ≡ Some f = c.in-Some.ensures in
    c.call_type.ensures
    ∙ ap (λ l. arguments_fit (input_types f) (map (λ e. type_of fs ds (shape e)) l) (answer_type f.decls f.outs)) c.deref-in-Some.ensures.value
    ∙ sym (call_typed fs ds c.args.e.now c.in-Call.g c.in-Call.args f c.in-Call.is there)

pub type_of-returns-in-Bin : goal.type_of-returns-in-Bin
type_of-returns-in-Bin t c =
    let ty = λ (x : Expr). type_of c.args.funcs.now c.args.decls.now (shape x) in
    c.bin_type.ensures ∙ ap₂ (both_types (bin_type c.in-Bin.op)) (c.type_of-in-Bin.ensures ∙ ap ty c.deref-in-Bin.ensures) (c.type_of-in-Bin-2.ensures ∙ ap ty c.deref-in-Bin-2.ensures) ∙ sym (ap ty c.in-Bin.is)

pub type_of-returns-in-Imported : goal.type_of-returns-in-Imported
type_of-returns-in-Imported t c =
    let ty = λ (x : Expr). type_of c.args.funcs.now c.args.decls.now (shape x) in
    c.imported_type.ensures ∙ ap₂ (both_types imported_type) (c.type_of-in-Imported.ensures ∙ ap ty c.deref-in-Imported.ensures) (c.type_of-in-Imported-2.ensures ∙ ap ty c.deref-in-Imported-2.ensures) ∙ sym (ap ty c.in-Imported.is)

pub type_of-returns-in-Follow : goal.type_of-returns-in-Follow
type_of-returns-in-Follow t c =
    let ty = λ (x : Expr). type_of c.args.funcs.now c.args.decls.now (shape x) in
    c.shared_type-in-Follow.ensures ∙ ap₂ (both_types shared_type) (c.type_of-in-Follow.ensures ∙ ap ty c.deref-in-Follow.ensures) (c.type_of-in-Follow-2.ensures ∙ ap ty c.deref-in-Follow-2.ensures) ∙ sym (ap ty c.in-Follow.is)

pub type_of-returns-in-Arrow : goal.type_of-returns-in-Arrow
type_of-returns-in-Arrow t c =
    let ty = λ (x : Expr). type_of c.args.funcs.now c.args.decls.now (shape x) in
    c.shared_type-in-Arrow.ensures ∙ ap₂ (both_types shared_type) (c.type_of-in-Arrow.ensures ∙ ap ty c.deref-in-Arrow.ensures) (c.type_of-in-Arrow-2.ensures ∙ ap ty c.deref-in-Arrow-2.ensures) ∙ sym (ap ty c.in-Arrow.is)
