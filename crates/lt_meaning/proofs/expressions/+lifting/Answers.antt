use Rattle.std.specs.Prelude.{OnOk}
use Rattle.std.proofs.Common.{◌≡◌, ◌∙◌, ◌++◌, ◌∷◌, ◌+◌, [], true, false, map, take, length, refl, sym, ap, subst, add-one}
use Rattle.std.proofs.Math.Seq.{take-suc}
use Rattle.std.proofs.lemmas.List.{take_all, map-append}
use Rattle.lt_base.specs.declared.expression.Expr.{Expr}
use Rattle.lt_base.specs.Expression.{Expression, shape, unary, binary, imported, merged, delayed, call, arguments_of}
use Rattle.lt_base.proofs.Shape.{shape-Call}
use Rattle.lt_meaning.specs.Form.{node_form, one, two, named, joined}
use Rattle.lt_meaning.specs.Lift.{form_of, forms_of, first_wait}
use Rattle.lt_meaning.specs.Taken.{Taken, taken, taken_after, after_arguments, with_wait}
use Rattle.lt_meaning.proofs.Growing.{Lifts, one_lifts, two_lifts, choose_lifts, delayed_lifts, follow_lifts, arrow_lifts, call_lifts, argument_lifts, no_arguments_lift}
use Rattle.lt_meaning.proofs.expressions.+lifting.Goals as goal

pub lift-returns-in-Fby : goal.lift-returns-in-Fby
lift-returns-in-Fby t c =
    let ck = c.args.clock.now in
    let e = shape c.deref-in-Fby.result.now in
    let is : shape c.args.e.now ≡ delayed c.in-Fby.v e = ap shape c.in-Fby.is ∙ (λ i. delayed c.in-Fby.v (shape (sym c.deref-in-Fby.ensures i))) in
    let l = delayed_lifts (taken c.args.to.now) (taken c.wait.new.to) c.in-Fby.v e ck c.wait.result c.wait.ensures.form c.wait.ensures.grown in
    let whole = subst (λ (e : Expression). Lifts (taken c.args.to.now) e ck c.wait.result (taken c.wait.new.to)) (sym is) l in
    record { form = whole.form; grown = whole.grown }

pub lift-returns-in-Call : goal.lift-returns-in-Call
lift-returns-in-Call t c =
    let ck = c.args.clock.now in
    let args = arguments_of (map shape c.in-Call.args.items) in
    let is : shape c.args.e.now ≡ call c.in-Call.g args = ap shape c.in-Call.is ∙ shape-Call c.in-Call.g c.in-Call.args in
    let l : Lifts (taken c.args.to.now) (call c.in-Call.g args) ck c.lift_call.result (taken c.lift_call.new.to) = record { form = c.lift_call.ensures.form; grown = c.lift_call.ensures.grown } in
    let whole = subst (λ (e : Expression). Lifts (taken c.args.to.now) e ck c.lift_call.result (taken c.lift_call.new.to)) (sym is) l in
    record { form = whole.form; grown = whole.grown }

pub lift_unary-returns : goal.lift_unary-returns
lift_unary-returns t c =
    let o = c.args.o in
    let l = one_lifts (taken c.args.to.now) (taken c.lift.new.to) (unary o (shape c.args.a.now)) (shape c.args.a.now) c.args.clock.now (one o) c.in_ok-a.a c.one_of.result (λ k c. refl) (λ z. refl) c.in_ok-a.ensures.form c.in_ok-a.ensures.grown c.one_of.ensures in
    record { form = l.form; grown = l.grown }

pub lift_outside-returns : goal.lift_outside-returns
lift_outside-returns t c =
    record { form = c.lift.ensures.form; grown = subst (λ k. OnOk c.lift.result (taken c.lift.new.to ≡ taken_after (taken c.args.to.now) (shape c.args.e.now) k)) c.in_ok-before.ensures c.lift.ensures.grown }

pub lift_branch-returns : goal.lift_branch-returns
lift_branch-returns t c =
    record { form = c.lift.ensures.form; grown = subst (λ k. OnOk c.lift.result (taken c.lift.new.to ≡ taken_after (taken c.args.to.now) (shape c.args.e.now) k)) c.in_ok-at.ensures c.lift.ensures.grown }

pub lift_call-returns : goal.lift_call-returns
lift_call-returns t c =
    let args = arguments_of (map shape c.args.args.now.items) in
    let l = call_lifts (taken c.args.to.now) (taken c.lift_all.new.to) (taken c.call.new.to) c.args.g args c.args.clock.now (map node_form c.in_ok-lifted.lifted.items) c.call.result
    c.in_ok-lifted.ensures.forms c.in_ok-lifted.ensures.grown c.call.ensures.form c.call.ensures.grown in
    record { form = l.form; grown = l.grown }

pub lift_two-returns-in-Ok : goal.lift_two-returns-in-Ok
lift_two-returns-in-Ok t c =
    let ck = c.args.clock.now in
    let b = shape c.args.b.now in
    let grown = c.in_ok-first.ensures.grown in
    record {
      first = c.in_ok-first.ensures.form;
      second = c.in-Ok.ensures.form ∙ ap (λ (y : Taken). form_of (length y.waits) y.cells b) grown;
      grown = c.in-Ok.ensures.grown ∙ ap (λ (y : Taken). taken_after y b ck) grown;
    }

pub lift_binary-returns : goal.lift_binary-returns
lift_binary-returns t c =
    let o = c.args.o in
    let ck = c.args.clock.now in
    let a = shape c.args.a.now in
    let b = shape c.args.b.now in
    let x = taken c.args.to.now in
    let l = two_lifts x (taken_after x a ck) (taken c.lift_two.new.to) (binary o a b) a b ck ck ck (two o) c.in_ok-a.a c.in_ok-a.b c.two_of.result (λ k c. refl) refl
    c.in_ok-a.ensures.first refl c.in_ok-a.ensures.second c.in_ok-a.ensures.grown c.two_of.ensures in
    record { form = l.form; grown = l.grown }

pub lift_imported-returns : goal.lift_imported-returns
lift_imported-returns t c =
    let o = c.args.o in
    let ck = c.args.clock.now in
    let a = shape c.args.a.now in
    let b = shape c.args.b.now in
    let x = taken c.args.to.now in
    let l = two_lifts x (taken_after x a ck) (taken c.lift_two.new.to) (imported o a b) a b ck ck ck (named o) c.in_ok-a.a c.in_ok-a.b c.named_of.result (λ k c. refl) refl
    c.in_ok-a.ensures.first refl c.in_ok-a.ensures.second c.in_ok-a.ensures.grown c.named_of.ensures in
    record { form = l.form; grown = l.grown }

pub lift_choice-returns-in-Ok : goal.lift_choice-returns-in-Ok
lift_choice-returns-in-Ok t c =
    let ck = c.args.clock.now in
    let d = shape c.args.c.now in
    let a = shape c.args.a.now in
    let b = shape c.args.b.now in
    let y = taken c.lift.new.to in
    let l = choose_lifts (taken c.args.to.now) y (taken_after y a ck) (taken c.lift_two.new.to) d a b ck c.in_ok-c.c c.in-Ok.a c.in-Ok.b c.either_of.result
    c.in_ok-c.ensures.form c.in_ok-c.ensures.grown c.in-Ok.ensures.first refl c.in-Ok.ensures.second c.in-Ok.ensures.grown c.either_of.ensures in
    record { form = l.form; grown = l.grown }

pub lift_merge-returns : goal.lift_merge-returns
lift_merge-returns t c =
    let x = c.args.c in
    let ck = c.args.clock.now in
    let a = shape c.args.a.now in
    let b = shape c.args.b.now in
    let l = two_lifts (taken c.args.to.now) (taken c.lift_branch.new.to) (taken c.lift_branch-2.new.to) (merged x a b) a b ck ((x, true) ∷ ck) ((x, false) ∷ ck) (joined x) c.in_ok-a.a c.in_ok-b.b c.joined_of.result (λ k c. refl) refl
    c.in_ok-a.ensures.form c.in_ok-a.ensures.grown c.in_ok-b.ensures.form c.in_ok-b.ensures.grown c.joined_of.ensures in
    record { form = l.form; grown = l.grown }

pub lift_follow-returns-in-Ok : goal.lift_follow-returns-in-Ok
lift_follow-returns-in-Ok t c =
    let ck = c.args.clock.now in
    let a = shape c.args.a.now in
    let b = shape c.args.b.now in
    let y = taken c.lift.new.to in
    let l = follow_lifts (taken c.args.to.now) y (with_wait y (first_wait ck)) (taken c.wait_twice.new.to) a b ck c.in_ok-a.a c.in-Ok.begins c.in-Ok.kept c.either_of.result
    c.in_ok-a.ensures.form c.in_ok-a.ensures.grown c.in-Ok.ensures.flag refl c.in-Ok.ensures.delay c.in-Ok.ensures.grown c.either_of.ensures in
    record { form = l.form; grown = l.grown }

pub lift_arrow-returns-in-Ok : goal.lift_arrow-returns-in-Ok
lift_arrow-returns-in-Ok t c =
    let ck = c.args.clock.now in
    let a = shape c.args.a.now in
    let b = shape c.args.b.now in
    let x = taken c.args.to.now in
    let l = arrow_lifts x (taken_after x a ck) (taken c.lift_two.new.to) (taken c.wait.new.to) a b ck c.in_ok-a.a c.in_ok-a.b c.in-Ok.begins c.either_of.result
    c.in_ok-a.ensures.first refl c.in_ok-a.ensures.second c.in_ok-a.ensures.grown c.in-Ok.ensures.form c.in-Ok.ensures.grown c.either_of.ensures in
    record { form = l.form; grown = l.grown }

pub lift_all-loop-a-init : goal.lift_all-loop-a-init
lift_all-loop-a-init t c = record { forms = ap (map node_form) c.in_ok-nodes.ensures.items; grown = no_arguments_lift (taken c.args.to.now) c.args.clock.now }

pub lift_all-loop-a-preserved : goal.lift_all-loop-a-preserved
lift_all-loop-a-preserved t c =
    let x = taken c.args.to.now in
    let ck = c.args.clock.now in
    let items = c.deref-a-items.result.now in
    let i = c.loop-a.a-index in
    let a : Expr = c.a-item.result in
    let es = map shape (take i items) in
    let l = argument_lifts x (taken c.loop-a.to) (taken c.lift.new.to) es (shape a) ck (map node_form c.loop-a.nodes.items) (node_form c.in_ok-lift.field-0) c.loop-a.invariant.forms c.loop-a.invariant.grown c.in_ok-lift.ensures.form c.in_ok-lift.ensures.grown in
    let more : es ++ shape a ∷ [] ≡ map shape (take (i + 1) items) =
    sym (ap (map shape) (ap (λ n. take n items) (add-one i) ∙ take-suc items i a c.loop-a-test.true ∙ ap (λ e. take i items ++ e ∷ []) (sym c.a-item.is)) ∙ map-append shape (take i items) (a ∷ [])) in
    record {
      forms = ap (map node_form) c.in_ok-push.ensures.items ∙ map-append node_form c.loop-a.nodes.items (c.in_ok-lift.field-0 ∷ []) ∙ l.0 ∙ ap (λ es. forms_of (length x.waits) x.cells (arguments_of es)) more;
      grown = l.1 ∙ ap (λ es. after_arguments x (arguments_of es) ck) more;
    }

pub lift_all-returns : goal.lift_all-returns
lift_all-returns t c =
    let x = taken c.args.to.now in
    let items = c.deref-a-items.result.now in
    let all = take_all c.loop-a.a-index items c.loop-a-test.false ∙ c.deref-a-items.ensures.value in
    record {
      forms = c.loop-a.invariant.forms ∙ ap (λ l. forms_of (length x.waits) x.cells (arguments_of (map shape l))) all;
      grown = c.loop-a.invariant.grown ∙ ap (λ l. after_arguments x (arguments_of (map shape l)) c.args.clock.now) all;
    }
