use Rattle.std.proofs.Common.{◌≡◌, ◌++◌, codes, OnOk, refl, sym, ap, ◌∙◌, subst, append_assoc}
use Rattle.lt_tokens.specs.declared.token.Infix.TheVariants as meet
use Rattle.lt_syntax.specs.Levels.{infix_line, left_level, right_level}
use Rattle.lt_syntax.specs.Tree.{Tm, Binary, Choice, Sampled, Delayed, Followed, Arrow}
use Rattle.lt_syntax.specs.declared.term.Term.TheVariants.{rolls-Bin, rolls-If, rolls-When, rolls-Fby, rolls-Follow, rolls-Arrow}
use Rattle.lt_syntax.specs.declared.term.Term.TheFolds.{fold-roll-Term}
use Rattle.lt_syntax.specs.Views.{tm_of, tm_step}
use Rattle.lt_print.specs.Canonical.{value_form, led, arrow_left, placed, operator, when_text, text}
use Rattle.lt_print.proofs.Printing.{behind, in_two, in_three, next_apart, arguments_more, printed_arguments, printed_argument}
use Rattle.lt_print.proofs.printer.+show.Goals as goal

pub arguments-arguments-preserved : goal.arguments-arguments-preserved
arguments-arguments-preserved t c = next_apart printed_arguments printed_argument (codes ", ") refl (λ x. refl) arguments_more c.args.out.now c.arguments.out c.comma.new.out c.show.new.out c.args.xs.now c.arguments.i c.index-xs-i.result c.arguments-test.true c.index-xs-i.is c.arguments.invariant c.in_ok-comma.ensures c.in_ok-show.ensures

pub inside-returns-in_ok-show_after-in-If-2 : goal.inside-returns-in_ok-show_after-in-If-2
inside-returns-in_ok-show_after-in-If-2 t c =
    let x = tm_of c.deref-in-If.result.now in
    let y = tm_of c.deref-in-If-2.result.now in
    let z = tm_of c.deref-in-If-3.result.now in
    let e : tm_of c.args.t.now ≡ Choice x y z = ap tm_of (c.in-If.is ∙ sym (rolls-If c.in-If.c c.in-If.a c.in-If.b)) ∙ fold-roll-Term Tm tm_step _ ∙ (λ i. Choice (tm_of (sym c.deref-in-If.ensures i)) (tm_of (sym c.deref-in-If-2.ensures i)) (tm_of (sym c.deref-in-If-3.ensures i))) in
    in_three c.show_after-in-If-3.result (tm_of c.args.t.now) (Choice x y z) c.args.out.now c.show_after-in-If.new.out c.show_after-in-If-2.new.out c.show_after-in-If-3.new.out
    (codes "if " ++ text (placed 1 x)) (codes " then " ++ text (placed 1 y)) (codes " else " ++ text (placed 1 z))
    e refl
    (c.in_ok-show_after-in-If.ensures ∙ append_assoc c.args.out.now (codes "if ") (text (placed 1 x)))
    (c.in_ok-show_after-in-If-2.ensures ∙ append_assoc c.show_after-in-If.new.out (codes " then ") (text (placed 1 y)))
    (behind c.show_after-in-If-3.result c.show_after-in-If-2.new.out c.show_after-in-If-3.new.out (codes " else ") (text (placed 1 z)) c.show_after-in-If-3.ensures)

pub inside-returns-in_ok-show-in-When : goal.inside-returns-in_ok-show-in-When
inside-returns-in_ok-show-in-When t c =
    let x = tm_of c.deref-in-When.result.now in
    let e : tm_of c.args.t.now ≡ Sampled x c.in-When.c c.in-When.b = ap tm_of (c.in-When.is ∙ sym (rolls-When c.in-When.a c.in-When.c c.in-When.b)) ∙ fold-roll-Term Tm tm_step _ ∙ (λ i. Sampled (tm_of (sym c.deref-in-When.ensures i)) c.in-When.c c.in-When.b) in
    in_two c.clock.result (tm_of c.args.t.now) (Sampled x c.in-When.c c.in-When.b) c.args.out.now c.show-in-When.new.out c.clock.new.out
    (text (placed 9 x)) (when_text c.in-When.c c.in-When.b)
    e refl c.in_ok-show-in-When.ensures c.clock.ensures

pub inside-returns-in_ok-value-in-Fby : goal.inside-returns-in_ok-value-in-Fby
inside-returns-in_ok-value-in-Fby t c =
    let y = tm_of c.deref-in-Fby.result.now in
    let e : tm_of c.args.t.now ≡ Delayed c.in-Fby.v y = ap tm_of (c.in-Fby.is ∙ sym (rolls-Fby c.in-Fby.v c.in-Fby.b)) ∙ fold-roll-Term Tm tm_step _ ∙ (λ i. Delayed c.in-Fby.v (tm_of (sym c.deref-in-Fby.ensures i))) in
    in_two c.show_after-in-Fby.result (tm_of c.args.t.now) (Delayed c.in-Fby.v y) c.args.out.now c.value-in-Fby.new.out c.show_after-in-Fby.new.out
    (text (value_form c.in-Fby.v)) (codes " fby " ++ text (placed 1 y))
    e refl c.in_ok-value-in-Fby.ensures
    (behind c.show_after-in-Fby.result c.value-in-Fby.new.out c.show_after-in-Fby.new.out (codes " fby ") (text (placed 1 y)) c.show_after-in-Fby.ensures)

pub inside-returns-in_ok-left_side-in-Follow : goal.inside-returns-in_ok-left_side-in-Follow
inside-returns-in_ok-left_side-in-Follow t c =
    let x = tm_of c.deref-in-Follow.result.now in
    let y = tm_of c.deref-in-Follow-2.result.now in
    let e : tm_of c.args.t.now ≡ Followed x y = ap tm_of (c.in-Follow.is ∙ sym (rolls-Follow c.in-Follow.a c.in-Follow.b)) ∙ fold-roll-Term Tm tm_step _ ∙ (λ i. Followed (tm_of (sym c.deref-in-Follow.ensures i)) (tm_of (sym c.deref-in-Follow-2.ensures i))) in
    in_two c.show_after-in-Follow.result (tm_of c.args.t.now) (Followed x y) c.args.out.now c.left_side.new.out c.show_after-in-Follow.new.out
    (text (led (placed 2 x))) (codes " fby " ++ text (placed 1 y))
    e refl c.in_ok-left_side-in-Follow.ensures
    (behind c.show_after-in-Follow.result c.left_side.new.out c.show_after-in-Follow.new.out (codes " fby ") (text (placed 1 y)) c.show_after-in-Follow.ensures)

pub inside-returns-in_ok-arrow_side-in-Arrow : goal.inside-returns-in_ok-arrow_side-in-Arrow
inside-returns-in_ok-arrow_side-in-Arrow t c =
    let x = tm_of c.deref-in-Arrow.result.now in
    let y = tm_of c.deref-in-Arrow-2.result.now in
    let e : tm_of c.args.t.now ≡ Arrow x y = ap tm_of (c.in-Arrow.is ∙ sym (rolls-Arrow c.in-Arrow.a c.in-Arrow.b)) ∙ fold-roll-Term Tm tm_step _ ∙ (λ i. Arrow (tm_of (sym c.deref-in-Arrow.ensures i)) (tm_of (sym c.deref-in-Arrow-2.ensures i))) in
    in_two c.show_after-in-Arrow.result (tm_of c.args.t.now) (Arrow x y) c.args.out.now c.arrow_side.new.out c.show_after-in-Arrow.new.out
    (text (arrow_left x (placed 2 x))) (codes " -> " ++ text (placed 1 y))
    e refl c.in_ok-arrow_side-in-Arrow.ensures
    (behind c.show_after-in-Arrow.result c.arrow_side.new.out c.show_after-in-Arrow.new.out (codes " -> ") (text (placed 1 y)) c.show_after-in-Arrow.ensures)

pub inside-returns-in_ok-show-in-Bin : goal.inside-returns-in_ok-show-in-Bin
inside-returns-in_ok-show-in-Bin t c =
    let o = c.in-Bin.o in
    let x = tm_of c.deref-in-Bin.result.now in
    let y = tm_of c.deref-in-Bin-2.result.now in
    let l = left_level (infix_line (meet.Operator o)) in
    let k = right_level (infix_line (meet.Operator o)) in
    let w = codes " " ++ (operator (meet.Operator o) ++ codes " ") in
    let e : tm_of c.args.t.now ≡ Binary o x y = ap tm_of (c.in-Bin.is ∙ sym (rolls-Bin o c.in-Bin.a c.in-Bin.b)) ∙ fold-roll-Term Tm tm_step _ ∙ (λ i. Binary o (tm_of (sym c.deref-in-Bin.ensures i)) (tm_of (sym c.deref-in-Bin-2.ensures i))) in
    let shown = subst (λ v. c.show.new.out ≡ c.args.out.now ++ text (placed v x)) c.left.ensures c.in_ok-show-in-Bin.ensures in
    let after = subst (λ v. OnOk c.show_after-in-Bin.result (c.show_after-in-Bin.new.out ≡ c.show.new.out ++ (c.spaced_operator.result.now ++ text (placed v y)))) c.right.ensures (behind c.show_after-in-Bin.result c.show.new.out c.show_after-in-Bin.new.out c.spaced_operator.result.now (text (placed c.right.result y)) c.show_after-in-Bin.ensures) in
    let spelled = subst (λ v. OnOk c.show_after-in-Bin.result (c.show_after-in-Bin.new.out ≡ c.show.new.out ++ (v ++ text (placed k y)))) c.spaced_operator.ensures after in
    in_two c.show_after-in-Bin.result (tm_of c.args.t.now) (Binary o x y) c.args.out.now c.show.new.out c.show_after-in-Bin.new.out
    (text (placed l x)) (w ++ text (placed k y))
    e (ap (λ v. text (placed l x) ++ (codes " " ++ v)) (sym (append_assoc (operator (meet.Operator o)) (codes " ") (text (placed k y))))) shown spelled
