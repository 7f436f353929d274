use Rattle.std.proofs.Common.{◌++◌, ap, refl, sym, ◌∙◌}
use Rattle.lt_base.specs.Calls.{called}
use Rattle.lt_base.specs.Expression.{shape}
use Rattle.lt_base.proofs.Shape.{shape-Call}
use Rattle.lt_check.proofs.Shares.{called_in, one_called, two_called}
use Rattle.lt_check.proofs.sizing.+push_calls.Goals as goal

pub push_calls-returns-in_ok-push-in-Call : goal.push_calls-returns-in_ok-push-in-Call
push_calls-returns-in_ok-push-in-Call t c =
    called_in c.push_all.result c.args.to.now c.push.new.self c.push_all.new.to c.in-Call.g c.in-Call.args.items c.deref-in-Call.result.now (shape c.args.e.now)
    (ap shape c.in-Call.is ∙ shape-Call c.in-Call.g c.in-Call.args) c.deref-in-Call.ensures.value c.in_ok-push-in-Call.ensures.ok c.push_all.ensures

pub push_calls-returns-in-Un : goal.push_calls-returns-in-Un
push_calls-returns-in-Un t c = one_called _ _ _ _ _ (ap (λ x. called (shape x)) c.in-Un.is ∙ ap (λ x. called (shape x)) (sym c.deref.ensures)) c.push_calls.ensures

pub push_calls-returns-in-When : goal.push_calls-returns-in-When
push_calls-returns-in-When t c = one_called _ _ _ _ _ (ap (λ x. called (shape x)) c.in-When.is ∙ ap (λ x. called (shape x)) (sym c.deref-in-When.ensures)) c.push_calls-in-When.ensures

pub push_calls-returns-in-Fby : goal.push_calls-returns-in-Fby
push_calls-returns-in-Fby t c = one_called _ _ _ _ _ (ap (λ x. called (shape x)) c.in-Fby.is ∙ ap (λ x. called (shape x)) (sym c.deref-in-Fby.ensures)) c.push_calls-in-Fby.ensures

pub push_calls-returns-in_ok-push_calls-in-Bin : goal.push_calls-returns-in_ok-push_calls-in-Bin
push_calls-returns-in_ok-push_calls-in-Bin t c =
    two_called _ _ _ _ _ _ _ (ap (λ x. called (shape x)) c.in-Bin.is
    ∙ (λ j. called (shape (sym c.deref-in-Bin.ensures j)) ++ called (shape (sym c.deref-in-Bin-2.ensures j)))) c.in_ok-push_calls-in-Bin.ensures c.push_calls-in-Bin-2.ensures

pub push_calls-returns-in_ok-push_calls-in-Imported : goal.push_calls-returns-in_ok-push_calls-in-Imported
push_calls-returns-in_ok-push_calls-in-Imported t c =
    two_called _ _ _ _ _ _ _ (ap (λ x. called (shape x)) c.in-Imported.is
    ∙ (λ j. called (shape (sym c.deref-in-Imported.ensures j)) ++ called (shape (sym c.deref-in-Imported-2.ensures j)))) c.in_ok-push_calls-in-Imported.ensures c.push_calls-in-Imported-2.ensures

pub push_calls-returns-in_ok-push_calls-in-Merge : goal.push_calls-returns-in_ok-push_calls-in-Merge
push_calls-returns-in_ok-push_calls-in-Merge t c =
    two_called _ _ _ _ _ _ _ (ap (λ x. called (shape x)) c.in-Merge.is
    ∙ (λ j. called (shape (sym c.deref-in-Merge.ensures j)) ++ called (shape (sym c.deref-in-Merge-2.ensures j)))) c.in_ok-push_calls-in-Merge.ensures c.push_calls-in-Merge-2.ensures

pub push_calls-returns-in_ok-push_calls-in-Follow : goal.push_calls-returns-in_ok-push_calls-in-Follow
push_calls-returns-in_ok-push_calls-in-Follow t c =
    two_called _ _ _ _ _ _ _ (ap (λ x. called (shape x)) c.in-Follow.is
    ∙ (λ j. called (shape (sym c.deref-in-Follow.ensures j)) ++ called (shape (sym c.deref-in-Follow-2.ensures j)))) c.in_ok-push_calls-in-Follow.ensures c.push_calls-in-Follow-2.ensures

pub push_calls-returns-in_ok-push_calls-in-Arrow : goal.push_calls-returns-in_ok-push_calls-in-Arrow
push_calls-returns-in_ok-push_calls-in-Arrow t c =
    two_called _ _ _ _ _ _ _ (ap (λ x. called (shape x)) c.in-Arrow.is
    ∙ (λ j. called (shape (sym c.deref-in-Arrow.ensures j)) ++ called (shape (sym c.deref-in-Arrow-2.ensures j)))) c.in_ok-push_calls-in-Arrow.ensures c.push_calls-in-Arrow-2.ensures

pub push_calls-returns-in_ok-push_calls-in-If-2 : goal.push_calls-returns-in_ok-push_calls-in-If-2
push_calls-returns-in_ok-push_calls-in-If-2 t c =
    two_called _ _ _ _ _ _ _ (ap (λ x. called (shape x)) c.in-If.is
    ∙ (λ j. called (shape (sym c.deref-in-If.ensures j)) ++ (called (shape (sym c.deref-in-If-2.ensures j)) ++ called (shape (sym c.deref-in-If-3.ensures j)))))
    c.in_ok-push_calls-in-If.ensures
    (two_called _ _ _ _ _ _ _ refl c.in_ok-push_calls-in-If-2.ensures c.push_calls-in-If-3.ensures)
