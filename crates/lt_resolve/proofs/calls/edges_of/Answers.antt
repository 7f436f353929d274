use Rattle.std.proofs.Common.{ℕ, ◌++◌, Vec, Global, sym, ap, ◌∙◌, append-nil}
use Rattle.lt_resolve.specs.Uses.{Site, edge}
use Rattle.lt_resolve.proofs.Edges.{edges_next}
use Rattle.lt_resolve.proofs.calls.edges_of.Goals.{in-Some+in_ok-push, in_default}
use Rattle.lt_resolve.proofs.calls.edges_of.Goals as goal

pub calls-preserved : goal.calls-preserved
calls-preserved c =
    let before = c.calls.list.items in
    let here = ap (λ (s : Site). edge s.caller s.callee) (sym c.call.view_is) in
    elim c.match-call.branch [
      | in-Some+in_ok-push w ↦ edges_next c.args.calls.now c.calls.call-index c.call-item.result before c.match-call.list.items _ c.calls-test.true c.call-item.is
          (ap (λ (v : Vec (ℕ × ℕ) Global). v.items) w.list-is ∙ w.in_ok-push.ensures.items ∙ ap (λ e. before ++ e) (sym (here ∙ ap (edge c.call.inside.caller) w.in-Some.is)))
          c.calls.invariant
      | in_default w ↦ edges_next c.args.calls.now c.calls.call-index c.call-item.result before c.match-call.list.items _ c.calls-test.true c.call-item.is
          (ap (λ (v : Vec (ℕ × ℕ) Global). v.items) w.list-is ∙ sym (append-nil before) ∙ ap (λ e. before ++ e) (sym (here ∙ ap (edge c.call.inside.caller) w.in_default.is)))
          c.calls.invariant
    ]
