use Rattle.std.proofs.Common.{◌≡◌, ◌∙◌, ◌<◌, Err, ap, subst, All, take, length, get_or, List}
use Rattle.std.proofs.lemmas.List.{take_all}
use Rattle.lt_base.specs.Program.{WholeProgram, Function}
use Rattle.lt_base.specs.Dependence.{Causal}
use Rattle.lt_front.proofs.Rooms.{function_here}
use Rattle.lt_front.proofs.Refused.{first_circle}
use Rattle.lt_front.proofs.causality.causality.Goals as goal

pub returns-in-Err : goal.returns-in-Err
returns-in-Err c =
    let items = c.deref-f-items.result.now in
    let same : items ≡ c.args.p.now.funcs = c.deref-f-items.ensures ∙ ap (λ (p : WholeProgram). p.funcs) c.p.view_is in
    first_circle c.args.p.now c.loop-number.number _ _ c.of_function.ensures
    (λ cycle is.
    record {
      before = subst (λ (fs : List Function). All Causal (take c.loop-number.number fs)) same c.loop-number.invariant;
      here = function_here _ c.args.p.now.funcs c.loop-number.number c.f-item.result
          (subst (λ (fs : List Function). c.loop-number.number < length fs) same c.loop-number-test.true)
          (subst (λ (fs : List Function). c.f-item.result ≡ get_or fs c.loop-number.number c.f-item.result) same c.f-item.is)
          (c.in-Err.ensures.cycle cycle (λ j. Err (is j)));
    })

pub returns : goal.returns
returns c =
    let same = c.deref-f-items.ensures ∙ ap (λ (p : WholeProgram). p.funcs) c.p.view_is in
    subst (All Causal) (take_all c.loop-number.number c.deref-f-items.result.now c.loop-number-test.false ∙ same) c.loop-number.invariant
