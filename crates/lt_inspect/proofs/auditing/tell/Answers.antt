use Rattle.std.proofs.Common.{◌∙◌, sym, subst}
use Rattle.lt_arch.specs.declared.shape.Shape.{Shape}
use Rattle.lt_inspect.specs.Placed.{IsOfShape}
use Rattle.lt_inspect.proofs.ToldFirst.{of_shape}
use Rattle.lt_inspect.proofs.auditing.tell.Goals as goal

pub invariant_of-result : goal.invariant_of-result
invariant_of-result c =
    let s = c.requires.0 in
    let t = c.requires.1.0 in
    let rows = c.requires.1.1.0 in
    let es = c.requires.1.1.1.0 in
    let stands = c.requires.1.1.1.1 in
    record {
      placed = subst (λ (q : Shape). IsOfShape q c.miss.result) (sym (c.in_ok-shape.ensures ∙ c.shape.ensures ∙ stands.state.shape)) (of_shape s t rows es c.miss.result (c.miss.ensures s t rows es stands));
    }
