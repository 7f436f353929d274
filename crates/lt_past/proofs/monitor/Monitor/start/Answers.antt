use Rattle.std.proofs.Common.{◌++◌, length, ◌∙◌, ap, sym, subst}
use Rattle.lt_past.specs.Formula.{SignalsBelow}
use Rattle.lt_past.specs.Parts.{parts_of}
use Rattle.lt_past.specs.Views.{formula_of}
use Rattle.lt_past.proofs.Fitting.{parts_fit}
use Rattle.lt_past.proofs.monitor.Monitor.start.Goals as goal

pub invariant_of-result : goal.invariant_of-result
invariant_of-result c =
    let f = formula_of c.observer.inside.formula in
    record {
      fit = parts_fit c.len-2.result f (subst (λ m. SignalsBelow m f) (sym c.len-2.ensures) c.observer.invariant.placed) c.add_parts.new.parts.items
          (c.in_ok-add_parts.ensures ∙ ap (λ z. z ++ parts_of (length z) f) c.new-parts.ensures.items);
      each = sym c.in_ok-values.values.ok.0 ∙ c.in_ok-values.ensures.len ∙ c.len.ensures ∙ c.add_parts.new.parts.ok.0;
    }
