use Rattle.std.proofs.Common.{◌≡◌, Some, None, refl, reverse, ap, ◌∙◌, subst}
use Rattle.lt_resolve.specs.Names.{number_of_name, if_missing}
use Rattle.lt_resolve.specs.Named.{IsPair}
use Rattle.lt_resolve.proofs.Lists.{some_next}
use Rattle.lt_resolve.proofs.Pairs.{along_more, reverse_cons}
use Rattle.lt_resolve.proofs.function.clock.Goals as goal

pub pairs-preserved : goal.pairs-preserved
pairs-preserved c =
    let vars = c.args.variables.now in
    let items = c.deref-pair-items.result.now in
    record {
      rest = some_next (λ p. if_missing vars p.0) items c.pairs.pair-index c.pair-item.result c.pairs-test.true c.pair-item.is (subst (λ x. if_missing vars x ≡ None) c.as_str.ensures c.in_ok-find.ensures.told) c.pairs.invariant.rest;
      along = along_more (IsPair vars) items c.pairs.pair-index c.pair-item.result (reverse c.pairs.clock) (reverse c.in_ok-clock.clock) (c.in_ok-find.field-0, c.pair-item.result.1) c.pairs-test.true c.pair-item.is c.pairs.invariant.along
          (subst (λ x. number_of_name vars x ≡ Some c.in_ok-find.field-0) c.as_str.ensures c.in_ok-find.ensures.number, refl)
          (ap reverse c.in_ok-clock.ensures ∙ reverse_cons (c.in_ok-find.field-0, c.pair-item.result.1) c.pairs.clock);
    }
