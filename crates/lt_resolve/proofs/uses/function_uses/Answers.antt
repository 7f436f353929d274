use Rattle.std.proofs.Common.{◌-◌, ◌^◌, ◌++◌, min, ap, ◌∙◌}
use Rattle.lt_resolve.specs.Uses.{sites_in, term_delays}
use Rattle.lt_resolve.proofs.Used.{more_sites, more_delays}
use Rattle.lt_resolve.proofs.uses.function_uses.Goals as goal

pub eqs-preserved : goal.eqs-preserved
eqs-preserved c =
    let funcs = c.args.functions.now in
    let items = c.deref-eq-items.result.now in
    record {
      sites = more_sites funcs c.args.caller items c.eqs.eq-index c.eq-item.result c.args.uses.now.calls.items c.eqs.uses.calls.items c.collect.new.calls.items c.eqs-test.true c.eq-item.is c.eqs.invariant.sites
          (c.in_ok-collect.ensures ∙ ap (λ z. c.eqs.uses.calls.items ++ sites_in funcs c.args.caller z) c.right.ensures);
      sum = more_delays items c.eqs.eq-index c.eq-item.result c.eqs.sum c.delays.result c.saturating_add-sum.result c.eqs-test.true c.eq-item.is c.eqs.invariant.sum
          (c.delays.ensures ∙ ap (λ z. min (term_delays z) (2 ^ 64 - 1)) c.right-in-eqs.ensures) c.saturating_add-sum.ensures;
      kept = c.eqs.invariant.kept;
    }
