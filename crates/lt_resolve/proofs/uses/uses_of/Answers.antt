use Rattle.std.proofs.Common.{◌≡◌, ◌<◌, ◌≤◌, ◌++◌, ◌∷◌, [], List, length, get_or, map, sym, ap, ◌∙◌, append-nil, subst}
use Rattle.lt_syntax.specs.declared.tree.NodeText.{NodeText}
use Rattle.lt_resolve.specs.Scopes.{functions}
use Rattle.lt_resolve.specs.Uses.{equation_sites, sites_from, all_delays}
use Rattle.lt_resolve.specs.Faults.{sites}
use Rattle.std.proofs.lemmas.List.{take_all}
use Rattle.lt_resolve.proofs.Lists.{drop_whole}
use Rattle.lt_resolve.proofs.Used.{more_calls, more_counts}
use Rattle.lt_resolve.proofs.uses.uses_of.Goals as goal

pub scopes-preserved : goal.scopes-preserved
scopes-preserved c =
    let t = c.args.tables.now in
    let n = c.index-scopes-i.result in
    let less = subst (λ (s : List NodeText). c.scopes.i < length s) c.scopes-scopes.ensures c.scopes-test.true in
    let at = subst (λ (s : List NodeText). n ≡ get_or s c.scopes.i n) c.scopes-scopes.ensures c.index-scopes-i.is in
    let mid = c.scopes.uses in
    record {
      calls = more_calls (functions t) t c.scopes.i n (sites t) mid.calls.items _ less at c.scopes.invariant.calls
          (c.in_ok-function_uses.ensures.calls ∙ (λ j. mid.calls.items ++ equation_sites (c.functions.ensures j) c.scopes.i (c.node.ensures j).eqs));
      delays = more_counts t c.scopes.i n [] mid.delays.items _ less at c.scopes.invariant.delays
          (c.in_ok-function_uses.ensures.delays ∙ (λ j. mid.delays.items ++ all_delays (c.node.ensures j).eqs ∷ []));
    }

pub returns-clause-calls : goal.returns-clause-calls
returns-clause-calls c =
    let t = c.args.tables.now in
    let calls = c.scopes.uses.calls.items in
    let whole = subst (λ (s : List NodeText). length s ≤ c.scopes.i) c.scopes-scopes.ensures c.scopes-test.false in
    sym (append-nil calls) ∙ ap (λ l. calls ++ sites_from (functions t) c.scopes.i l) (sym (drop_whole t c.scopes.i whole)) ∙ c.scopes.invariant.calls

pub returns-clause-delays : goal.returns-clause-delays
returns-clause-delays c =
    let t = c.args.tables.now in
    let whole = subst (λ (s : List NodeText). length s ≤ c.scopes.i) c.scopes-scopes.ensures c.scopes-test.false in
    c.scopes.invariant.delays ∙ ap (map (λ (n : NodeText). all_delays n.eqs)) (take_all c.scopes.i t whole)
