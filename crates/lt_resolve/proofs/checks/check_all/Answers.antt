use Rattle.std.proofs.Common.{◌≡◌, ◌<◌, ◌≤◌, List, length, get_or, sym, subst}
use Rattle.lt_syntax.specs.declared.tree.NodeText.{NodeText}
use Rattle.lt_resolve.specs.Checks.{found, check_kind, Locates}
use Rattle.lt_resolve.proofs.Lists.{in_next, in_none}
use Rattle.lt_resolve.proofs.Located.{blames_at}
use Rattle.lt_resolve.proofs.checks.check_all.Goals as goal

pub returns-in-Err-clause-shown : goal.returns-in-Err-clause-shown
returns-in-Err-clause-shown c =
    let t = c.args.tables.now in
    let n = c.scope-item.result in
    let i = c.scopes.i in
    blames_at (check_kind c.args.check) (λ _. found c.args.check) t i n c.in-Err.error c.locate_fault.result
    (subst (λ (s : List NodeText). i < length s) c.scopes-scope-items.ensures c.scopes-test.true)
    (subst (λ (s : List NodeText). n ≡ get_or s i n) c.scopes-scope-items.ensures c.scope-item.is)
    c.scopes.invariant (subst (λ k. Locates k i c.in-Err.error c.locate_fault.result) c.kind_of.ensures c.locate_fault.ensures) c.in-Err.ensures.told

pub scopes-preserved : goal.scopes-preserved
scopes-preserved c =
    let t = c.args.tables.now in
    let n = c.scope-item.result in
    let i = c.scopes.i in
    in_next (λ _. found c.args.check) t i n
    (subst (λ (s : List NodeText). i < length s) c.scopes-scope-items.ensures c.scopes-test.true)
    (subst (λ (s : List NodeText). n ≡ get_or s i n) c.scopes-scope-items.ensures c.scope-item.is)
    c.in-Ok.ensures.told c.scopes.invariant

pub returns-clause-shown : goal.returns-clause-shown
returns-clause-shown c =
    let t = c.args.tables.now in
    sym (in_none (λ _. found c.args.check) t c.scopes.i (subst (λ (s : List NodeText). length s ≤ c.scopes.i) c.scopes-scope-items.ensures c.scopes-test.false) c.scopes.invariant)
