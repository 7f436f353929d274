use Rattle.std.proofs.Common.{◌≡◌, ◌<◌, ◌≤◌, ◌-◌, ◌^◌, ℕ, min, Some, None, List, length, get_or, sym, ap, ◌∙◌, subst, arith}
use Rattle.std.specs.Prelude.{codes, nat_lt, if◌then◌else◌}
use Rattle.std.proofs.lemmas.Bool.Decides.{nat_tests}
use Rattle.lt_syntax.specs.declared.tree.NodeText.{NodeText}
use Rattle.lt_resolve.specs.declared.fault.NameKind.TheVariants.{Limit}
use Rattle.lt_resolve.specs.Names.{Name}
use Rattle.lt_resolve.specs.Faults.{above, size}
use Rattle.lt_resolve.specs.Told.{RefusesName}
use Rattle.lt_resolve.specs.Checks.{variables_limit}
use Rattle.lt_resolve.proofs.Lists.{in_next, in_none}
use Rattle.lt_resolve.proofs.Located.{blames_at}
use Rattle.lt_resolve.proofs.checks.few_variables.Goals as goal

-- a quantity that is cut at the greatest number is above the limit where it was before
cut_above : (n cut : ℕ) (word : Name) → cut ≡ min n (2 ^ 64 - 1) → above 4096 cut word ≡ above 4096 n word
cut_above n cut word e = ap (λ b. if b then Some word else None) same
  where
    same : nat_lt 4096 cut ≡ nat_lt 4096 n
    same = grind (arith, nat_tests)

pub scopes-preserved : goal.scopes-preserved
scopes-preserved c =
    let t = c.args.tables.now in
    let n = c.scope-item.result in
    let i = c.scopes.i in
    in_next (λ _. variables_limit) t i n
    (subst (λ (s : List NodeText). i < length s) c.scopes-scope-items.ensures c.scopes-test.true)
    (subst (λ (s : List NodeText). n ≡ get_or s i n) c.scopes-scope-items.ensures c.scope-item.is)
    (sym (cut_above (size n) c.size.result (codes "variables") c.size.ensures) ∙ c.in-Ok.ensures.told) c.scopes.invariant

pub returns-in-Err-clause-shown : goal.returns-in-Err-clause-shown
returns-in-Err-clause-shown c =
    let t = c.args.tables.now in
    let n = c.scope-item.result in
    let i = c.scopes.i in
    blames_at Limit (λ _. variables_limit) t i n c.in-Err.error c.locate_fault.result
    (subst (λ (s : List NodeText). i < length s) c.scopes-scope-items.ensures c.scopes-test.true)
    (subst (λ (s : List NodeText). n ≡ get_or s i n) c.scopes-scope-items.ensures c.scope-item.is)
    c.scopes.invariant c.locate_fault.ensures (subst (λ o. RefusesName o c.in-Err.error) (cut_above (size n) c.size.result (codes "variables") c.size.ensures) c.in-Err.ensures.told)

pub returns-clause-shown : goal.returns-clause-shown
returns-clause-shown c =
    let t = c.args.tables.now in
    sym (in_none (λ _. variables_limit) t c.scopes.i (subst (λ (s : List NodeText). length s ≤ c.scopes.i) c.scopes-scope-items.ensures c.scopes-test.false) c.scopes.invariant)
