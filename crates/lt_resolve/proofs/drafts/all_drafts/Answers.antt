use Rattle.std.proofs.Common.{◌≡◌, ◌<◌, ◌≤◌, ◌++◌, ◌∷◌, [], List, None, length, get_or, map, sym, ap, ◌∙◌, subst}
use Rattle.std.proofs.lemmas.List.{map-append, take_all}
use Rattle.std.proofs.lemmas.List.Elements.{All-push, All-same}
use Rattle.lt_syntax.specs.declared.tree.NodeText.{NodeText}
use Rattle.lt_resolve.specs.declared.fault.NameKind.TheVariants.{Unknown}
use Rattle.lt_resolve.specs.declared.function.Draft.{Draft}
use Rattle.lt_resolve.specs.Names.{Name}
use Rattle.lt_resolve.specs.Scopes.{functions}
use Rattle.lt_resolve.specs.Faults.{unknown_in}
use Rattle.lt_resolve.specs.Told.{RefusesName}
use Rattle.lt_resolve.specs.Drafts.{IsDraft}
use Rattle.lt_resolve.proofs.Lists.{in_next, in_none}
use Rattle.lt_resolve.proofs.Located.{blames_at, one_more}
use Rattle.lt_resolve.proofs.drafts.all_drafts.Goals as goal

pub returns-in-Err-clause-shown : goal.returns-in-Err-clause-shown
returns-in-Err-clause-shown c =
    let t = c.args.tables.now in
    let n = c.index-scopes-i.result in
    let same = c.scopes-scopes.ensures in
    blames_at Unknown (λ _. unknown_in (functions t)) t c.scopes.i n c.in-Err.error c.locate_fault.result
    (subst (λ (s : List NodeText). c.scopes.i < length s) same c.scopes-test.true)
    (subst (λ (s : List NodeText). n ≡ get_or s c.scopes.i n) same c.index-scopes-i.is)
    c.scopes.invariant.rest c.locate_fault.ensures
    (subst (λ (fs : List Name). RefusesName (unknown_in fs n) c.in-Err.error) c.functions.ensures c.in-Err.ensures.told)

pub scopes-preserved : goal.scopes-preserved
scopes-preserved c =
    let t = c.args.tables.now in
    let n = c.index-scopes-i.result in
    let d = c.in-Ok.draft in
    let node : Draft → NodeText = λ d. d.node.now in
    let old = c.scopes.drafts.items in
    let pushed = c.in_ok-push-in-Ok.ensures.items in
    let less = subst (λ (s : List NodeText). c.scopes.i < length s) c.scopes-scopes.ensures c.scopes-test.true in
    let at = subst (λ (s : List NodeText). n ≡ get_or s c.scopes.i n) c.scopes-scopes.ensures c.index-scopes-i.is in
    record {
      nodes = one_more t (map node old) (map node c.push.new.self.items) c.scopes.i n d.node.now less at c.scopes.invariant.nodes c.in-Ok.ensures.node (ap (map node) pushed ∙ map-append node old (d ∷ []));
      all = All-same (IsDraft (functions t)) c.push.new.self.items (old ++ d ∷ []) pushed (All-push (IsDraft (functions t)) old d c.scopes.invariant.all (subst (λ (fs : List Name). IsDraft fs d) c.functions.ensures c.in-Ok.ensures.draft));
      rest = in_next (λ _. unknown_in (functions t)) t c.scopes.i n less at (subst (λ (fs : List Name). unknown_in fs n ≡ None) c.functions.ensures c.in-Ok.ensures.told) c.scopes.invariant.rest;
    }

pub returns-clause-shown : goal.returns-clause-shown
returns-clause-shown c =
    let t = c.args.tables.now in
    sym (in_none (λ _. unknown_in (functions t)) t c.scopes.i (subst (λ (s : List NodeText). length s ≤ c.scopes.i) c.scopes-scopes.ensures c.scopes-test.false) c.scopes.invariant.rest)

pub returns-clause-drafts : goal.returns-clause-drafts
returns-clause-drafts c =
    let t = c.args.tables.now in
    record {
      nodes = c.scopes.invariant.nodes ∙ take_all c.scopes.i t (subst (λ (s : List NodeText). length s ≤ c.scopes.i) c.scopes-scopes.ensures c.scopes-test.false);
      all = c.scopes.invariant.all;
    }
