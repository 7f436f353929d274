use Rattle.std.proofs.Common.{◌≡◌, get_or, length, sym, ap, ◌∙◌, subst}
use Rattle.std.specs.Option.{MatchOption}
use Rattle.lt_base.specs.Graph.{NoClosedWalk}
use Rattle.lt_graph.specs.Edges.{AreWithin, Joined, IsFirstCircular}
use Rattle.lt_syntax.specs.declared.tree.NodeText.{NodeText}
use Rattle.lt_resolve.specs.Uses.{edges}
use Rattle.lt_resolve.proofs.Edges.{blames_recursion}
use Rattle.lt_resolve.proofs.calls.no_recursion.Goals as goal

pub returns : goal.returns
returns c =
    let t = c.args.tables.now in
    let es = c.in_ok-edges.edges.items in
    let e = c.index.result.now in
    let first : IsFirstCircular es c.in-Some.place =
    subst (λ l. IsFirstCircular l c.in-Some.place) c.deref.ensures.value
    (subst (λ o. MatchOption o (NoClosedWalk (Joined c.deref.result.now)) (IsFirstCircular c.deref.result.now)) c.in-Some.is c.in_ok-first_circular.ensures) in
    blames_recursion t es (c.in_ok-edges.ensures ∙ ap edges c.requires.calls) c.in-Some.place e c.index-scopes-callee.result c.as_str-name.result first c.index.ensures
    (subst (AreWithin (length t)) (sym c.in_ok-edges.ensures) c.requires.within)
    (subst (λ l. c.index-scopes-callee.result ≡ get_or l e.1 c.index-scopes-callee.result) c.scopes-scopes.ensures c.index-scopes-callee.is)
    (c.as_str-name.ensures ∙ ap (λ (n : NodeText). n.name) c.node.ensures) c.locate_fault.result c.locate_fault.ensures
