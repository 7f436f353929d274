use Rattle.std.proofs.Common.{◌<◌, ◌≤◌, ◌^◌, length, sym, subst, ◌∙◌}
use Rattle.std.specs.List.{All}
use Rattle.lt_place.specs.declared.layout.Part.{Part}
use Rattle.lt_place.specs.Sizes.{IsCompilable}
use Rattle.lt_c_node.specs.NodeOf.{IsFeedOf}
use Rattle.lt_c_node.proofs.Placed.{counts, starts, few_crossings, part_compiles, few_decls, feeds_fit, feeds_are}
use Rattle.lt_c_node.proofs.building.node_of.Goals as goal

pub regime_of-regime-requires : goal.regime_of-regime-requires
regime_of-regime-requires c =
    let p = c.requires.placed in
    subst (λ k. c.args.node < k) (counts p.0 c.args.layout.now p.1 p.2 ∙ sym c.requires.timed) c.requires.node

pub part_code-requires-clause-compiles : goal.part_code-requires-clause-compiles
part_code-requires-clause-compiles c =
    let p = c.requires.placed in
    subst (λ (q : Part). IsCompilable q.flat.func) (sym c.part_of.ensures) (part_compiles p.0 c.args.layout.now p.1 p.2 c.parts_compile.ensures c.args.node c.requires.node)

pub part_code-requires-clause-fed : goal.part_code-requires-clause-fed
part_code-requires-clause-fed c =
    let p = c.requires.placed in
    subst (λ (q : Part). length q.feeds ≤ length q.flat.func.decls) (sym c.part_of.ensures) (feeds_fit p.0 c.args.layout.now p.1 p.2 c.parts_compile.ensures c.args.node c.requires.node)

pub part_code-requires-clause-few : goal.part_code-requires-clause-few
part_code-requires-clause-few c =
    let p = c.requires.placed in
    subst (λ (q : Part). length q.flat.func.decls < 2 ^ 32) (sym c.part_of.ensures) (few_decls p.0 c.args.layout.now p.1 p.2 c.parts_compile.ensures c.args.node c.requires.node)

pub part_code-requires-clause-feeds : goal.part_code-requires-clause-feeds
part_code-requires-clause-feeds c =
    let p = c.requires.placed in
    subst (λ (q : Part). All (IsFeedOf c.args.layout.now) q.feeds) (sym c.part_of.ensures) (feeds_are p.0 c.args.layout.now p.1 p.2 c.parts_compile.ensures c.args.node c.requires.node)

pub links_of-requires-clause-starts : goal.links_of-requires-clause-starts
links_of-requires-clause-starts c =
    let p = c.requires.placed in
    starts p.0 c.args.layout.now p.1 p.2

pub links_of-requires-clause-few : goal.links_of-requires-clause-few
links_of-requires-clause-few c =
    let p = c.requires.placed in
    few_crossings p.0 c.args.layout.now p.1 p.2
