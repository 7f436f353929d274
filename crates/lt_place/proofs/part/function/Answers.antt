use Rattle.std.proofs.Common.{◌<◌, ◌∙◌, ap, sym, subst, map, get_or, length, All}
use Rattle.std.specs.List.{filter}
use Rattle.lt_base.specs.Program.{GoodFunction}
use Rattle.lt_base.specs.Calls.{EachCall}
use Rattle.lt_norm.specs.Flat.{FlatFunction}
use Rattle.lt_place_reads.proofs.Lefts.{lefts_below}
use Rattle.lt_place.specs.Spread.{own_of, own_decl, own_equation, stays, no_decl}
use Rattle.lt_place.proofs.Splitting.{splits}
use Rattle.lt_place.proofs.Parts.{is_good, is_flat, made, own_size, outs_own, flat_calls}
use Rattle.lt_place.proofs.part.function.Goals as goal

pub own_outs-requires : goal.own_outs-requires
own_outs-requires c =
    subst (λ os. All (λ x. x < length os) c.args.outs.now) (sym c.as_slice-own.ensures.value) (subst (All (λ x. x < length c.args.m.now.own.items)) (sym c.requires.outs) (outs_own c.args.f.now c.invariant_holds.ensures.good c.invariant_holds.ensures.flat c.args.s.now.nodes.items c.requires.spread.size c.args.s.now.fed.items c.args.n c.args.m.now.list.items c.args.m.now.own.items c.args.m.now.inputs c.requires.members (splits c.args.f.now c.invariant_holds.ensures.good c.invariant_holds.ensures.flat c.args.s.now.nodes.items c.requires.local c.requires.spread.readers c.requires.spread.reads c.args.s.now.cross.items c.args.s.now.places.items c.requires.spread.places c.args.s.now.fed.items c.requires.spread.fed) c.args.s.now.given.items))

pub own_equations-requires-clause-lefts : goal.own_equations-requires-clause-lefts
own_equations-requires-clause-lefts c =
    subst (λ n. All (λ q. q.0 < n) c.equations.result.now) (sym (ap length c.as_slice-own.ensures.value ∙ own_size c.args.f.now c.invariant_holds.ensures.good c.invariant_holds.ensures.flat c.args.s.now.nodes.items c.requires.spread.size c.args.s.now.fed.items c.args.n c.args.m.now.list.items c.args.m.now.own.items c.args.m.now.inputs c.requires.members (splits c.args.f.now c.invariant_holds.ensures.good c.invariant_holds.ensures.flat c.args.s.now.nodes.items c.requires.local c.requires.spread.readers c.requires.spread.reads c.args.s.now.cross.items c.args.s.now.places.items c.requires.spread.places c.args.s.now.fed.items c.requires.spread.fed) c.args.s.now.given.items))
    (subst (All (λ q. q.0 < length c.args.f.now.func.decls)) (sym c.equations.ensures) (lefts_below c.args.f.now c.invariant_holds.ensures.good))

pub own_equations-requires-clause-callless : goal.own_equations-requires-clause-callless
own_equations-requires-clause-callless c = subst (All (λ q. EachCall (λ g. ⊥) q.1)) (sym c.equations.ensures) (flat_calls c.args.f.now c.invariant_holds.ensures.flat)

pub new-func-requires : goal.new-func-requires
new-func-requires c = subst GoodFunction (sym (made c.args.f.now c.invariant_holds.ensures.good c.invariant_holds.ensures.flat c.args.s.now.nodes.items c.requires.spread.size c.args.s.now.fed.items c.args.n c.args.m.now.list.items c.args.m.now.own.items c.args.m.now.inputs c.requires.members (splits c.args.f.now c.invariant_holds.ensures.good c.invariant_holds.ensures.flat c.args.s.now.nodes.items c.requires.local c.requires.spread.readers c.requires.spread.reads c.args.s.now.cross.items c.args.s.now.places.items c.requires.spread.places c.args.s.now.fed.items c.requires.spread.fed) c.args.s.now.given.items (record { name = c.in_ok-name.name; decls = c.of.result; n_in = c.args.m.now.inputs; outs = c.of-2.result; eqs = c.of-3.result })
    (c.in_ok-name.ensures ∙ c.name.ensures)
    (c.of.ensures ∙ c.in_ok-decls.ensures ∙ (λ i. map (λ x. own_decl (c.as_slice-own.ensures.value i) (get_or (c.decls.ensures i) x no_decl)) (c.deref.ensures.value i)))
    (λ i. c.args.m.now.inputs)
    (c.of-2.ensures ∙ c.in_ok-outs.ensures ∙ (λ i. map (own_of (c.as_slice-own.ensures.value i)) (c.requires.outs i)))
    (c.of-3.ensures ∙ c.in_ok-eqs.ensures ∙ (λ i. map (own_equation (c.as_slice-own.ensures.value i)) (filter (stays (c.deref-2.ensures.value i) (c.deref-3.ensures.value i) c.args.n) (c.equations.ensures i)))))) (is_good c.args.f.now c.invariant_holds.ensures.good c.invariant_holds.ensures.flat c.args.s.now.nodes.items c.requires.spread.size c.args.s.now.fed.items c.args.n c.args.m.now.list.items c.args.m.now.own.items c.args.m.now.inputs c.requires.members (splits c.args.f.now c.invariant_holds.ensures.good c.invariant_holds.ensures.flat c.args.s.now.nodes.items c.requires.local c.requires.spread.readers c.requires.spread.reads c.args.s.now.cross.items c.args.s.now.places.items c.requires.spread.places c.args.s.now.fed.items c.requires.spread.fed) c.args.s.now.given.items)

pub returns-clause-flat : goal.returns-clause-flat
returns-clause-flat c = subst FlatFunction (sym (c.new-func.ensures ∙ made c.args.f.now c.invariant_holds.ensures.good c.invariant_holds.ensures.flat c.args.s.now.nodes.items c.requires.spread.size c.args.s.now.fed.items c.args.n c.args.m.now.list.items c.args.m.now.own.items c.args.m.now.inputs c.requires.members (splits c.args.f.now c.invariant_holds.ensures.good c.invariant_holds.ensures.flat c.args.s.now.nodes.items c.requires.local c.requires.spread.readers c.requires.spread.reads c.args.s.now.cross.items c.args.s.now.places.items c.requires.spread.places c.args.s.now.fed.items c.requires.spread.fed) c.args.s.now.given.items (record { name = c.in_ok-name.name; decls = c.of.result; n_in = c.args.m.now.inputs; outs = c.of-2.result; eqs = c.of-3.result })
    (c.in_ok-name.ensures ∙ c.name.ensures)
    (c.of.ensures ∙ c.in_ok-decls.ensures ∙ (λ i. map (λ x. own_decl (c.as_slice-own.ensures.value i) (get_or (c.decls.ensures i) x no_decl)) (c.deref.ensures.value i)))
    (λ i. c.args.m.now.inputs)
    (c.of-2.ensures ∙ c.in_ok-outs.ensures ∙ (λ i. map (own_of (c.as_slice-own.ensures.value i)) (c.requires.outs i)))
    (c.of-3.ensures ∙ c.in_ok-eqs.ensures ∙ (λ i. map (own_equation (c.as_slice-own.ensures.value i)) (filter (stays (c.deref-2.ensures.value i) (c.deref-3.ensures.value i) c.args.n) (c.equations.ensures i)))))) (is_flat c.args.f.now c.invariant_holds.ensures.good c.invariant_holds.ensures.flat c.args.s.now.nodes.items c.requires.spread.size c.args.s.now.fed.items c.args.n c.args.m.now.list.items c.args.m.now.own.items c.args.m.now.inputs c.requires.members (splits c.args.f.now c.invariant_holds.ensures.good c.invariant_holds.ensures.flat c.args.s.now.nodes.items c.requires.local c.requires.spread.readers c.requires.spread.reads c.args.s.now.cross.items c.args.s.now.places.items c.requires.spread.places c.args.s.now.fed.items c.requires.spread.fed) c.args.s.now.given.items)
