use Rattle.lt_expand.specs.Walk.{library_of}
use Rattle.lt_expand.proofs.Opening.{open_lefts, made_good, made_form, made_origins}
use Rattle.lt_expand.proofs.function.open.Goals as goal

pub open_equations-requires-clause-lefts : goal.open_equations-requires-clause-lefts
open_equations-requires-clause-lefts c = open_lefts (library_of c.args.versions.now) _ c.args.f.now c.f.view_is c.invariant_holds.ensures

pub new-func-requires : goal.new-func-requires
new-func-requires c =
    made_good _ _ c.args.f.now c.f.view_is c.in_ok-name.name c.of.result _ c.in_ok-outs.outs c.of-2.result _ _ _ _ c.in_ok-opening.ensures c.in_ok-name.ensures c.of.ensures c.in_ok-outs.ensures c.of-2.ensures c.in_ok-append.ensures.items c.requires.good

pub returns-clause-form : goal.returns-clause-form
returns-clause-form c =
    made_form _ _ c.args.f.now c.f.view_is c.in_ok-name.name c.of.result _ c.in_ok-outs.outs c.of-2.result _ _ _ _ c.in_ok-opening.ensures c.in_ok-name.ensures c.of.ensures c.in_ok-outs.ensures c.of-2.ensures c.in_ok-append.ensures.items
    c.new-func.result c.new-func.ensures

pub returns-clause-origins : goal.returns-clause-origins
returns-clause-origins c =
    made_origins _ _ c.args.f.now c.f.view_is c.in_ok-name.name c.of.result _ c.in_ok-outs.outs c.of-2.result _ _ _ _ c.in_ok-opening.ensures c.in_ok-name.ensures c.of.ensures c.in_ok-outs.ensures c.of-2.ensures c.in_ok-append.ensures.items
    c.of-3.result c.of-3.ensures
