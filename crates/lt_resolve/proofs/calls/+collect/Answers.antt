use Rattle.std.proofs.Common.{◌++◌, List, map, length, refl}
use Rattle.lt_syntax.specs.declared.term.Term.{Term}
use Rattle.lt_syntax.specs.Tree.{Call, tms}
use Rattle.lt_syntax.specs.Views.{tm_of}
use Rattle.lt_resolve.specs.Uses.{Site, sites_in}
use Rattle.lt_resolve.proofs.Sites.{collected, sites_then, sites_next, sites_end}
use Rattle.lt_resolve.proofs.calls.+collect.Goals as goal

pub collect_call-returns : goal.collect_call-returns
collect_call-returns t c =
    let args = c.args.args.now in
    collected c.args.functions.now c.args.caller c.args.f.now c.as_str-name.result.now args args (Call c.args.f.now (tms (map tm_of args))) c.number.result (length args)
    refl c.as_str-name.ensures c.number.ensures refl refl c.collect_arguments.result c.args.calls.now.items c.push.new.self.items c.collect_arguments.new.calls.items c.in_ok-push.ensures.items c.collect_arguments.ensures

pub collect_choice-returns : goal.collect_choice-returns
collect_choice-returns t c =
    let S : Term → List Site = λ s. sites_in c.args.functions.now c.args.caller (tm_of s) in
    let x = S c.args.c.now in
    let y = S c.args.a.now ++ S c.args.b.now in
    sites_then c.collect_pair.result c.args.calls.now.items c.collect.new.calls.items c.collect_pair.new.calls.items x y (x ++ y)
    refl c.in_ok-collect.ensures c.collect_pair.ensures

pub collect_pair-returns : goal.collect_pair-returns
collect_pair-returns t c =
    let S : Term → List Site = λ s. sites_in c.args.functions.now c.args.caller (tm_of s) in
    sites_then c.collect-2.result c.args.calls.now.items c.collect.new.calls.items c.collect-2.new.calls.items (S c.args.a.now) (S c.args.b.now) (S c.args.a.now ++ S c.args.b.now)
    refl c.in_ok-collect.ensures c.collect-2.ensures

pub collect_arguments-arguments-preserved : goal.collect_arguments-arguments-preserved
collect_arguments-arguments-preserved t c =
    sites_next c.args.functions.now c.args.caller c.args.args.now c.arguments.a-index c.a-item.result c.arguments.calls.items c.collect.new.calls.items _
    c.arguments-test.true c.a-item.is c.in_ok-collect.ensures c.arguments.invariant

pub collect_arguments-returns : goal.collect_arguments-returns
collect_arguments-returns t c =
    sites_end c.args.functions.now c.args.caller c.args.args.now c.arguments.a-index c.arguments.calls.items _ c.arguments-test.false c.arguments.invariant
