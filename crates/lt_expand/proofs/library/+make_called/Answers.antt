use Rattle.std.proofs.Common.{◌∙◌, ap, length, arith}
use Rattle.lt_base.specs.Program.{WholeProgram}
use Rattle.lt_expand.proofs.Making.{calling, next_inside, next_number, next_left, next_within, next_room, next_good, next_ready, next_fits, reached_more, reached_next, reached_all}
use Rattle.lt_expand.proofs.library.+make_called.Goals as goal

pub index-requires : goal.index-requires
index-requires t c =
    let k = calling c.args.p.now c.invariant_holds.ensures c.requires.checked c.args.left c.args.g c.requires.within c.requires.number _ c.p.view_is c.deref.result.now c.deref.ensures c.index-deref-g.result c.index-deref-g.is c.in_ok-called.called c.deref-h-items.result.now c.in_ok-called.ensures c.deref-h-items.ensures in
    let l = next_number c.args.p.now c.args.left c.args.g c.index-deref-g.result c.deref-h-items.result.now k c.loop-h.h-index c.loop-h-test.true c.loop-h.versions.items c.loop-h.invariant.are in
    omega (arith, l, c.loop-h.versions.ok.0)

pub make_called-requires : goal.make_called-requires
make_called-requires t c =
    let k = calling c.args.p.now c.invariant_holds.ensures c.requires.checked c.args.left c.args.g c.requires.within c.requires.number _ c.p.view_is c.deref.result.now c.deref.ensures c.index-deref-g.result c.index-deref-g.is c.in_ok-called.called c.deref-h-items.result.now c.in_ok-called.ensures c.deref-h-items.ensures in
    let l = next_left c.args.p.now c.args.left c.args.g c.index-deref-g.result c.deref-h-items.result.now k c.loop-h.h-index c.loop-h-test.true in
    (omega (arith, l, c.decreases), (c.requires.checked, (next_inside c.args.p.now c.args.left c.args.g c.index-deref-g.result c.deref-h-items.result.now k c.loop-h.h-index c.loop-h-test.true, (next_within c.args.p.now c.args.left c.args.g c.index-deref-g.result c.deref-h-items.result.now k c.loop-h.h-index c.loop-h-test.true, (next_room c.args.p.now c.args.left c.args.g c.index-deref-g.result c.deref-h-items.result.now k c.loop-h.h-index c.loop-h-test.true c.requires.room, c.loop-h.invariant.are)))))

pub bounds-deref-h : goal.bounds-deref-h
bounds-deref-h t c =
    let k = calling c.args.p.now c.invariant_holds.ensures c.requires.checked c.args.left c.args.g c.requires.within c.requires.number _ c.p.view_is c.deref.result.now c.deref.ensures c.index-deref-g.result c.index-deref-g.is c.in_ok-called.called c.deref-h-items.result.now c.in_ok-called.ensures c.deref-h-items.ensures in
    let n = ap length (c.deref-in-loop-h.ensures ∙ ap (λ (p : WholeProgram). p.funcs) c.p.view_is) in
    let l = next_inside c.args.p.now c.args.left c.args.g c.index-deref-g.result c.deref-h-items.result.now k c.loop-h.h-index c.loop-h-test.true in
    omega (arith, n, l)

pub make-requires-clause-number : goal.make-requires-clause-number
make-requires-clause-number t c =
    let k = calling c.args.p.now c.invariant_holds.ensures c.requires.checked c.args.left c.args.g c.requires.within c.requires.number _ c.p.view_is c.deref.result.now c.deref.ensures c.index-deref-g.result c.index-deref-g.is c.in_ok-called.called c.deref-h-items.result.now c.in_ok-called.ensures c.deref-h-items.ensures in
    next_number c.args.p.now c.args.left c.args.g c.index-deref-g.result c.deref-h-items.result.now k c.loop-h.h-index c.loop-h-test.true c.make_called.new.versions.items c.in_ok-make_called.ensures.are

pub make-requires-clause-good : goal.make-requires-clause-good
make-requires-clause-good t c =
    let k = calling c.args.p.now c.invariant_holds.ensures c.requires.checked c.args.left c.args.g c.requires.within c.requires.number _ c.p.view_is c.deref.result.now c.deref.ensures c.index-deref-g.result c.index-deref-g.is c.in_ok-called.called c.deref-h-items.result.now c.in_ok-called.ensures c.deref-h-items.ensures in
    next_good c.args.p.now c.args.left c.args.g c.index-deref-g.result c.deref-h-items.result.now k c.loop-h.h-index c.loop-h-test.true
    c.args.versions.now.items c.loop-h.versions.items c.loop-h.invariant c.index.result.now c.index.ensures c.is_some.result c.is_some.ensures
    c.make_called.new.versions.items c.in_ok-make_called.ensures.are c.in_ok-make_called.ensures.kept c.in_ok-make_called.ensures.made _ c.p.view_is c.deref-in-loop-h.result.now c.deref-in-loop-h.ensures c.index-deref-h.result c.index-deref-h.is

pub make-requires-clause-ready : goal.make-requires-clause-ready
make-requires-clause-ready t c =
    let k = calling c.args.p.now c.invariant_holds.ensures c.requires.checked c.args.left c.args.g c.requires.within c.requires.number _ c.p.view_is c.deref.result.now c.deref.ensures c.index-deref-g.result c.index-deref-g.is c.in_ok-called.called c.deref-h-items.result.now c.in_ok-called.ensures c.deref-h-items.ensures in
    next_ready c.args.p.now c.args.left c.args.g c.index-deref-g.result c.deref-h-items.result.now k c.loop-h.h-index c.loop-h-test.true
    c.args.versions.now.items c.loop-h.versions.items c.loop-h.invariant c.index.result.now c.index.ensures c.is_some.result c.is_some.ensures
    c.make_called.new.versions.items c.in_ok-make_called.ensures.are c.in_ok-make_called.ensures.kept c.in_ok-make_called.ensures.made _ c.p.view_is c.deref-in-loop-h.result.now c.deref-in-loop-h.ensures c.index-deref-h.result c.index-deref-h.is

pub make-requires-clause-room : goal.make-requires-clause-room
make-requires-clause-room t c =
    let k = calling c.args.p.now c.invariant_holds.ensures c.requires.checked c.args.left c.args.g c.requires.within c.requires.number _ c.p.view_is c.deref.result.now c.deref.ensures c.index-deref-g.result c.index-deref-g.is c.in_ok-called.called c.deref-h-items.result.now c.in_ok-called.ensures c.deref-h-items.ensures in
    next_fits c.args.p.now c.args.left c.args.g c.index-deref-g.result c.deref-h-items.result.now k c.loop-h.h-index c.loop-h-test.true
    c.args.versions.now.items c.loop-h.versions.items c.loop-h.invariant c.index.result.now c.index.ensures c.is_some.result c.is_some.ensures
    c.make_called.new.versions.items c.in_ok-make_called.ensures.are c.in_ok-make_called.ensures.kept c.in_ok-make_called.ensures.made _ c.p.view_is c.deref-in-loop-h.result.now c.deref-in-loop-h.ensures c.index-deref-h.result c.index-deref-h.is
    c.requires.room

pub loop-h-preserved-then-is_some : goal.loop-h-preserved-then-is_some
loop-h-preserved-then-is_some t c =
    let k = calling c.args.p.now c.invariant_holds.ensures c.requires.checked c.args.left c.args.g c.requires.within c.requires.number _ c.p.view_is c.deref.result.now c.deref.ensures c.index-deref-g.result c.index-deref-g.is c.in_ok-called.called c.deref-h-items.result.now c.in_ok-called.ensures c.deref-h-items.ensures in
    reached_more c.args.p.now c.args.left c.args.g c.index-deref-g.result c.deref-h-items.result.now k c.loop-h.h-index c.loop-h-test.true
    c.args.versions.now.items c.loop-h.versions.items c.loop-h.invariant c.index.result.now c.index.ensures c.is_some.result c.is_some.ensures c.if-is_some.true

pub loop-h-preserved : goal.loop-h-preserved
loop-h-preserved t c =
    let k = calling c.args.p.now c.invariant_holds.ensures c.requires.checked c.args.left c.args.g c.requires.within c.requires.number _ c.p.view_is c.deref.result.now c.deref.ensures c.index-deref-g.result c.index-deref-g.is c.in_ok-called.called c.deref-h-items.result.now c.in_ok-called.ensures c.deref-h-items.ensures in
    reached_next c.args.p.now c.args.left c.args.g c.index-deref-g.result c.deref-h-items.result.now k c.loop-h.h-index c.loop-h-test.true
    c.args.versions.now.items c.loop-h.versions.items c.loop-h.invariant c.index.result.now c.index.ensures c.is_some.result c.is_some.ensures
    c.make_called.new.versions.items c.in_ok-make_called.ensures.are c.in_ok-make_called.ensures.kept c.in_ok-make_called.ensures.made _ c.p.view_is c.deref-in-loop-h.result.now c.deref-in-loop-h.ensures c.index-deref-h.result c.index-deref-h.is
    c.if-is_some.false c.make.new.versions.items c.in_ok-make.ensures

pub returns-clause-made : goal.returns-clause-made
returns-clause-made t c =
    let k = calling c.args.p.now c.invariant_holds.ensures c.requires.checked c.args.left c.args.g c.requires.within c.requires.number _ c.p.view_is c.deref.result.now c.deref.ensures c.index-deref-g.result c.index-deref-g.is c.in_ok-called.called c.deref-h-items.result.now c.in_ok-called.ensures c.deref-h-items.ensures in
    reached_all c.args.p.now c.args.left c.args.g c.index-deref-g.result c.deref-h-items.result.now k c.args.versions.now.items c.loop-h.h-index c.loop-h.versions.items c.loop-h.invariant c.loop-h-test.false
