use Rattle.lt_expand.proofs.Whole.{main_within, main_good, main_ready, main_room, main_whole}
use Rattle.lt_expand.proofs.library.expand_main.Goals as goal

pub make_called-requires-clause-within : goal.make_called-requires-clause-within
make_called-requires-clause-within c = main_within c.args.p.now c.invariant_holds.ensures c.requires.checked _ c.p.view_is c.len-count.result c.len-count.ensures

pub open-requires-clause-good : goal.open-requires-clause-good
open-requires-clause-good c =
    main_good c.args.p.now c.invariant_holds.ensures c.requires.checked _ c.p.view_is c.make_called.new.versions.items c.in_ok-make_called.ensures.are c.in_ok-make_called.ensures.made c.deref-2.result.now c.deref-2.ensures.value c.deref.result.now c.deref.ensures c.index-deref-p.result c.index-deref-p.is

pub open-requires-clause-ready : goal.open-requires-clause-ready
open-requires-clause-ready c =
    main_ready c.args.p.now c.invariant_holds.ensures c.requires.checked _ c.p.view_is c.make_called.new.versions.items c.in_ok-make_called.ensures.are c.in_ok-make_called.ensures.made c.deref-2.result.now c.deref-2.ensures.value c.deref.result.now c.deref.ensures c.index-deref-p.result c.index-deref-p.is

pub open-requires-clause-room : goal.open-requires-clause-room
open-requires-clause-room c =
    main_room c.args.p.now c.invariant_holds.ensures c.requires.checked _ c.p.view_is c.make_called.new.versions.items c.in_ok-make_called.ensures.are c.in_ok-make_called.ensures.made c.deref-2.result.now c.deref-2.ensures.value c.deref.result.now c.deref.ensures c.index-deref-p.result c.index-deref-p.is
    c.requires.room

pub returns-clause-form : goal.returns-clause-form
returns-clause-form c =
    (main_whole c.args.p.now c.invariant_holds.ensures c.requires.checked _ c.p.view_is c.make_called.new.versions.items c.in_ok-make_called.ensures.are c.in_ok-make_called.ensures.made c.deref-2.result.now c.deref-2.ensures.value c.deref.result.now c.deref.ensures c.index-deref-p.result c.index-deref-p.is
    _ _ c.in_ok-whole.ensures.form c.in_ok-whole.ensures.origins).0

pub returns-clause-keeps : goal.returns-clause-keeps
returns-clause-keeps c =
    (main_whole c.args.p.now c.invariant_holds.ensures c.requires.checked _ c.p.view_is c.make_called.new.versions.items c.in_ok-make_called.ensures.are c.in_ok-make_called.ensures.made c.deref-2.result.now c.deref-2.ensures.value c.deref.result.now c.deref.ensures c.index-deref-p.result c.index-deref-p.is
    _ _ c.in_ok-whole.ensures.form c.in_ok-whole.ensures.origins).1
