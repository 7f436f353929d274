use Rattle.std.proofs.Common.{◌<◌, length, arith, slice_index_or}
use Rattle.lt_link.specs.Ports.{is_from}
use Rattle.lt_audit.specs.Acts.{HasFullLine}
use Rattle.lt_audit.proofs.Lines.{same_lines, room_made, one_more, full_before, on_any}
use Rattle.lt_audit.proofs.NodeLoops.{leads_here, roomy_first, roomy_here, roomy_onward}
use Rattle.lt_audit.proofs.sending.make_room_on.Goals as goal

pub loop-number-init : goal.loop-number-init
loop-number-init c =
    let old = c.args.lines.now.items in
    roomy_first c.args.wiring.now.channels c.args.node c.args.kind c.outgoing-numbers.result.now c.outgoing-numbers.ensures.are old old (same_lines old)

pub returns-in_err-make_room-clause-same : goal.returns-in_err-make_room-clause-same
returns-in_err-make_room-clause-same c =
    let old = c.args.lines.now.items in
    let x = slice_index_or c.outgoing-numbers.result.now c.loop-number.number-index 0 in
    let within = c.outgoing-numbers.ensures.within c.loop-number.number-index c.loop-number-test.true in
    let below : x < length old = omega (arith, within, c.requires.lines) in
    room_made old _ c.loop-number.invariant.0 x _ _ below c.index_mut.ensures.value c.make_room.ensures.same c.make_room.ensures.grows

pub loop-number-preserved : goal.loop-number-preserved
loop-number-preserved c =
    let cs = c.args.wiring.now.channels in
    let xs = c.outgoing-numbers.result.now in
    let are = c.outgoing-numbers.ensures.are in
    let old = c.args.lines.now.items in
    let i = c.loop-number.number-index in
    let x = slice_index_or xs i 0 in
    let within = c.outgoing-numbers.ensures.within i c.loop-number-test.true in
    let below : x < length old = omega (arith, within, c.requires.lines) in
    let so_far = roomy_here cs c.args.node c.args.kind xs are old c.loop-number.lines.items i c.loop-number-test.true c.loop-number.invariant in
    roomy_onward cs c.args.node c.args.kind xs are old _ i c.loop-number-test.true (
      room_made old _ so_far.0 x _ _ below c.index_mut.ensures.value c.make_room.ensures.same c.make_room.ensures.grows,
      one_more old _ so_far.0 x _ _ below c.index_mut.ensures.value c.make_room.ensures.same c.make_room.ensures.grows (is_from cs c.args.node c.args.kind) so_far.1 c.in_ok-make_room.ensures.room,
    )

pub returns-in_err-make_room-clause-full : goal.returns-in_err-make_room-clause-full
returns-in_err-make_room-clause-full c =
    let xs = c.outgoing-numbers.result.now in
    let old = c.args.lines.now.items in
    let i = c.loop-number.number-index in
    let x = slice_index_or xs i 0 in
    let within = c.outgoing-numbers.ensures.within i c.loop-number-test.true in
    let below : x < length old = omega (arith, within, c.requires.lines) in
    let found : HasFullLine c.args.wiring.now.channels old c.args.node = record {
      chan = x;
      within = within;
      leads = leads_here c.args.wiring.now.channels c.args.node c.args.kind xs c.outgoing-numbers.ensures.are i c.loop-number-test.true;
      full = full_before old _ c.loop-number.invariant.0 x _ below c.index_mut.ensures.value c.in_err-make_room.ensures.full;
    } in
    on_any c.from_residual.result found
