use Rattle.std.proofs.Common.{length}
use Rattle.lt_audit.proofs.Lines.{same_twice, full_on, on_any, room_on_both}
use Rattle.lt_audit.proofs.sending.make_room.Goals as goal

pub returns-in_err-make_room_on-2-clause-same : goal.returns-in_err-make_room_on-2-clause-same
returns-in_err-make_room_on-2-clause-same c = same_twice _ _ _ c.make_room_on.ensures.same c.make_room_on-2.ensures.same

pub returns-clause-same : goal.returns-clause-same
returns-clause-same c = same_twice _ _ _ c.make_room_on.ensures.same c.make_room_on-2.ensures.same

pub returns-clause-room : goal.returns-clause-room
returns-clause-room c =
    room_on_both c.args.wiring.now.channels _ _ c.args.node (length c.args.wiring.now.channels) c.in_ok-make_room_on.ensures.room c.make_room_on-2.ensures.same c.in_ok-make_room_on-2.ensures.room

pub returns-in_err-make_room_on-2-clause-full : goal.returns-in_err-make_room_on-2-clause-full
returns-in_err-make_room_on-2-clause-full c = on_any c.from_residual-in_err-make_room_on-2.result (full_on c.args.wiring.now.channels _ _ c.args.node c.make_room_on.ensures.same c.in_err-make_room_on-2.ensures.full)
