use Rattle.lt_net.proofs.StartedNet.{fresh, kept, room}
use Rattle.lt_net.proofs.bench.TimedBench.assemble.Goals as goal

pub returns-clause-fresh : goal.returns-clause-fresh
returns-clause-fresh g c =
    fresh g.C.Controller g.M.Machine c.requires.placed.0 c.args.layout c.requires.placed.1 c.args.shape c.args.timing c.args.rows c.requires.shape c.requires.numbered c.requires.one_place
    c.args.machines.items c.requires.machines c.args.controllers.items c.requires.controllers c.args.watch c.requires.watch
    c.args.initial.executed.items c.requires.initial.executed c.args.initial.ends.inboxes.items c.requires.initial.inboxes c.args.initial.ends.buffers.items c.requires.initial.buffers
    c.args.initial.space.tracks.items c.requires.initial.track_count c.requires.initial.blank c.args.initial.tables.routes.items c.requires.initial.routes c.args.initial.tables.exits.items c.requires.initial.exits c.args.initial.tables.ports c.requires.initial.ports
    _ _ c.requires.initial.values c.requires.initial.outs

pub returns-clause-kept : goal.returns-clause-kept
returns-clause-kept g c =
    kept g.C.Controller g.M.Machine c.requires.placed.0 c.args.layout c.requires.placed.1 c.args.shape c.args.timing c.args.rows c.requires.shape c.requires.numbered c.requires.one_place
    c.args.machines.items c.requires.machines c.args.controllers.items c.requires.controllers c.args.watch c.requires.watch
    c.args.initial.executed.items c.requires.initial.executed c.args.initial.ends.inboxes.items c.requires.initial.inboxes c.args.initial.ends.buffers.items c.requires.initial.buffers
    c.args.initial.space.tracks.items c.requires.initial.track_count c.requires.initial.blank c.args.initial.tables.routes.items c.requires.initial.routes c.args.initial.tables.exits.items c.requires.initial.exits c.args.initial.tables.ports c.requires.initial.ports
    _ _ c.requires.initial.values c.requires.initial.outs

pub returns-clause-room : goal.returns-clause-room
returns-clause-room g c =
    room g.C.Controller g.M.Machine c.requires.placed.0 c.args.layout c.requires.placed.1 c.args.shape c.args.timing c.args.rows c.requires.shape c.requires.numbered c.requires.one_place
    c.args.machines.items c.requires.machines c.args.controllers.items c.requires.controllers c.args.watch c.requires.watch
    c.args.initial.executed.items c.requires.initial.executed c.args.initial.ends.inboxes.items c.requires.initial.inboxes c.args.initial.ends.buffers.items c.requires.initial.buffers
    c.args.initial.space.tracks.items c.requires.initial.track_count c.requires.initial.blank c.args.initial.tables.routes.items c.requires.initial.routes c.args.initial.tables.exits.items c.requires.initial.exits c.args.initial.tables.ports c.requires.initial.ports
    _ _ c.requires.initial.values c.requires.initial.outs
