use Rattle.lt_net.proofs.DeliverByCode.{some, channel, inbox, types, room, place, undelivered, delivered}
use Rattle.lt_net.proofs.bench.TimedBench.deliver.Goals as goal

pub receive-requires-clause-channel : goal.receive-requires-clause-channel
receive-requires-clause-channel g c =
    channel g.C.Controller g.M.Machine _ c.self.inside.inner c.self.inside.timing c.self.inside.watch c.args.self.now c.bench.view_is c.self.view_is c.args.ch c.args.at (g.W.Fabric.state c.args.fabric.now) c.requires.can

pub receive-requires-clause-inbox : goal.receive-requires-clause-inbox
receive-requires-clause-inbox g c =
    inbox g.C.Controller g.M.Machine _ c.self.inside.inner c.self.inside.timing c.self.inside.watch c.args.self.now c.bench.view_is c.self.view_is c.args.ch c.args.at (g.W.Fabric.state c.args.fabric.now) c.requires.can

pub receive-requires-clause-some : goal.receive-requires-clause-some
receive-requires-clause-some g c =
    some g.C.Controller g.M.Machine _ c.self.inside.inner c.self.inside.timing c.self.inside.watch c.args.self.now c.bench.view_is c.self.view_is c.args.ch c.args.at (g.W.Fabric.state c.args.fabric.now) c.requires.can

pub receive-requires-clause-types : goal.receive-requires-clause-types
receive-requires-clause-types g c =
    types g.C.Controller g.M.Machine _ c.self.inside.inner c.self.inside.timing c.self.inside.watch c.args.self.now c.bench.view_is c.self.view_is c.args.ch c.args.at (g.W.Fabric.state c.args.fabric.now) c.requires.can

pub receive-requires-clause-room : goal.receive-requires-clause-room
receive-requires-clause-room g c =
    room g.C.Controller g.M.Machine _ c.self.inside.inner c.self.inside.timing c.self.inside.watch c.args.self.now c.bench.view_is c.self.view_is c.args.ch c.args.at (g.W.Fabric.state c.args.fabric.now) c.requires.can

pub delivered-requires-clause-channel : goal.delivered-requires-clause-channel
delivered-requires-clause-channel g c =
    place g.C.Controller g.M.Machine _ c.self.inside.inner c.self.inside.timing c.self.inside.watch c.args.self.now c.bench.view_is c.self.view_is c.args.ch c.args.at (g.W.Fabric.state c.args.fabric.now) c.requires.can

pub returns-in_err-receive : goal.returns-in_err-receive
returns-in_err-receive g c =
    λ row.
    undelivered g.C.Controller g.M.Machine _ c.self.inside.inner c.self.inside.timing c.self.inside.watch c.args.self.now c.bench.view_is c.self.view_is c.args.ch c.args.at (g.W.Fabric.state c.args.fabric.now) c.requires.can
    c.receive.new.inboxes.items _ c.receive.ensures.scratch (g.W.Fabric.state c.receive.new.fabric) c.receive.ensures.keeps c.receive.ensures.sound c.args.steps.now row
    c.in_err-receive.ensures.inboxes _ c.in_err-receive.ensures.cause c.in_err-receive.ensures.prompt _ c.from_residual.ensures.1

pub returns : goal.returns
returns g c =
    λ row.
    delivered g.C.Controller g.M.Machine _ c.self.inside.inner c.self.inside.timing c.self.inside.watch c.args.self.now c.bench.view_is c.self.view_is c.args.ch c.args.at (g.W.Fabric.state c.args.fabric.now) c.requires.can
    c.receive.new.inboxes.items _ c.receive.ensures.scratch (g.W.Fabric.state c.receive.new.fabric) c.receive.ensures.keeps c.receive.ensures.sound c.args.steps.now row
    c.in_ok-receive.ensures.ok c.delivered.new.self c.delivered.ensures.times c.in_ok-receive.ensures.cause c.delivered.new.steps c.delivered.ensures.cost
