use Rattle.lt_net.proofs.SendByCode.{owed, owed_ports, unsent, sent}
use Rattle.lt_net.proofs.bench.TimedBench.send.Goals as goal

pub send_all-requires-clause-ports : goal.send_all-requires-clause-ports
send_all-requires-clause-ports g c =
    owed_ports _ c.self.inside.inner c.self.inside.timing c.self.inside.watch c.args.self.now c.bench.view_is c.self.view_is c.args.node c.args.kind c.args.at (g.W.Fabric.state c.args.fabric.now) c.requires.can _ c.deref.ensures _ c.deref-2.ensures.value _ c.deref-3.ensures.value

pub send_all-requires-clause-types : goal.send_all-requires-clause-types
send_all-requires-clause-types g c =
    (owed _ c.self.inside.inner c.self.inside.timing c.self.inside.watch c.args.self.now c.bench.view_is c.self.view_is c.args.node c.args.kind c.args.at (g.W.Fabric.state c.args.fabric.now) c.requires.can _ c.deref.ensures _ c.deref-2.ensures.value _ c.deref-3.ensures.value).types

pub send_all-requires-clause-free : goal.send_all-requires-clause-free
send_all-requires-clause-free g c =
    (owed _ c.self.inside.inner c.self.inside.timing c.self.inside.watch c.args.self.now c.bench.view_is c.self.view_is c.args.node c.args.kind c.args.at (g.W.Fabric.state c.args.fabric.now) c.requires.can _ c.deref.ensures _ c.deref-2.ensures.value _ c.deref-3.ensures.value).free

pub returns-in_err-send_all : goal.returns-in_err-send_all
returns-in_err-send_all g c =
    unsent _ c.self.inside.inner c.self.inside.timing c.self.inside.watch c.args.self.now c.bench.view_is c.self.view_is c.args.node c.args.kind c.args.at (g.W.Fabric.state c.args.fabric.now) c.requires.can _ c.deref.ensures _ c.deref-2.ensures.value _ c.deref-3.ensures.value
    c.send_all.new.watch c.send_all.ensures.lasts c.send_all.ensures.length (g.W.Fabric.state c.send_all.new.fabric) c.send_all.ensures.keeps c.send_all.ensures.sound c.args.steps.now c.send_all.new.steps c.send_all.ensures.cost
    _ c.in_err-send_all.ensures.cause c.in_err-send_all.ensures.prompt _ c.from_residual.ensures.1

pub returns : goal.returns
returns g c =
    sent _ c.self.inside.inner c.self.inside.timing c.self.inside.watch c.args.self.now c.bench.view_is c.self.view_is c.args.node c.args.kind c.args.at (g.W.Fabric.state c.args.fabric.now) c.requires.can _ c.deref.ensures _ c.deref-2.ensures.value _ c.deref-3.ensures.value
    c.send_all.new.watch c.send_all.ensures.lasts c.send_all.ensures.length (g.W.Fabric.state c.send_all.new.fabric) c.send_all.ensures.keeps c.send_all.ensures.sound c.args.steps.now c.send_all.new.steps c.send_all.ensures.cost
    c.in_ok-send_all.ensures.sent c.acted.new.self c.acted.ensures.times c.in_ok-send_all.ensures.cause c.acted.new.steps c.acted.ensures.cost
