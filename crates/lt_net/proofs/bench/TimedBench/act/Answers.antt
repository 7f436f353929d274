use Rattle.std.proofs.Common.{ap}
use Rattle.lt_net.specs.Event.{given_row}
use Rattle.lt_net.proofs.ActByCode.{wake_inboxes, wake_ports, wake_node, wake_executed, nothing_done, read_inboxes, read_ports, data_can, data_sent, instant_can, acks_can, acks_sent}
use Rattle.lt_net.proofs.bench.TimedBench.act.Goals as goal

pub wake-deed-requires-clause-inboxes : goal.wake-deed-requires-clause-inboxes
wake-deed-requires-clause-inboxes g c =
    wake_inboxes g.C.Controller g.M.Machine _ _ _ c.args.self.now c.self.view_is c.args.node c.args.at (given_row c.args.row) (g.W.Fabric.state c.args.fabric.now) c.requires.can

pub wake-deed-requires-clause-ports : goal.wake-deed-requires-clause-ports
wake-deed-requires-clause-ports g c =
    wake_ports g.C.Controller g.M.Machine _ _ _ c.args.self.now c.self.view_is c.args.node c.args.at (given_row c.args.row) (g.W.Fabric.state c.args.fabric.now) c.requires.can

pub wake-deed-requires-clause-node : goal.wake-deed-requires-clause-node
wake-deed-requires-clause-node g c =
    wake_node g.C.Controller g.M.Machine _ _ _ c.args.self.now c.self.view_is c.args.node c.args.at (given_row c.args.row) (g.W.Fabric.state c.args.fabric.now) c.requires.can

pub wake-deed-requires-clause-executed : goal.wake-deed-requires-clause-executed
wake-deed-requires-clause-executed g c =
    wake_executed g.C.Controller g.M.Machine _ _ _ c.args.self.now c.self.view_is c.args.node c.args.at (given_row c.args.row) (g.W.Fabric.state c.args.fabric.now) c.requires.can

pub returns-in-Nothing : goal.returns-in-Nothing
returns-in-Nothing g c =
    nothing_done g.C.Controller g.M.Machine _ _ _ c.args.self.now c.self.view_is c.args.node c.args.at (given_row c.args.row) (g.W.Fabric.state c.args.fabric.now) c.requires.can c.wake-deed.new.self c.wake-deed.ensures.rest c.wake-deed.result c.wake-deed.ensures.wakes
    c.in-Nothing.is c.acted.new.self c.acted.ensures.times c.args.steps.now c.acted.new.steps c.acted.ensures.cost

pub read-requires-clause-inboxes : goal.read-requires-clause-inboxes
read-requires-clause-inboxes g c =
    read_inboxes g.C.Controller g.M.Machine _ _ _ c.args.self.now c.self.view_is c.args.node c.args.at (given_row c.args.row) (g.W.Fabric.state c.args.fabric.now) c.requires.can c.wake-deed.new.self c.wake-deed.ensures.rest c.wake-deed.result c.wake-deed.ensures.wakes

pub read-requires-clause-ports : goal.read-requires-clause-ports
read-requires-clause-ports g c =
    read_ports g.C.Controller g.M.Machine _ _ _ c.args.self.now c.self.view_is c.args.node c.args.at (given_row c.args.row) (g.W.Fabric.state c.args.fabric.now) c.requires.can c.wake-deed.new.self c.wake-deed.ensures.rest c.wake-deed.result c.wake-deed.ensures.wakes

pub send-requires-clause-can : goal.send-requires-clause-can
send-requires-clause-can g c =
    data_can g.C.Controller g.M.Machine _ _ _ c.args.self.now c.self.view_is c.args.node c.args.at (given_row c.args.row) (g.W.Fabric.state c.args.fabric.now) c.requires.can c.wake-deed.new.self c.wake-deed.ensures.rest c.wake-deed.result c.wake-deed.ensures.wakes
    c.in-Send.is c.read.new.self c.read.ensures.taken c.read.ensures.rest

pub returns-in-Send : goal.returns-in-Send
returns-in-Send g c =
    data_sent g.C.Controller g.M.Machine _ _ _ c.args.self.now c.self.view_is c.args.node c.args.at (given_row c.args.row) (g.W.Fabric.state c.args.fabric.now) c.requires.can c.wake-deed.new.self c.wake-deed.ensures.rest c.wake-deed.result c.wake-deed.ensures.wakes
    c.in-Send.is c.read.new.self c.read.ensures.taken c.read.ensures.rest c.send.new.self (g.W.Fabric.state c.send.new.fabric) c.args.steps.now c.send.new.steps c.send.result c.send.ensures

pub execute-requires-clause-can : goal.execute-requires-clause-can
execute-requires-clause-can g c =
    instant_can g.C.Controller g.M.Machine _ _ _ c.args.self.now c.self.view_is c.args.node c.args.at (given_row c.args.row) (g.W.Fabric.state c.args.fabric.now) c.requires.can c.wake-deed.new.self c.wake-deed.ensures.rest c.wake-deed.result c.wake-deed.ensures.wakes
    c.in-Execute.is _ (ap given_row c.in-Some.is) g.met.M.Machine.numbers

pub send-requires-in-Execute-clause-can : goal.send-requires-in-Execute-clause-can
send-requires-in-Execute-clause-can g c =
    acks_can g.C.Controller g.M.Machine _ _ _ c.args.self.now c.self.view_is c.args.node c.args.at (given_row c.args.row) (g.W.Fabric.state c.args.fabric.now) c.requires.can c.wake-deed.new.self c.wake-deed.ensures.rest c.wake-deed.result c.wake-deed.ensures.wakes
    c.in-Execute.is _ (ap given_row c.in-Some.is) c.execute.new.self c.execute.ensures.runs c.execute.ensures.rest

pub returns-in-Some : goal.returns-in-Some
returns-in-Some g c =
    acks_sent g.C.Controller g.M.Machine _ _ _ c.args.self.now c.self.view_is c.args.node c.args.at (given_row c.args.row) (g.W.Fabric.state c.args.fabric.now) c.requires.can c.wake-deed.new.self c.wake-deed.ensures.rest c.wake-deed.result c.wake-deed.ensures.wakes
    c.in-Execute.is _ (ap given_row c.in-Some.is) c.execute.new.self c.execute.ensures.runs c.execute.ensures.rest c.send-in-Execute.new.self (g.W.Fabric.state c.send-in-Execute.new.fabric) c.args.steps.now c.execute.new.steps c.send-in-Execute.new.steps c.send-in-Execute.result c.send-in-Execute.ensures c.execute.ensures.sizes c.execute.ensures.cost
