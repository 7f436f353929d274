use Rattle.std.proofs.Common.{ap}
use Rattle.lt_net.specs.Event.{given_row}
use Rattle.lt_net_lossy.proofs.DeedByCode.{asked_ports, nothing_done, sent_done, instant_done, instant_able, nothing_stays, sent_stays, instant_stays}
use Rattle.lt_net_lossy.proofs.SentTwice.{node_ports}
use Rattle.lt_net_lossy.proofs.bench.LossyBench.deed.Goals as goal

pub wake-deed-requires-clause-ports : goal.wake-deed-requires-clause-ports
wake-deed-requires-clause-ports g c = node_ports _ c.args.self.now c.self.view_is c.requires.kept c.args.node c.requires.node

pub post-requires-clause-ports : goal.post-requires-clause-ports
post-requires-clause-ports g c =
    asked_ports g.C.Controller g.M.Machine _ _ _ _ _ c.args.self.now c.self.view_is c.requires.kept c.args.node c.requires.node c.wake-deed.new.self c.wake-deed.ensures.rest c.wake-deed.result c.wake-deed.ensures.wakes

pub execute-requires-clause-can : goal.execute-requires-clause-can
execute-requires-clause-can g c =
    instant_able g.C.Controller g.M.Machine _ _ _ _ _ c.args.self.now c.self.view_is c.requires.kept c.args.node c.requires.node c.wake-deed.new.self c.wake-deed.ensures.rest c.wake-deed.result c.wake-deed.ensures.wakes
    (given_row c.args.row) c.requires.can.0 c.requires.can.1 c.in-Execute.is c.requires.row _ (ap given_row c.in-Some.is) g.met.M.Machine.numbers

pub returns-in-Nothing-clause-does : goal.returns-in-Nothing-clause-does
returns-in-Nothing-clause-does g c = λ ls s.
    nothing_done g.C.Controller g.M.Machine _ _ _ _ _ c.args.self.now c.self.view_is c.requires.kept c.args.node c.requires.node c.wake-deed.new.self c.wake-deed.ensures.rest c.wake-deed.result c.wake-deed.ensures.wakes
    (given_row c.args.row) ls s c.in-Nothing.is

pub returns-in-Nothing-clause-kept : goal.returns-in-Nothing-clause-kept
returns-in-Nothing-clause-kept g c =
    nothing_stays g.C.Controller g.M.Machine _ _ _ _ _ c.args.self.now c.self.view_is c.requires.kept c.args.node c.requires.node c.wake-deed.new.self c.wake-deed.ensures.rest c.wake-deed.result c.wake-deed.ensures.wakes

pub returns-in-Send-clause-does : goal.returns-in-Send-clause-does
returns-in-Send-clause-does g c = λ ls s.
    sent_done g.C.Controller g.M.Machine _ _ _ _ _ c.args.self.now c.self.view_is c.requires.kept c.args.node c.requires.node c.wake-deed.new.self c.wake-deed.ensures.rest c.wake-deed.result c.wake-deed.ensures.wakes
    (given_row c.args.row) ls s c.in-Send.is c.post.new.self c.post.ensures.posts c.post.ensures.taken c.post.ensures.is

pub returns-in-Send-clause-kept : goal.returns-in-Send-clause-kept
returns-in-Send-clause-kept g c =
    sent_stays g.C.Controller g.M.Machine _ _ _ _ _ c.args.self.now c.self.view_is c.requires.kept c.args.node c.requires.node c.wake-deed.new.self c.wake-deed.ensures.rest c.wake-deed.result c.wake-deed.ensures.wakes
    c.post.new.self c.post.ensures.posts c.post.ensures.taken c.post.ensures.is

pub returns-in-Some-clause-does : goal.returns-in-Some-clause-does
returns-in-Some-clause-does g c = λ ls s.
    instant_done g.C.Controller g.M.Machine _ _ _ _ _ c.args.self.now c.self.view_is c.requires.kept c.args.node c.requires.node c.wake-deed.new.self c.wake-deed.ensures.rest c.wake-deed.result c.wake-deed.ensures.wakes
    (given_row c.args.row) ls s c.in-Execute.is c.requires.row _ (ap given_row c.in-Some.is) c.execute.new.self c.execute.ensures.runs c.execute.ensures.rest

pub returns-in-Some-clause-kept : goal.returns-in-Some-clause-kept
returns-in-Some-clause-kept g c =
    instant_stays g.C.Controller g.M.Machine _ _ _ _ _ c.args.self.now c.self.view_is c.requires.kept c.args.node c.requires.node c.wake-deed.new.self c.wake-deed.ensures.rest c.wake-deed.result c.wake-deed.ensures.wakes
    c.requires.can c.in-Execute.is (given_row c.args.row) c.requires.row _ (ap given_row c.in-Some.is) c.execute.new.self c.execute.ensures.runs c.execute.ensures.rest
