use Rattle.std.proofs.Common.{◌≡◌, ◌+◌, ◌-◌, Bool, subst, arith, if◌then◌else◌}
use Rattle.lt_arch.specs.declared.event.Event.TheVariants.{Del}
use Rattle.lt_arch.specs.Readers.{node_count}
use Rattle.lt_lossy.specs.declared.event.LossyEvent.TheVariants.{Plain, Lose}
use Rattle.lt_losing.specs.Losing.{due_lossy_event}
use Rattle.lt_losing.proofs.Taking.{place-in, act_due, act_stands, arrived_due, arrived_stands}
use Rattle.lt_losing.proofs.drawing.LossyDrawing.take.Goals as goal

pub returns-then-place-nodes-clause-event : goal.returns-then-place-nodes-clause-event
returns-then-place-nodes-clause-event c seed d stands next =
    let nodes = c.len-nodes.ensures in
    let test = c.if-place-nodes.true in
    act_due c.args.shape.now c.args.timing.now c.args.limit c.args.rate c.args.rows seed d c.args.at c.args.place (omega (arith, nodes, test))

pub returns-then-place-nodes-clause-stands : goal.returns-then-place-nodes-clause-stands
returns-then-place-nodes-clause-stands c seed d stands upcoming next =
    let nodes = c.len-nodes.ensures in
    let test = c.if-place-nodes.true in
    act_stands c.args.shape.now c.args.timing.now c.args.limit c.args.rate c.args.rows seed d c.args.at c.args.place _ (omega (arith, nodes, test)) (c.in_ok-activate.ensures seed d stands)

pub arrive-requires-clause-newest : goal.arrive-requires-clause-newest
arrive-requires-clause-newest c =
    let due = c.requires.due in
    let within = place-in c.args.shape.now due.draw (c.args.at, c.args.place) due.next in
    let size = due.stands.holds.newest in
    let nodes = c.len-nodes.ensures in
    let past = c.if-place-nodes.false in
    omega (arith, within, size, nodes, past)

pub arrive-requires-clause-losses : goal.arrive-requires-clause-losses
arrive-requires-clause-losses c =
    let due = c.requires.due in
    let within = place-in c.args.shape.now due.draw (c.args.at, c.args.place) due.next in
    let size = due.stands.holds.losses in
    let nodes = c.len-nodes.ensures in
    let past = c.if-place-nodes.false in
    omega (arith, within, size, nodes, past)

pub arrive-requires-clause-numbers : goal.arrive-requires-clause-numbers
arrive-requires-clause-numbers c =
    let due = c.requires.due in
    let within = place-in c.args.shape.now due.draw (c.args.at, c.args.place) due.next in
    let size = due.stands.holds.numbers in
    let nodes = c.len-nodes.ensures in
    let past = c.if-place-nodes.false in
    omega (arith, within, size, nodes, past)

pub arrive-requires-clause-arrivals : goal.arrive-requires-clause-arrivals
arrive-requires-clause-arrivals c =
    let due = c.requires.due in
    let within = place-in c.args.shape.now due.draw (c.args.at, c.args.place) due.next in
    let size = due.stands.holds.arrivals in
    let nodes = c.len-nodes.ensures in
    let past = c.if-place-nodes.false in
    omega (arith, within, size, nodes, past)

pub returns-then-arrive-clause-event : goal.returns-then-arrive-clause-event
returns-then-arrive-clause-event c seed d stands next =
    let s = c.args.shape.now in
    let nodes = c.len-nodes.ensures in
    let past = c.if-place-nodes.false in
    let ch = c.args.place - c.len-nodes.result in
    let place : c.args.place ≡ node_count s + ch = omega (arith, nodes, past) in
    subst (λ (b : Bool). (if b then Lose ch c.args.at else Plain (Del ch c.args.at)) ≡ due_lossy_event s c.args.limit c.args.rate seed d (c.args.at, c.args.place)) c.if-arrive.true
    (arrived_due s c.args.timing.now c.args.limit c.args.rate c.args.rows seed d c.args.at c.args.place c.args.self.now stands next ch place c.arrive.result c.arrive.ensures.lost)

pub returns-then-arrive-clause-stands : goal.returns-then-arrive-clause-stands
returns-then-arrive-clause-stands c seed d stands upcoming next =
    let s = c.args.shape.now in
    let nodes = c.len-nodes.ensures in
    let past = c.if-place-nodes.false in
    let ch = c.args.place - c.len-nodes.result in
    let place : c.args.place ≡ node_count s + ch = omega (arith, nodes, past) in
    arrived_stands s c.args.timing.now c.args.limit c.args.rate c.args.rows seed d c.args.at c.args.place c.args.self.now stands next ch place c.arrive.result c.arrive.ensures.lost c.arrive.new.self upcoming c.arrive.ensures.taken

pub returns-else-arrive-clause-event : goal.returns-else-arrive-clause-event
returns-else-arrive-clause-event c seed d stands next =
    let s = c.args.shape.now in
    let nodes = c.len-nodes.ensures in
    let past = c.if-place-nodes.false in
    let ch = c.args.place - c.len-nodes.result in
    let place : c.args.place ≡ node_count s + ch = omega (arith, nodes, past) in
    subst (λ (b : Bool). (if b then Lose ch c.args.at else Plain (Del ch c.args.at)) ≡ due_lossy_event s c.args.limit c.args.rate seed d (c.args.at, c.args.place)) c.if-arrive.false
    (arrived_due s c.args.timing.now c.args.limit c.args.rate c.args.rows seed d c.args.at c.args.place c.args.self.now stands next ch place c.arrive.result c.arrive.ensures.lost)

pub returns-else-arrive-clause-stands : goal.returns-else-arrive-clause-stands
returns-else-arrive-clause-stands c seed d stands upcoming next =
    let s = c.args.shape.now in
    let nodes = c.len-nodes.ensures in
    let past = c.if-place-nodes.false in
    let ch = c.args.place - c.len-nodes.result in
    let place : c.args.place ≡ node_count s + ch = omega (arith, nodes, past) in
    arrived_stands s c.args.timing.now c.args.limit c.args.rate c.args.rows seed d c.args.at c.args.place c.args.self.now stands next ch place c.arrive.result c.arrive.ensures.lost c.arrive.new.self upcoming c.arrive.ensures.taken
