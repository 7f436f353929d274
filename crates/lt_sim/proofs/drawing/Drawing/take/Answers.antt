use Rattle.std.proofs.Common.{◌≡◌, ◌∙◌, ◌+◌, ◌-◌, ◌<◌, ap, sym, refl, arith, Some, lt-ltb, le-ltb}
use Rattle.lt_arch.specs.State.{executed_of}
use Rattle.lt_arch.specs.Readers.{chan_count, node_count, to_of}
use Rattle.lt_sim.specs.Drawn.{pending_at, drawn_on}
use Rattle.lt_sim.proofs.Dues.{first, pending-chan}
use Rattle.lt_sim.proofs.Activating.{ahead, stands-del}
use Rattle.lt_sim.proofs.Arriving.{to_in}
use Rattle.lt_sim.proofs.drawing.Drawing.take.Goals as goal

pub set_pending-requires : goal.set_pending-requires
set_pending-requires c =
    let due = c.requires.due in
    let within = (first c.args.shape.now due.draw (c.args.at, c.args.place) due.next).0 in
    let size = due.stands.places in
    omega (arith, within, size)

pub arrive-requires : goal.arrive-requires
arrive-requires c =
    let s = c.args.shape.now in
    let due = c.requires.due in
    let nodes = c.len-nodes.ensures in
    let past = c.if-place-nodes.false in
    let within = (first s due.draw (c.args.at, c.args.place) due.next).0 in
    let ch = c.args.place - c.len-nodes.result in
    let lt : ch < chan_count s = omega (arith, within, nodes, past) in
    let near = ahead s due.draw.state due.keeps.one_place ch lt in
    let few = due.keeps.within (to_of s ch) (to_in s ch lt) in
    let rows = c.ranges.rows.fits in
    record {
      executed = executed_of due.draw.state;
      delivered = λ i. (due.draw.state.chan i).delivered;
      is_at = due.stands.progress;
      channel = lt;
      room = omega (arith, near, few, rows);
    }

pub returns-then-place-nodes : goal.returns-then-place-nodes
unfolding drawn_on
returns-then-place-nodes c seed front d stands keeps next =
    let s = c.args.shape.now in
    let nodes = c.len-nodes.ensures in
    let test = c.if-place-nodes.true in
    rw (lt-ltb c.args.place (node_count s) (omega (arith, nodes, test))) (c.activate.ensures seed front d stands keeps)

pub returns-else-place-nodes : goal.returns-else-place-nodes
unfolding drawn_on
returns-else-place-nodes c seed front d stands keeps next =
    let s = c.args.shape.now in
    let nodes = c.len-nodes.ensures in
    let past = c.if-place-nodes.false in
    let within = (first s d (c.args.at, c.args.place) next).0 in
    let is = (first s d (c.args.at, c.args.place) next).1 in
    let ch = c.args.place - c.len-nodes.result in
    let lt : ch < chan_count s = omega (arith, within, nodes, past) in
    let place : c.args.place ≡ node_count s + ch = omega (arith, nodes, past) in
    let same : ch ≡ c.args.place - node_count s = omega (arith, nodes) in
    let due : d.delivery ch ≡ Some c.args.at = sym (pending-chan s d ch) ∙ (ap (pending_at s d) (sym place) ∙ is) in
    rw (le-ltb c.args.place (node_count s) (omega (arith, nodes, past)), ← same)
    (stands-del c.args.self.now s c.args.timing.now c.args.rows seed d stands keeps.pending ch c.args.at lt due _ c.args.place place refl c.set_pending.ensures refl
    (c.arrive.ensures (executed_of d.state) (λ i. (d.state.chan i).delivered) stands.progress) refl refl)
