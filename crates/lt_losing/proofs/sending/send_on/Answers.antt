use Rattle.lt_sim.proofs.Delays.{order_of}
use Rattle.lt_losing.proofs.sending.send_on.Goals as goal

pub draw-delay-requires-clause-order : goal.draw-delay-requires-clause-order
draw-delay-requires-clause-order c = order_of c.args.timing.now _ _ _ _ c.dmin_of-least.ensures.value c.dmax_of-greatest.ensures.value
