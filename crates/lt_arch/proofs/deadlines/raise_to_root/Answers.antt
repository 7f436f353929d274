use Rattle.std.proofs.Common.{◌+◌, ◌/◌, ◌∙◌, arith, ap}
use Rattle.std.proofs.lemmas.List.{get_or-set_same}
use Rattle.lt_arch.specs.Queue.{queue_slot, no_entry}
use Rattle.lt_arch.proofs.Raising.{raised-init, raised-step, raised-least, paid-init, paid-step}
use Rattle.lt_arch.proofs.deadlines.raise_to_root.Goals as goal

pub loop-i-init : goal.loop-i-init
loop-i-init g c = record {
  raised = rw c.place_entry.ensures.entries (raised-init c.args.entries.now c.args.places c.args.place c.args.e c.requires.size c.requires.place c.requires.inner);
  least = rw c.place_entry.ensures.entries (get_or-set_same c.args.entries.now (c.args.places + c.args.place) c.args.e no_entry (omega (arith, c.requires.size, c.requires.place)));
  bound = c.requires.bound;
  low = omega arith;
  high = omega arith;
  cost = λ d le. paid-init c.args.places c.args.place c.args.steps.now c.place_entry.new.steps d c.requires.place le c.place_entry.ensures.cost;
}

pub loop-i-preserved : goal.loop-i-preserved
loop-i-preserved g c = record {
  raised =
      rw c.place_entry-in-loop-i.ensures.entries
      (raised-step c.args.entries.now c.loop-i.entries c.args.places c.args.place c.loop-i.i c.args.e c.lesser_by_sum-least.result c.loop-i.invariant.raised c.requires.place c.loop-i-test.true c.loop-i.invariant.high
      (c.lesser_by_sum-least.ensures.value ∙ raised-least c.loop-i.entries c.loop-i.i c.loop-i.least c.entry.result c.loop-i.invariant.least (c.entry.ensures.entry ∙ ap (queue_slot c.loop-i.entries) c.beside.ensures)));
  least = rw c.place_entry-in-loop-i.ensures.entries (get_or-set_same c.loop-i.entries (c.loop-i.i / 2) c.lesser_by_sum-least.result no_entry (omega (arith, c.loop-i.invariant.raised.size, c.loop-i.invariant.high, c.requires.place)));
  bound = c.lesser_by_sum-least.ensures.bound;
  low = omega (arith, c.loop-i-test.true);
  high = omega (arith, c.loop-i.invariant.high);
  cost = λ d le. paid-step c.loop-i.i c.loop-i.steps c.place_entry-in-loop-i.new.steps c.args.steps.now d c.loop-i-test.true
      (omega (arith, c.entry.ensures.cost, c.place_entry-in-loop-i.ensures.cost))
      (c.loop-i.invariant.cost d le);
}
