use Rattle.std.proofs.Common.{Some, refl, ap, sym, ◌∙◌}
use Rattle.std.specs.Prelude.{nat_lt, slice_index_or}
use Rattle.std.proofs.lemmas.Option.{slice_get-get_or}
use Rattle.lt_arch.specs.Deeds.{deed_of}
use Rattle.lt_net_node.proofs.waking.wake.Goals as goal

pub returns : goal.returns
returns g c = record {
  before = c.index_mut.result.now;
  there = slice_get-get_or c.args.controllers.now.items c.args.node c.index_mut.result.now c.requires.node ∙ ap (λ x. Some x) (sym c.index_mut.ensures.value);
  after = c.wake.new.self;
  is = refl;
  deed_is = c.wake.ensures.deed ∙ (λ i. deed_of (g.C.Controller.phase c.index_mut.result.now) (c.all_fresh-all_in.ensures i) (c.any_fresh-any_in.ensures i) (c.all_fresh-all_ack.ensures i) (nat_lt (slice_index_or c.args.executed.now c.args.node 0) c.args.rows));
  phase_is = c.wake.ensures.phase;
  protocol_is = c.wake.ensures.protocol;
  send_is = c.wake.ensures.send;
  execute_is = c.wake.ensures.execute;
}
