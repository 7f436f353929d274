use Rattle.std.proofs.Common.{◌∙◌, refl, sym}
use Rattle.lt_net_lossy.proofs.starting.first_lossy_bench.Goals as goal

pub returns : goal.returns
returns g c = record {
  bench = c.first_bench.result;
  posted = c.args.first.posted.items;
  first = c.first_bench.ensures.first;
  again = c.requires.posted ∙ sym c.first_bench.ensures.buffers;
  is = refl;
}
