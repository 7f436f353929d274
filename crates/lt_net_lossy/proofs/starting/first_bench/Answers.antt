use Rattle.std.proofs.Common.{refl}
use Rattle.lt_net_lossy.proofs.starting.first_bench.Goals as goal

pub returns-clause-first : goal.returns-clause-first
returns-clause-first g c = record {
  layout = refl;
  shape = refl;
  rows = refl;
  machines = refl;
  controllers = refl;
  executed = c.requires.executed;
  inboxes = c.requires.inboxes;
  buffers = c.requires.buffers;
  track_count = c.requires.track_count;
  blank = c.requires.blank;
  routes = c.requires.routes;
  exits = c.requires.exits;
  ports = c.requires.ports;
  values = c.requires.values;
  outs = c.requires.outs;
}
