use Rattle.lt_net_bench.proofs.TableRows.{route_is}
use Rattle.lt_net_bench.proofs.tables.route_to.Goals as goal

pub returns : goal.returns
returns c =
    route_is c.args.layout.now c.args.channels.now c.args.c c.requires.crossing c.requires.sender _ c.deref-cross.ensures _ c.deref.ensures _ c.index-deref-crossing.result c.index-deref-crossing.is _ c.deref-2.ensures
    _ _ _ c.place_among.ensures c.channel_between.ensures c.count_between.ensures
