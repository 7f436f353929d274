use Rattle.std.proofs.Common.{◌≡◌, []}
use Rattle.lt_arch.specs.declared.chan.ChanKind.TheVariants.{Data}
use Rattle.lt_net_node.specs.Channels.{chans_below}
use Rattle.lt_lead.specs.Channels.{is_leader_channel}
use Rattle.lt_lead.proofs.shaping.channels_of.Given as goal

abbrev pub invariant-loop-from : goal.invariant-loop-from
invariant-loop-from l = l.channels ≡ chans_below (is_leader_channel l.cross l.leader) Data l.nodes l.from []
