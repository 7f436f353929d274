use Rattle.std.proofs.Common.{◌≡◌}
use Rattle.lt_arch.specs.declared.chan.ChanKind.TheVariants.{Data}
use Rattle.lt_net_node.specs.Channels.{chans_from}
use Rattle.lt_lead.specs.Channels.{is_leader_channel}
use Rattle.lt_lead.proofs.shaping.add_from.Given as goal

abbrev pub invariant-loop-to : goal.invariant-loop-to
invariant-loop-to l = l.channels ≡ chans_from (is_leader_channel l.cross l.leader) Data l.from l.to l.initial.channels
