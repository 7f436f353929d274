use Rattle.std.proofs.Common.{◌≡◌, sym, ap, ◌∙◌, arith, []}
use Rattle.lt_arch.specs.declared.chan.ChanKind.TheVariants.{Data}
use Rattle.lt_net_node.specs.Channels.{chans_below}
use Rattle.lt_lead.specs.Channels.{is_leader_channel}
use Rattle.lt_lead.proofs.LeadShape.{no_acks}
use Rattle.lt_lead.proofs.shaping.channels_of.Goals as goal

pub returns : goal.returns
returns c =
    let cross = c.args.cross.now in
    let leader = c.args.leader in
    let n = c.args.nodes in
    let end : c.loop-from.from ≡ n = omega (arith, c.loop-from.auto.from-end) in
    c.loop-from.invariant ∙ ap (λ i. chans_below (is_leader_channel cross leader) Data n i []) end ∙ sym (no_acks cross leader n n (chans_below (is_leader_channel cross leader) Data n n []))
