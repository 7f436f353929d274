use Rattle.lt_net_node.proofs.DrawnShape.{Makes}
use Rattle.lt_lead.proofs.LeadShape.{makes}
use Rattle.lt_lead.proofs.shaping.lead_shape.Goals as goal

made : (c : goal.In_ok-channels) → Makes c.in_ok-nodes.nodes c.in_ok-channels.channels
made c =
    makes c.requires.placed.0 c.args.layout.now c.requires.placed.1 c.args.leader c.in_ok-nodes.nodes c.deref.result.now c.len-count.result c.in_ok-channels.channels
    c.names_differ.ensures c.in_ok-nodes.ensures c.deref.ensures c.len-count.ensures c.in_ok-channels.ensures

pub invariant_of-result-clause-inhabited : goal.invariant_of-result-clause-inhabited
invariant_of-result-clause-inhabited c = (made c).names_are.inhabited

pub invariant_of-result-clause-identifiers : goal.invariant_of-result-clause-identifiers
invariant_of-result-clause-identifiers c = (made c).names_are.identifiers

pub invariant_of-result-clause-names_differ : goal.invariant_of-result-clause-names_differ
invariant_of-result-clause-names_differ c = (made c).names_are.names_differ

pub invariant_of-result-clause-ends : goal.invariant_of-result-clause-ends
invariant_of-result-clause-ends c = (made c).ends

pub invariant_of-result-clause-channels_differ : goal.invariant_of-result-clause-channels_differ
invariant_of-result-clause-channels_differ c = (made c).differ
