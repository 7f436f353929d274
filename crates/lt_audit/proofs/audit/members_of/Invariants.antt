-- The nodes before this one are at their start.
use Rattle.lt_audit.specs.Starts.{MembersAreAtStart}
use Rattle.lt_audit.proofs.audit.members_of.Given as goal

abbrev pub invariant-loop-node : goal.invariant-loop-node
invariant-loop-node l = MembersAreAtStart l.members.items l.timing l.node
