use Rattle.lt_expand.proofs.Copying.{no_call}
use Rattle.lt_expand.proofs.raised.+raise.Goals as goal

pub unreachable-requires : goal.unreachable-requires
unreachable-requires t c = no_call (λ g. ⊥) _ _ _ c.in-Call.is c.requires.callless

pub unreachable-unreachable : goal.unreachable-unreachable
unreachable-unreachable t c = no_call (λ g. ⊥) _ _ _ c.in-Call.is c.requires.callless
