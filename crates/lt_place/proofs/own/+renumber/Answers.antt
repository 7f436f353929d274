use Rattle.lt_place.proofs.Vars.{no_call}
use Rattle.lt_place.proofs.own.+renumber.Goals as goal

pub renumber-unreachable-requires : goal.renumber-unreachable-requires
renumber-unreachable-requires t c = no_call (λ g. ⊥) _ _ _ c.in-Call.is c.requires.callless

pub renumber-unreachable-unreachable : goal.renumber-unreachable-unreachable
renumber-unreachable-unreachable t c = no_call (λ g. ⊥) _ _ _ c.in-Call.is c.requires.callless
