use Rattle.std.proofs.Common.{◌≤◌, ℕ, List, All, sym, subst}
use Rattle.std.proofs.lemmas.List.Elements.{All-drop}
use Rattle.lt_arch.specs.declared.limits.TheConstants.{GREATEST_TIME}
use Rattle.lt_lossy.specs.Window.{room}
use Rattle.lt_lossy_audit.specs.declared.letter.Letter.{Letter}
use Rattle.lt_lossy_audit.proofs.link.Link.deliver.Goals as goal

pub invariant_of-self : goal.invariant_of-self
invariant_of-self c = record {
  space = subst (λ (k : ℕ). room ≤ k) (sym c.pop_front.ensures.capacity) c.self.invariant.space;
  timely = subst (λ (xs : List Letter). All (λ (a : Letter). a.sent_at ≤ GREATEST_TIME) xs) (sym c.pop_front.ensures.rest) (All-drop (λ (a : Letter). a.sent_at ≤ GREATEST_TIME) 1 c.self.inside.transit.items c.self.invariant.timely);
}
