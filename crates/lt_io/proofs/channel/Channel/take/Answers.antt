use Rattle.std.proofs.Common.{◌∙◌, ap, rules}
use Rattle.lt_io.proofs.Kept.{kept_next}
use Rattle.lt_io.proofs.channel.Channel.take.Goals as goal

pub invariant_of-self : goal.invariant_of-self
invariant_of-self c =
    kept_next _ _ _ c.in-Some.next _ _ _ c.self.invariant (search rules) (ap (λ p. record { payload = p; bit = c.in-Some.next.bit }) (c.copy_from_slice-in-Some.ensures.items ∙ c.deref-in-Some.ensures))
