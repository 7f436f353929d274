-- A call that is never refused ends well.
use Rattle.std.proofs.Common.{◌≡◌, ◌≢◌, refl}
use Rattle.lt_text_answers.specs.declared.status.Status.{Status}
use Rattle.lt_text_answers.specs.declared.status.Status.TheVariants as status
use Rattle.lt_big_runs.specs.Runs.{NeverRefused}
use Rattle.lt_big_ends.specs.Ends.{BigEndsWell}

-- no other status
only_well : (s : Status) → (s ≢ status.Ok → ⊥) → s ≡ status.Ok
only_well status.Ok other = refl
only_well status.Words other = absurd (other (λ is. cc))
only_well status.Program other = absurd (other (λ is. cc))
only_well status.Setup other = absurd (other (λ is. cc))
only_well status.Inputs other = absurd (other (λ is. cc))
only_well status.Schedule other = absurd (other (λ is. cc))
only_well status.Outside other = absurd (other (λ is. cc))
only_well status.Write other = absurd (other (λ is. cc))
only_well status.Limit other = absurd (other (λ is. cc))
only_well status.Memory other = absurd (other (λ is. cc))
only_well status.Observer other = absurd (other (λ is. cc))

pub ends_well : NeverRefused → BigEndsWell
ends_well never asked old new ends instants low performs said told quiet found =
    let exact = performs.big instants said told quiet found in
    only_well ends (λ other. (let refused = exact.line other in never instants new.fabric refused.0 low refused.1))
