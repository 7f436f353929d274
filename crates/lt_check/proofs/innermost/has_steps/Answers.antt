use Rattle.std.proofs.Common.{◌∙◌, sym, ap, reverse}
use Rattle.std.proofs.lemmas.Slice.Eq.{slice_eq-Decides}
use Rattle.std.proofs.lemmas.Bool.Decides.{Decides-like}
use Rattle.lt_check.proofs.ClockLemmas.{same_reversed}
use Rattle.lt_check.proofs.AtLemmas.{from_decides, steps_decide}
use Rattle.lt_check.proofs.innermost.has_steps.Goals as goal

pub returns : goal.returns
returns c =
    let view = ap reverse c.as_slice.ensures ∙ c.clock.view_is in
    from_decides c.eq.result
    (Decides-like c.eq.result (λ h. sym view ∙ ap reverse h) (λ h. same_reversed c.as_slice.result.now c.args.steps.now (view ∙ h)) (slice_eq-Decides steps_decide c.as_slice.result.now c.args.steps.now c.eq.result c.eq.ensures))
