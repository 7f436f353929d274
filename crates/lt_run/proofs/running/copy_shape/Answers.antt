use Rattle.std.proofs.Common.{◌∙◌, ap}
use Rattle.lt_load.specs.Plan.{LoadedPlan}
use Rattle.lt_run.proofs.running.copy_shape.Goals as goal

pub returns : goal.returns
returns c = c.in_ok-shape.ensures ∙ ap (λ (k : LoadedPlan). k.shape) c.loaded.view_is
