use Rattle.std.proofs.Common.{◌∙◌, ℕ, List, Some, length, ap, slice_index_or}
use Rattle.lt_arch.specs.Deadline.{least_below}
use Rattle.lt_losing.proofs.Standing.{first_is}
use Rattle.lt_losing.proofs.drawing.LossyDrawing.first.Goals as goal

pub returns : goal.returns
returns c s t seed d stands =
    let k = c.args.self.now in
    let best = c.first_activation-best.ensures ∙ ap (λ (xs : List ℕ). least_below (λ n. Some (slice_index_or xs n 0)) (length xs)) c.as_slice.ensures.value in
    first_is k s t seed d stands c.len-nodes.result c.first_activation-best.result c.first_arrival.result (c.len-nodes.ensures ∙ k.activations.ok.0) best c.first_arrival.ensures
