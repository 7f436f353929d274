use Rattle.std.proofs.Common.{◌∙◌, ap, length}
use Rattle.lt_place.proofs.Assigned.{resized_zeros}
use Rattle.lt_place.proofs.assign.on_one.Goals as goal

pub returns : goal.returns
returns c = c.in_ok-resize.ensures.items ∙ resized_zeros c.args.f.now.origin (length c.origins.result.now) _ _ (ap length c.origins.ensures) c.new-nodes.ensures.items c.new-nodes.ensures.len
