use Rattle.std.proofs.Common.{◌∙◌}
use Rattle.lt_place.proofs.Assigned.{seat_step, owner_inside}
use Rattle.lt_place.proofs.assign.seat_each.Goals as goal

pub loop-owner-preserved : goal.loop-owner-preserved
loop-owner-preserved c = λ ls h.
    seat_step c.args.f.now ls c.origins-origin.result.now c.loop-owner.owner-index c.decls-decls.result.now c.index-decls-owner.result c.as_str-name.result.now c.copied.result c.loop-owner-test.true
    c.decls-decls.ensures (owner_inside c.args.f.now c.requires c.origins-origin.result.now c.decls-decls.result.now c.loop-owner.owner-index c.origins-origin.ensures c.decls-decls.ensures c.loop-owner-test.true)
    c.as_str-name.ensures (c.copied.ensures ∙ c.get.ensures.value ∙ h c.as_str-name.result.now) c.loop-owner.each.items c.push.new.self.items (c.loop-owner.invariant ls h) c.in_ok-push.ensures.items
