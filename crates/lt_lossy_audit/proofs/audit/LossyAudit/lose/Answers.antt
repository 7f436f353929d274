use Rattle.std.proofs.Common.{◌≡◌, ◌<◌, sym, subst, slice_index_or}
use Rattle.lt_lossy.specs.Schedule.{lossy_reached}
use Rattle.lt_lossy.specs.Times.{losses_at}
use Rattle.lt_lossy_audit.specs.LossyAudit.{LossyAuditState}
use Rattle.lt_lossy_audit.proofs.SpaceSeen.{link_few, watch_few}
use Rattle.lt_lossy_audit.proofs.audit.LossyAudit.lose.Goals as goal

pub lose-requires : goal.lose-requires
lose-requires g c =
    let a = c.args.self.now in
    let kept = c.requires.kept in
    let none = c.requires.passes a.shape kept.timing kept.limit (lossy_reached a.shape kept.timing a.rows kept.events) kept.stands.state.times in
    link_few a kept c.args.ch c.args.at c.requires.channel none c.index_mut.result.now (subst (λ (k : LossyAuditState). c.index_mut.result.now ≡ slice_index_or k.links c.args.ch c.index_mut.result.now) c.self.view_is c.index_mut.ensures.value)

pub lost-requires-clause-few : goal.lost-requires-clause-few
lost-requires-clause-few g c =
    let a = c.args.self.now in
    let kept = c.requires.kept in
    let none = c.requires.passes a.shape kept.timing kept.limit (lossy_reached a.shape kept.timing a.rows kept.events) kept.stands.state.times in
    subst (λ (k : LossyAuditState). losses_at k.watch c.args.ch < k.watch.limit) (sym c.self.view_is) (watch_few a kept c.args.ch c.args.at c.requires.channel none)
