use Rattle.std.proofs.Common.{◌≡◌, ◌<◌, None, sym, ap, subst, arith, set}
use Rattle.std.proofs.lemmas.List.{get_or_read}
use Rattle.lt_arch.specs.declared.event.Event.TheVariants.{Act}
use Rattle.lt_arch.specs.Readers.{node_count}
use Rattle.lt_lossy.specs.declared.event.LossyEvent.TheVariants.{Plain}
use Rattle.lt_lossy.specs.Schedule.{lossy_reached}
use Rattle.lt_lossy.specs.Step.{lossy_offence}
use Rattle.lt_lossy.specs.Times.{LossyTimes, WhereverHasTimes}
use Rattle.lt_lossy_audit.specs.LossyActs.{LossyAuditActs}
use Rattle.lt_lossy_audit.specs.LossyAudit.{IsKeptLossyAudit, LossyAuditState}
use Rattle.lt_lossy_audit.specs.Nodes.{nothing_seen}
use Rattle.lt_lossy_audit.proofs.SpaceSeen.{space_to_send, wakes_by}
use Rattle.lt_lossy_audit.proofs.audit.LossyAudit.act.Goals as goal

pub send_all-requires-clause-space : goal.send_all-requires-clause-space
send_all-requires-clause-space g c =
    let n = c.args.node in
    let a : LossyAuditState = record { shape = c.self.inside.shape; rows = c.self.inside.rows; watch = c.self.inside.watch; nodes = c.self.inside.nodes.items; links = c.self.inside.links.items } in
    let kept : IsKeptLossyAudit a = subst IsKeptLossyAudit (sym c.self.view_is) c.requires.kept in
    let node = subst (λ (k : LossyAuditState). n < node_count k.shape) (sym c.self.view_is) c.requires.node in
    let size = kept.nodes in
    let seen = get_or_read c.self.inside.nodes.items n c.index.result.now (omega (arith, node, size)) c.index.ensures nothing_seen in
    let wakes = wakes_by a n c.index.result.now c.woken-woken.result c.all_heard-all_in.result c.all_heard-all_ack.result seen c.all_heard-all_in.ensures c.all_heard-all_ack.ensures
    (record { did = c.woken-woken.ensures.did; phase = c.woken-woken.ensures.phase; executed = c.woken-woken.ensures.executed }) in
    let none = (subst (λ (k : LossyAuditState). WhereverHasTimes k.watch (λ s t allowed st. lossy_offence s t allowed st (Plain (Act n c.args.at)) ≡ None)) (sym c.self.view_is) c.requires.passes) a.shape kept.timing kept.limit (lossy_reached a.shape kept.timing a.rows kept.events) kept.stands.state.times in
    space_to_send a kept n c.args.at node c.woken-woken.result wakes none

pub returns : goal.returns
returns g c =
    let n = c.args.node in
    let a : LossyAuditState = record { shape = c.self.inside.shape; rows = c.self.inside.rows; watch = c.self.inside.watch; nodes = c.self.inside.nodes.items; links = c.self.inside.links.items } in
    let kept : IsKeptLossyAudit a = subst IsKeptLossyAudit (sym c.self.view_is) c.requires.kept in
    let node = subst (λ (k : LossyAuditState). n < node_count k.shape) (sym c.self.view_is) c.requires.node in
    let size = kept.nodes in
    let seen = get_or_read c.self.inside.nodes.items n c.index.result.now (omega (arith, node, size)) c.index.ensures nothing_seen in
    let wakes = wakes_by a n c.index.result.now c.woken-woken.result c.all_heard-all_in.result c.all_heard-all_ack.result seen c.all_heard-all_in.ensures c.all_heard-all_ack.ensures
    (record { did = c.woken-woken.ensures.did; phase = c.woken-woken.ensures.phase; executed = c.woken-woken.ensures.executed }) in
    subst (λ (k : LossyAuditState). LossyAuditActs k (record { shape = c.self.inside.shape; rows = c.self.inside.rows; watch = c.acted.new.self; nodes = set c.self.inside.nodes.items n c.woken-woken.result; links = c.send_all.new.links.items }) n c.args.at) c.self.view_is
    (record {
      woken = c.woken-woken.result;
      wakes = wakes;
      links = c.send_all.new.links.items;
      sent = c.send_all.new.watch;
      sends = c.send_all.ensures;
      is = ap (λ (w : LossyTimes). record { shape = c.self.inside.shape; rows = c.self.inside.rows; watch = w; nodes = set c.self.inside.nodes.items n c.woken-woken.result; links = c.send_all.new.links.items }) c.acted.ensures.times;
    })
