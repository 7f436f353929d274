use Rattle.std.proofs.Common.{◌∙◌, Some, set, sym, ap, refl}
use Rattle.lt_audit.specs.Audit.{AuditState, oldest}
use Rattle.lt_audit.proofs.Delivering.{line_fits, line_timely, delivers}
use Rattle.lt_audit.proofs.audit.Audit.deliver.Goals as goal

pub deliver-requires-clause-counted : goal.deliver-requires-clause-counted
deliver-requires-clause-counted g c = line_fits c.args.self.now c.self.inside.lines.items (ap (λ (a : AuditState). a.chans) (sym c.self.view_is)) c.requires.kept c.args.ch c.requires.channel _ c.index_mut.ensures.value

pub deliver-requires-clause-timely : goal.deliver-requires-clause-timely
deliver-requires-clause-timely g c = line_timely c.args.self.now c.self.inside.lines.items (ap (λ (a : AuditState). a.chans) (sym c.self.view_is)) c.requires.kept c.args.ch c.requires.channel _ c.index_mut.ensures.value

pub returns-clause-delivers : goal.returns-clause-delivers
returns-clause-delivers g c =
    delivers c.args.self.now c.self.inside.lines.items (ap (λ (a : AuditState). a.chans) (sym c.self.view_is)) c.requires.kept c.args.ch c.requires.channel _ c.index_mut.ensures.value
    _ c.deliver.new.line c.args.at c.deliver.ensures.line
    (ap (λ (a : AuditState). a.shape) c.self.view_is) (ap (λ (a : AuditState). a.protocol) c.self.view_is) (ap (λ (a : AuditState). a.rows) c.self.view_is) (ap (λ (a : AuditState). a.members) c.self.view_is) (ap (λ (a : AuditState). a.first) c.self.view_is)
    refl (c.deliver.ensures.watch ∙ ap (λ (a : AuditState). record a.watch { sends = set a.watch.sends c.args.ch (oldest c.deliver.new.line.transit); latest = Some c.args.at }) c.self.view_is)
