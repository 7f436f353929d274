use Rattle.lt_emit.specs.Emitted.{emit_verdict}
use Rattle.lt_emit.specs.Loading.{load_site_verdict}
use Rattle.lt_emit.proofs.Emission.{emitted_by}
use Rattle.lt_emit.proofs.emitting.emit.Goals as goal

pub returns : goal.returns
unfolding emit_verdict
returns g c =
    emitted_by c.args.header c.args.node.now (load_site_verdict (g.F.Files.state c.args.files.now).named c.args.program.now c.args.config.now) _ _ c.load_site-site.result c.emit_at.result c.load_site-site.ensures.answered c.emit_at.ensures
