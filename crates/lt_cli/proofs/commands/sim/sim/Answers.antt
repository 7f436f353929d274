use Rattle.lt_cli.proofs.Drawn.{drawn_obeyed}
use Rattle.lt_cli.proofs.commands.sim.sim.Goals as goal

pub returns : goal.returns
returns g c = λ fabric. drawn_obeyed (g.F.Files.state c.args.files.now).named _ _ _ _ _ _ _ fabric _ _ _ _ _ _ c.load_plain-loaded.ensures c.draw.ensures.finishes
