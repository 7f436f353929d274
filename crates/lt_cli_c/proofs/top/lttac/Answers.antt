use Rattle.std.proofs.Common.{refl, map}
use Rattle.std.specs.Prelude.{string_bytes}
use Rattle.lt_cli_c.proofs.LttacPerformed.{lttac_performed}
use Rattle.lt_cli_c.proofs.top.lttac.Goals as goal

pub returns : goal.returns
returns g c = lttac_performed (map string_bytes c.args.words.now) _ _ _ c.perform.ensures refl (g.met.F.Files.sound_tells c.args.files.now)
