use Rattle.std.proofs.Common.{map}
use Rattle.std.specs.Prelude.{string_bytes}
use Rattle.lt_cli.proofs.Performed.{performed}
use Rattle.lt_cli.proofs.top.ltta.Goals as goal

pub returns : goal.returns
returns g c = performed (map string_bytes c.args.words.now) _ _ _ c.perform.ensures (g.met.F.Files.sound_tells c.args.files.now)
