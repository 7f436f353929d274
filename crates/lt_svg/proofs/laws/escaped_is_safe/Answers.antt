use Rattle.lt_svg.proofs.Safe.{law}
use Rattle.lt_svg.proofs.laws.escaped_is_safe.Goals as goal

pub returns : goal.returns
returns c = law
