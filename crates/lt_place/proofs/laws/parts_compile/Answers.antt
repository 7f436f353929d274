use Rattle.lt_place.proofs.Compilable.{parts_compile}
use Rattle.lt_place.proofs.laws.parts_compile.Goals as goal

pub returns : goal.returns
returns c = parts_compile
