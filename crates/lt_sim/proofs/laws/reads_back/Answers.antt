use Rattle.lt_sim.specs.Drawn.{drawn}
use Rattle.lt_sim.proofs.Ending.{drawn-sound}
use Rattle.lt_sim.proofs.FileRows.{file_accepted}
use Rattle.lt_sim.proofs.laws.reads_back.Goals as goal

pub returns : goal.returns
returns c s t rows seed horizon one near few =
    let sound = drawn-sound s t rows seed horizon one near in
    file_accepted s t rows (drawn s t rows seed horizon) sound.placed few sound.admissible
