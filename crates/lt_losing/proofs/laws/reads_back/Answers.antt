use Rattle.std.proofs.Common.{is_some, ap}
use Rattle.lt_losing.specs.Losing.{lossy_drawn}
use Rattle.lt_losing.proofs.Ending.{lossy_drawn-free, lossy_drawn-sound}
use Rattle.lt_losing.proofs.FileRows.{file_judged}
use Rattle.lt_losing.proofs.laws.reads_back.Goals as goal

pub returns : goal.returns
returns c s t limit rows rate seed horizon near few =
    let sound = lossy_drawn-sound s t limit rows rate seed horizon near in
    file_judged s t limit rows (lossy_drawn s t limit rows rate seed horizon) sound.placed few (lossy_drawn-free s t limit rows rate seed horizon near) (ap is_some sound.ends)
