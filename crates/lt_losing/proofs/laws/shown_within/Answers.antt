use Rattle.lt_losing.proofs.Shown as shown
use Rattle.lt_losing.proofs.laws.shown_within.Goals as goal

pub returns : goal.returns
returns c = shown.shown_within
