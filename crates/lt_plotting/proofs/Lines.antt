-- The line of an observer.
use Rattle.std.proofs.Common.{[], ◌∷◌, append_assoc, codes}
use Rattle.std.specs.Fmt.{decimal}
use Rattle.lt_watch.specs.declared.watched.Watched.TheVariants.{Holds, Fails}
use Rattle.lt_plotting.specs.Laws.{SaysAsWatch}

pub says_law : SaysAsWatch
says_law (Holds n) = append_assoc (codes "holds ") (decimal n) (10 ∷ [])
says_law (Fails i) = append_assoc (codes "fails at ") (decimal i) (10 ∷ [])
