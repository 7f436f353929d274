use Rattle.std.proofs.Common.{◌≡◌, length}
use Rattle.std.specs.Prelude.{slice_index_or}
use Rattle.lt_arch.specs.Greatest.{greatest}
use Rattle.lt_place.specs.Layout.{no_part}
use Rattle.lt_net_bench.proofs.room.most_given.Given as goal

abbrev pub invariant-loop-n : goal.invariant-loop-n
invariant-loop-n l = l.most ≡ greatest (λ n. length (slice_index_or l.nodes n no_part).outs) l.n
