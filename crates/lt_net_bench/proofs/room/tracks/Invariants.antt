use Rattle.std.proofs.Common.{◌≡◌, All, length}
use Rattle.lt_net_bench.specs.Starts.{IsBlank}
use Rattle.lt_net_bench.proofs.room.tracks.Given as goal

abbrev pub invariant-loop-output : goal.invariant-loop-output
invariant-loop-output l = record {
  size : length l.tracks.items ≡ l._output;
  blank : All (IsBlank l.rows) l.tracks.items;
}
