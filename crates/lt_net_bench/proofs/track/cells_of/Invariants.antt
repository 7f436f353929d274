use Rattle.std.proofs.Common.{◌≡◌, map}
use Rattle.lt_net_bench.specs.Track.{TrackState}
use Rattle.lt_net_bench.proofs.track.cells_of.Given as goal

abbrev pub invariant-loop-track : goal.invariant-loop-track
invariant-loop-track l = l.cells.items ≡ map (λ (t : TrackState). t.cells) l.yielded
