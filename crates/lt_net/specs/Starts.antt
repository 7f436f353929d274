-- A net before its first event.
use Rattle.std.specs.Prelude.{◌≡◌, ℕ, ◌<◌, List, [], length, slice_index_or}
use Rattle.lt_arch.specs.declared.shape.Shape.{Shape}
use Rattle.lt_arch.specs.declared.timing.Timing.{Timing}
use Rattle.lt_arch.specs.Readers.{node_count}
use Rattle.lt_place.specs.declared.layout.Layout.{Layout}
use Rattle.lt_net.specs.Net.{TimedBenchState, Lists}
use Rattle.lt_net_bench.specs.Track.{track_at}
use Rattle.lt_net.specs.Stands.{NetStands}
use Rattle.lt_machine.specs.declared.machine.Machine.{Ghosts as Machines}
use Rattle.lt_arch.specs.declared.controller.Controller.{Ghosts as Controls}

-- no events, no rows, no messages
abbrev pub no_lists : Lists
no_lists = record { events = []; inputs = λ n. []; got = λ c. [] }

-- the net has these parts
pub record IsMadeOf {C M : Type 0} (l : Layout) (s : Shape) (t : Timing) (k : ℕ) (ms : List M) (cs : List C) (net : TimedBenchState C M) : Type 0 where
  pub layout : net.layout ≡ l
  pub shape : net.shape ≡ s
  pub timing : net.timing ≡ t
  pub rows : net.rows ≡ k
  pub machines : net.machines ≡ ms
  pub controllers : net.controllers ≡ cs

-- nothing has happened
pub record IsFresh {C M : Type 0} (ctl : Controls C) (mch : Machines M) (net : TimedBenchState C M) : Type 0 where
  pub stands_for : NetStands ctl mch net no_lists
  pub counts : (n : ℕ) → n < node_count net.shape → slice_index_or net.executed n 0 ≡ 0
  pub cells : (y : ℕ) → y < length net.layout.outs → (track_at net.tracks y).cells ≡ []
