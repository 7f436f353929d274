-- A net over links that lose messages before its first event.
use Rattle.std.specs.Prelude.{◌≡◌, ℕ, ◌<◌, List, [], length, map, max, All, replicate, slice_index_or}
use Rattle.lt_base.specs.declared.value.Value.{Value}
use Rattle.lt_arch.specs.declared.shape.Shape.{Shape}
use Rattle.lt_arch.specs.declared.timing.Timing.{Timing}
use Rattle.lt_arch.specs.Readers.{node_count}
use Rattle.lt_lossy.specs.Times.{LossyTimes}
use Rattle.lt_place.specs.declared.layout.Layout.{Layout}
use Rattle.lt_net_node.specs.Local.{firsts}
use Rattle.lt_net_bench.specs.Bench.{BenchState}
use Rattle.lt_link.specs.Ports.{node_ports_of}
use Rattle.lt_net_bench.specs.Starts.{first_inbox, literals_on, route_to, exit_for, most_fed, most_given, IsBlank}
use Rattle.lt_net_bench.specs.Track.{track_at}
use Rattle.lt_net_lossy.specs.Net.{LossyBenchState, LossyLists, lossy_bench_of}
use Rattle.lt_net_lossy.specs.Stands.{StandsLossy}
use Rattle.lt_machine.specs.declared.machine.Machine.{Ghosts as Machines}
use Rattle.lt_arch.specs.declared.controller.Controller.{Ghosts as Controls}

-- nodes and channels have these parts, and nothing has happened: the inboxes and the payloads have the literals of what crosses
pub record IsFirstBench {C M : Type 0} (l : Layout) (s : Shape) (k : ℕ) (ms : List M) (cs : List C) (p : BenchState C M) : Type 0 where
  pub layout : p.layout ≡ l
  pub shape : p.shape ≡ s
  pub rows : p.rows ≡ k
  pub machines : p.machines ≡ ms
  pub controllers : p.controllers ≡ cs
  pub executed : p.executed ≡ replicate (node_count s) 0
  pub inboxes : p.inboxes ≡ map (first_inbox l.cross) s.channels
  pub buffers : p.buffers ≡ map (literals_on l.cross) s.channels
  pub track_count : length p.tracks ≡ length l.outs
  pub blank : All (IsBlank k) p.tracks
  pub routes : p.routes ≡ firsts (route_to l s.channels) (length l.cross)
  pub exits : p.exits ≡ map (exit_for l.nodes) l.outs
  pub ports : p.ports ≡ firsts (node_ports_of s.channels) (node_count s)
  pub values : p.values ≡ max (length l.cross) (most_fed l.nodes)
  pub outs : p.outs ≡ most_given l.nodes

-- the net has nodes and channels at their start, and sends again what these have
pub record HasFirstBench {C M : Type 0} (l : Layout) (s : Shape) (t : Timing) (k : ℕ) (ms : List M) (cs : List C) (watch : LossyTimes) (sent : List ℕ) (net : LossyBenchState C M) : Type 0 where
  pub bench : BenchState C M
  pub posted : List (List Value)
  pub first : IsFirstBench l s k ms cs bench
  pub again : posted ≡ bench.buffers
  pub is : net ≡ lossy_bench_of bench t watch sent posted

-- no events, no rows, no messages
abbrev pub no_lossy_lists : LossyLists
no_lossy_lists = record { events = []; inputs = λ n. []; got = λ c. [] }

-- the net has these parts, and allows so many losses in a row
pub record IsMadeOfLossy {C M : Type 0} (l : Layout) (s : Shape) (t : Timing) (allowed k : ℕ) (ms : List M) (net : LossyBenchState C M) : Type 0 where
  pub layout : net.layout ≡ l
  pub shape : net.shape ≡ s
  pub timing : net.timing ≡ t
  pub limit : net.watch.limit ≡ allowed
  pub rows : net.rows ≡ k
  pub machines : net.machines ≡ ms

-- nothing has happened
pub record IsFreshLossy {C M : Type 0} (ctl : Controls C) (mch : Machines M) (net : LossyBenchState C M) : Type 0 where
  pub stands_for : StandsLossy ctl mch net no_lossy_lists
  pub counts : (n : ℕ) → n < node_count net.shape → slice_index_or net.executed n 0 ≡ 0
  pub cells : (y : ℕ) → y < length net.layout.outs → (track_at net.tracks y).cells ≡ []
