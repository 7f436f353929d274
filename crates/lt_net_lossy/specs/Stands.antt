-- The lists for which a net over links that lose messages stands.
use Rattle.std.specs.Prelude.{◌≡◌, ℕ, suc, ◌<◌, ◌≤◌, true, List, [], ◌∷◌, slice_index_or}
use Rattle.lt_arch.specs.Readers.{node_count, chan_count, from_of, to_of, carries_data}
use Rattle.lt_arch.specs.declared.limits.TheConstants.{GREATEST_TIME}
use Rattle.lt_lossy.specs.declared.event.LossyEvent.{LossyEvent}
use Rattle.lt_lossy.specs.State.{plain_of, sent_count}
use Rattle.lt_lossy.specs.Schedule.{IsLossyOffenceFree}
use Rattle.lt_lossy.specs.Times.{HasLossyTimes, lossy_time_of}
use Rattle.lt_net_bench.specs.Standing.{HasOwnValues, StandsAt}
use Rattle.lt_net_lossy.specs.Net.{LossyBenchState, LossyLists, bench_of_lossy, lossy_state_of}
use Rattle.lt_machine.specs.declared.machine.Machine.{Ghosts as Machines}
use Rattle.lt_arch.specs.declared.controller.Controller.{Ghosts as Controls}

-- the events are in the range of times
abbrev pub AreLossyUpTo : (limit : ℕ) → List LossyEvent → Type 0
AreLossyUpTo limit [] = Unit {0}
AreLossyUpTo limit (e ∷ es) = (lossy_time_of e ≤ limit) × AreLossyUpTo limit es

-- the net is where these lists lead
pub record StandsLossy {C M : Type 0} (ctl : Controls C) (mch : Machines M) (net : LossyBenchState C M) (ls : LossyLists) : Type 0 where
  -- the events are so far without an offence, and the watch, the nodes and the channels are where they lead
  pub timely : AreLossyUpTo GREATEST_TIME ls.events
  pub clean : IsLossyOffenceFree net.shape net.timing net.watch.limit net.rows ls.events
  pub times : HasLossyTimes net.watch net.shape net.timing net.watch.limit (lossy_state_of net ls)
  pub bench : StandsAt ctl mch (bench_of_lossy net) (plain_of (lossy_state_of net ls)) ls.inputs ls.got
  pub sent : (n : ℕ) → n < node_count net.shape → slice_index_or net.sent n 0 ≡ sent_count ((lossy_state_of net ls).node n)
  -- each channel's payload that is sent again has its sender's values of the instant last sent
  pub posted : (c k : ℕ) → c < chan_count net.shape → carries_data net.shape c ≡ true → sent_count ((lossy_state_of net ls).node (from_of net.shape c)) ≡ suc k →
      HasOwnValues net.layout net.shape ls.inputs ls.got (from_of net.shape c) (to_of net.shape c) k (slice_index_or net.posted c [])
