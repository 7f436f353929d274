-- What an instant leaves, before its messages are sent.
use Rattle.std.proofs.Common.{◌≡◌, ℕ, ◌<◌, List, [], map, set, Option, Some, sym, subst}
use Rattle.std.specs.Prelude.{slice_index_or}
use Rattle.lt_base.specs.declared.value.Value.{Value}
use Rattle.lt_base.specs.Value.{ty_of}
use Rattle.lt_arch.specs.declared.event.Deed.TheVariants.{Execute}
use Rattle.lt_arch.specs.declared.event.Event.TheVariants.{Act}
use Rattle.lt_arch.specs.Deeds.{deed_at, phase_at}
use Rattle.lt_arch.specs.Readers.{node_count, chan_count}
use Rattle.lt_lossy.specs.declared.event.LossyEvent.TheVariants.{Plain}
use Rattle.lt_lossy.specs.State.{plain_of}
use Rattle.lt_net_bench.specs.Changes.{ActsOn, GrowsByRow}
use Rattle.lt_net_bench.specs.Executes.{Executes}
use Rattle.lt_net_bench.specs.Given.{FitsPart}
use Rattle.lt_net_node.specs.Payloads.{types_for}
use Rattle.lt_net_bench.specs.Bench.{BenchState}
use Rattle.lt_net_bench.specs.Room.{HasSpace}
use Rattle.lt_net_bench.specs.Standing.{HasRun}
use Rattle.lt_net_bench.proofs.InstantRun.{buffers_typed, instant_ran as machines_ran}
use Rattle.lt_net_lossy.specs.Net.{LossyBenchState, LossyLists, bench_of_lossy, lossy_state_of}
use Rattle.lt_net_lossy.specs.Stands.{StandsLossy}
use Rattle.lt_net_lossy.specs.Event.{PassesLossy, LossyGoesOn, RowsGo}
use Rattle.lt_net_lossy.specs.Kept.{IsFixedLossy, HasLossySizes}
use Rattle.lt_net_lossy.proofs.Acted.{took_row}
use Rattle.lt_net_lossy.proofs.Reached.{acts_on, balanced, ahead, ahead_next, state_is}
use Rattle.lt_machine.specs.declared.machine.Machine.{Ghosts as Machines}
use Rattle.lt_arch.specs.declared.controller.Controller.{Ghosts as Controls}

module _ {C M : Type 0} (ctl : Controls C) (mch : Machines M) (net : LossyBenchState C M) (fixed : IsFixedLossy net.layout net.shape net.timing) (sized : HasLossySizes net)
    (ls next : LossyLists) (s : StandsLossy ctl mch net ls) (n at : ℕ) (passes : PassesLossy net ls (Plain (Act n at))) (nb : n < node_count net.shape) (row : Option (List Value)) (payload : List Value)
    (goes : LossyGoesOn net ls next (Plain (Act n at)) row payload) (cs : List C) (executes : deed_at net.shape net.rows (plain_of (lossy_state_of net ls)) n ≡ Execute) (input : List Value) (is_row : row ≡ Some input) (fits : FitsPart net.layout n input)
    (room : HasSpace (bench_of_lossy net)) (mid : BenchState C M) (ex : Executes mch (record (bench_of_lossy net) { controllers = cs }) mid n input) where
  pub takes : GrowsByRow ls.inputs next.inputs n input
  takes = took_row (deed_at net.shape net.rows (plain_of (lossy_state_of net ls)) n) n input ls.inputs next.inputs executes
      (subst (λ r. RowsGo n (deed_at net.shape net.rows (plain_of (lossy_state_of net ls)) n) r ls.inputs next.inputs) is_row goes.inputs)

  acts : ActsOn n Execute (phase_at net.shape net.timing net.rows (plain_of (lossy_state_of net ls)) n) (plain_of (lossy_state_of net ls)) (plain_of (lossy_state_of net next))
  acts =
      subst (λ d. ActsOn n d (phase_at net.shape net.timing net.rows (plain_of (lossy_state_of net ls)) n) (plain_of (lossy_state_of net ls)) (plain_of (lossy_state_of net next))) executes
      (subst (λ z. ActsOn n (deed_at net.shape net.rows (plain_of (lossy_state_of net ls)) n) (phase_at net.shape net.timing net.rows (plain_of (lossy_state_of net ls)) n) (plain_of (lossy_state_of net ls)) (plain_of z))
      (sym (state_is ctl mch net ls s (Plain (Act n at)) passes next goes.events))
      (acts_on net.shape net.timing net.watch.limit net.rows (lossy_state_of net ls) (balanced ctl mch net ls s) n at))

  pub instant_typed : (c : ℕ) → c < chan_count net.shape → map ty_of (slice_index_or mid.buffers c []) ≡ types_for net.layout net.shape c
  instant_typed =
      buffers_typed ctl mch (bench_of_lossy net) n fixed.whole fixed.laid fixed.channels room.routes room.exits sized.bench room.tracks (phase_at net.shape net.timing net.rows (plain_of (lossy_state_of net ls)) n) (plain_of (lossy_state_of net ls)) (plain_of (lossy_state_of net next)) ls.inputs next.inputs ls.got s.bench acts
      (ahead ctl mch net ls s fixed) (ahead_next ctl mch net ls s (Plain (Act n at)) passes next goes.events fixed) nb input takes fits cs mid ex

  pub instant_ran : HasRun mch net.layout net.shape (set net.machines n ex.after) mid.executed mid.tracks next.inputs ls.got
  instant_ran =
      machines_ran ctl mch (bench_of_lossy net) n fixed.whole fixed.laid fixed.channels room.routes room.exits sized.bench room.tracks (phase_at net.shape net.timing net.rows (plain_of (lossy_state_of net ls)) n) (plain_of (lossy_state_of net ls)) (plain_of (lossy_state_of net next)) ls.inputs next.inputs ls.got s.bench acts
      (ahead ctl mch net ls s fixed) (ahead_next ctl mch net ls s (Plain (Act n at)) passes next goes.events fixed) nb input takes fits cs mid ex
