-- A node that is to execute can.
use Rattle.std.proofs.Common.{◌≡◌, ℕ, ◌<◌, ◌≤◌, List, length, None, sym, ◌∙◌, arith}
use Rattle.std.specs.Prelude.{slice_index_or}
use Rattle.lt_base.specs.declared.value.Value.{Value}
use Rattle.lt_base.specs.Program.{Function}
use Rattle.lt_arch.specs.declared.event.Deed.{Deed}
use Rattle.lt_arch.specs.declared.event.Deed.TheVariants.{Execute}
use Rattle.lt_arch.specs.declared.event.Event.TheVariants.{Act}
use Rattle.lt_arch.specs.declared.shape.Shape.{Shape}
use Rattle.lt_arch.specs.declared.timing.Timing.{Timing}
use Rattle.lt_arch.specs.State.{State}
use Rattle.lt_arch.specs.Readers.{node_count}
use Rattle.lt_arch.specs.Deeds.{deed_at}
use Rattle.lt_arch.specs.Step.{offence_of}
use Rattle.lt_arch.specs.Times.{HasTimes}
use Rattle.lt_net.specs.Net.{TimedBenchState, Lists, reached_state, bench_of}
use Rattle.lt_net.specs.Stands.{NetStands}
use Rattle.lt_net.specs.Kept.{Kept}
use Rattle.lt_net_node.specs.Wakes.{bits_of, Wakes, AreConfigured}
use Rattle.lt_arch.specs.declared.limits.TheConstants.{GREATEST_TIME}
use Rattle.lt_net.specs.Kept.{NetHasRoom}
use Rattle.lt_net_bench.specs.Given.{FitsPart}
use Rattle.lt_net.proofs.IdleActivation.{deed_by_bits}
use Rattle.lt_arch.specs.State.{executed_of}
use Rattle.lt_arch.specs.Deeds.{all_in, any_in, all_ack, more}
use Rattle.lt_net_bench.specs.Executes.{CanExecute}
use Rattle.lt_net_bench.proofs.Bits.{leb-le}
use Rattle.lt_net_bench.proofs.Able.{can_execute as able}
use Rattle.lt_net.proofs.Benches.{sizes_of, space_of}
use Rattle.lt_net.proofs.ReplayStep.{deed_more}
use Rattle.lt_machine.specs.declared.machine.Machine.{Ghosts as Machines}
use Rattle.lt_arch.specs.declared.controller.Controller.{Ghosts as Controls}

module _ {C M : Type 0} (ctl : Controls C) (mch : Machines M) (net : TimedBenchState C M) (kept : Kept ctl mch net) (configured : AreConfigured ctl net.timing net.controllers)
    (n at : ℕ) (timely : at ≤ GREATEST_TIME) (nb : n < node_count net.shape) (passes : (s : Shape) (t : Timing) (st : State) → HasTimes net.watch s t st → offence_of s t st (Act n at) ≡ None)
    (cs : List C) (d : Deed)
    (wakes : Wakes ctl net.controllers cs n (bits_of net.shape.channels net.inboxes net.executed net.rows n) d)
    (executes : d ≡ Execute) where
  ls : Lists
  ls = (kept.standing).0

  s : NetStands ctl mch net (kept.standing).0
  s = (kept.standing).1

  nl : n < length net.layout.nodes
  nl = omega (arith, nb, kept.fixed.channels.nodes)

  deed_now : deed_at net.shape net.rows (reached_state net (kept.standing).0) n ≡ Execute
  deed_now = sym (deed_by_bits ctl mch net kept configured n at timely nb passes cs d wakes (kept.standing).0 s) ∙ executes

  -- an input row is left
  pub more_rows : slice_index_or net.executed n 0 < net.rows
  more_rows =
      let st = reached_state net (kept.standing).0 in
      let left_over : executed_of (reached_state net (kept.standing).0) n < net.rows = leb-le _ _ (deed_more (st.node n).phase (all_in net.shape st n) (any_in net.shape st n) (all_ack net.shape st n) (more net.rows st n) deed_now) in
      let count = s.bench.ran.executed n nb ∙ s.bench.rows n nb in
      omega (arith, left_over, count)

  module _ (room : NetHasRoom net) (row : List Value) (fits : FitsPart net.layout n row)
      (numbers : (m : M) (f : Function) (rows : List (List Value)) → mch.stands m f rows → (mch.inputs m ≡ f.n_in) × (mch.outputs m ≡ length f.outs)) where
    pub can_execute : CanExecute mch (record (bench_of net) { controllers = cs }) n row
    can_execute =
        able ctl mch (bench_of net) n kept.fixed.whole kept.fixed.laid kept.fixed.channels (sizes_of net kept.sized) (space_of net room) (reached_state net (kept.standing).0) (kept.standing).0.inputs (kept.standing).0.got (s.bench) nb more_rows
        cs row fits numbers
