-- An activation that executes, by what code has.
use Rattle.std.proofs.Common.{◌≡◌, ℕ, ◌<◌, ◌≤◌, true, false, List, [], length, set, Option, Some, None, sym, ap, ◌∙◌, subst}
use Rattle.std.specs.Prelude.{slice_index_or, Result, Ok, Err, IsErrAnd}
use Rattle.lt_base.specs.declared.value.Value.{Value}
use Rattle.lt_base.specs.Program.{Function}
use Rattle.lt_arch.specs.declared.event.Deed.{Deed}
use Rattle.lt_arch.specs.declared.event.Deed.TheVariants.{Execute}
use Rattle.lt_arch.specs.declared.event.Event.TheVariants.{Act}
use Rattle.lt_arch.specs.declared.limits.TheConstants.{GREATEST_TIME}
use Rattle.lt_arch.specs.declared.shape.Shape.{Shape}
use Rattle.lt_arch.specs.declared.timing.Timing.{Timing}
use Rattle.lt_arch.specs.State.{State}
use Rattle.lt_arch.specs.Readers.{node_count, chan_count}
use Rattle.lt_arch.specs.Step.{offence_of, sends_on}
use Rattle.lt_arch.specs.Times.{Times, HasTimes}
use Rattle.lt_io.specs.FabricState.{FabricState}
use Rattle.lt_net.specs.Net.{TimedBenchState, bench_of}
use Rattle.lt_net.specs.Event.{EventIsTaken, FabricHolds}
use Rattle.lt_net.specs.Kept.{Kept, IsSized, NetHasRoom}
use Rattle.lt_net_bench.specs.Given.{FitsPart}
use Rattle.lt_net.specs.Given.{HasRow}
use Rattle.lt_link.specs.Ports.{is_from}
use Rattle.lt_net_node.specs.Wakes.{bits_of, Wakes, AreConfigured}
use Rattle.lt_net_bench.specs.Executes.{CanExecute, Executes}
use Rattle.lt_net.specs.Ran.{SameRest}
use Rattle.lt_net.specs.Sends.{SendsUpTo, message_on}
use Rattle.lt_net_bench.proofs.SizesStay.{space_ran}
use Rattle.lt_net.proofs.Benches.{sizes_of, space_of, room_by}
use Rattle.lt_net.proofs.IdleActivation.{free_now, empty_now, configured_still, controls_length}
use Rattle.lt_net.proofs.ExecuteTaken.{acks_are, run_halted, run_sized, execute_kept, execute_happens, execute_holds}
use Rattle.lt_net.specs.Halts.{HasHalted}
use Rattle.lt_net.specs.Stands.{NetStands}
use Rattle.lt_net.specs.Net.{Lists}
use Rattle.lt_net.proofs.Executable.{more_rows, can_execute}
use Rattle.lt_machine.specs.declared.machine.Machine.{Ghosts as Machines}
use Rattle.lt_arch.specs.declared.controller.Controller.{Ghosts as Controls}

-- the error that a `?` hands on
pub err_is : {T E : Type 0} (r : Result T E) (e : E) → IsErrAnd r (λ f. f ≡ e) → r ≡ Err e
err_is (Ok x) e is = absurd is
err_is (Err f) e is = ap (λ g. Err g) is

some_same : {A : Type 0} (a b : A) → Some a ≡ Some b → a ≡ b
some_same a b h = cc

module _ {C M : Type 0} (ctl : Controls C) (mch : Machines M) (n at : ℕ) (timely : at ≤ GREATEST_TIME) (row : Option (List Value)) where
  abbrev Begins : TimedBenchState C M → Type 0
  Begins z = Kept ctl mch z × AreConfigured ctl z.timing z.controllers × (n < node_count z.shape) × ((s : Shape) (t : Timing) (st : State) → HasTimes z.watch s t st → offence_of s t st (Act n at) ≡ None) × NetHasRoom z × HasRow z n row

  module _ (net now : TimedBenchState C M) (is : net ≡ now) (begins : Begins now) (cs : List C) (d : Deed)
      (wakes : Wakes ctl net.controllers cs n (bits_of net.shape.channels net.inboxes net.executed net.rows n) d)
      (executes : d ≡ Execute) where
    b : Begins net
    b = subst Begins (sym is) begins

    pub row_given : (r : List Value) × (row ≡ Some r) × FitsPart net.layout n r
    row_given = b.5 (more_rows ctl mch net b.0 b.1 n at timely b.2 b.3 cs d wakes executes)

    -- nothing is in transit where it sends
    pub run_free : (c : ℕ) → c < chan_count net.shape → is_from net.shape.channels n false c ≡ true → slice_index_or net.watch.sends c None ≡ None
    run_free c h on = free_now ctl mch net b.0 b.1 n at timely b.2 b.3 cs d wakes c h (ap (λ x. sends_on net.shape net.timing n x c) executes ∙ sym (acks_are net b.0.fixed.no_acks n c h) ∙ on)

    pub run_empty : (old : FabricState) → FabricHolds now old → (c : ℕ) → c < chan_count net.shape → is_from net.shape.channels n false c ≡ true → old.transit c ≡ []
    run_empty old holds c h on = empty_now ctl mch net b.0 b.1 n at timely b.2 b.3 cs d wakes old (subst (λ z. FabricHolds z old) (sym is) holds) c h (ap (λ x. sends_on net.shape net.timing n x c) executes ∙ sym (acks_are net b.0.fixed.no_acks n c h) ∙ on)

    module _ (r : List Value) (r_is : row ≡ Some r) where
      fits : FitsPart net.layout n r
      fits = let g = row_given in subst (λ x. FitsPart net.layout n x) (some_same g.0 r (sym g.1 ∙ r_is)) g.2

      pub run_can : ((m : M) (f : Function) (rows : List (List Value)) → mch.stands m f rows → (mch.inputs m ≡ f.n_in) × (mch.outputs m ≡ length f.outs)) → CanExecute mch (record (bench_of net) { controllers = cs }) n r
      run_can numbers = can_execute ctl mch net b.0 b.1 n at timely b.2 b.3 cs d wakes executes b.4 r fits numbers

      module _ (new : TimedBenchState C M) (ex : Executes mch (record (bench_of net) { controllers = cs }) (bench_of new) n r) (rest : SameRest (record net { controllers = cs }) new) where
        new_is : new ≡ record net { watch = new.watch; controllers = cs; machines = set net.machines n ex.after; executed = new.executed; inboxes = new.inboxes; tracks = new.tracks; buffers = new.buffers }
        new_is = λ i. record {
          layout = rest.static.layout i;
          shape = rest.static.shape i;
          timing = rest.static.timing i;
          rows = rest.static.rows i;
          watch = new.watch;
          machines = ex.machines i;
          controllers = rest.controllers i;
          executed = new.executed;
          inboxes = new.inboxes;
          buffers = new.buffers;
          tracks = new.tracks;
          routes = rest.routes i;
          exits = rest.exits i;
          ports = rest.ports i;
          values = rest.values i;
          outs = rest.outs i;
        }

        -- after an error too
        pub ran_sized : IsSized new
        ran_sized = subst (λ z. IsSized z) (sym new_is) (run_sized ctl mch net b.0 b.1 n at timely b.2 b.3 cs d wakes executes b.4 r fits new ex new.watch rest.lasts rest.sends)

        pub ran_halted : (ls : Lists) → NetStands ctl mch now ls → HasHalted mch new ls (Act n at) row
        ran_halted ls s =
            subst (λ x. HasHalted mch new ls (Act n at) x) (sym r_is)
            (subst (λ z. HasHalted mch z ls (Act n at) (Some r)) (sym new_is)
            (run_halted ctl mch net b.0 b.1 n at timely b.2 b.3 cs d wakes executes b.4 r fits new ex new.watch ls (subst (λ z. NetStands ctl mch z ls) (sym is) s)))

        pub ran_configured : AreConfigured ctl new.timing new.controllers
        ran_configured = subst (λ (z : TimedBenchState C M). AreConfigured ctl z.timing z.controllers) (sym new_is) (configured_still ctl mch net b.0 b.1 n at timely b.2 b.3 cs d wakes)

        pub ran_room : NetHasRoom new
        ran_room =
            subst (λ z. NetHasRoom z) (sym new_is)
            (room_by (record net { watch = new.watch; controllers = cs; machines = set net.machines n ex.after; executed = new.executed; inboxes = new.inboxes; tracks = new.tracks; buffers = new.buffers })
            (space_ran (bench_of net) (sizes_of net b.0.sized) cs (controls_length ctl mch net b.0 b.1 n at timely b.2 b.3 cs d wakes) mch n r (bench_of new) ex (space_of net b.4)))

        pub ran_taken : (old fabric : FabricState) → FabricHolds now old → (noted : Times) → SendsUpTo (length net.shape.channels) (is_from net.shape.channels n false) (message_on new.buffers new.inboxes) at old fabric net.watch noted →
            new.watch ≡ record noted { lasts = set noted.lasts n (Some at); latest = Some at } → EventIsTaken ctl mch now new (Act n at) row old fabric
        ran_taken old fabric holds noted sent watch =
            let h : FabricHolds net old = subst (λ z. FabricHolds z old) (sym is) holds in
            subst (λ z. EventIsTaken ctl mch z new (Act n at) row old fabric) is
            (subst (λ x. EventIsTaken ctl mch net new (Act n at) x old fabric) (sym r_is)
            (subst (λ z. EventIsTaken ctl mch net z (Act n at) (Some r) old fabric) (sym new_is) (record {
              kept = execute_kept ctl mch net b.0 b.1 n at timely b.2 b.3 cs d wakes executes b.4 r fits new ex old fabric h noted sent new.watch watch;
              happens = execute_happens ctl mch net b.0 b.1 n at timely b.2 b.3 cs d wakes executes b.4 r fits new ex old fabric h noted sent new.watch watch;
              holds = execute_holds ctl mch net b.0 b.1 n at timely b.2 b.3 cs d wakes executes b.4 r fits new ex old fabric h noted sent new.watch watch;
              kinds = sent.sends.kinds;
            })))
