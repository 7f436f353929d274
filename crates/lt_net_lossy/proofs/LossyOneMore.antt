-- A net along a schedule that takes one event more over links that lose messages.
use Rattle.std.proofs.Common.{◌≡◌, ◌^◌, ◌<◌, List, [], ◌∷◌, ◌++◌, length, Option, Some, None, Result, Ok, Err, refl, sym, ap, ◌∙◌, subst}
use Rattle.std.specs.Prelude.{◌↔◌}
use Rattle.lt_base.specs.declared.value.Value.{Value}
use Rattle.lt_arch.specs.Readers.{node_count, chan_count}
use Rattle.lt_io.specs.FabricState.{FabricState, KeepsFabric}
use Rattle.lt_lossy.specs.declared.event.LossyEvent.{LossyEvent}
use Rattle.lt_lossy.specs.declared.event.LossyOffence.{LossyOffence}
use Rattle.lt_lossy.specs.Events.{IsLossyPlacedIn}
use Rattle.lt_lossy.specs.State.{LossyState}
use Rattle.lt_lossy.specs.Step.{lossy_offence}
use Rattle.lt_lossy.specs.Schedule.{lossy_reached}
use Rattle.lt_net_bench.specs.Given.{FitsPart}
use Rattle.lt_net_node.specs.Payloads.{row_at}
use Rattle.lt_net_lossy.specs.declared.fault.LossyFault.{LossyFault}
use Rattle.lt_net_lossy.specs.declared.fault.LossyFault.TheVariants.{Offence as Refused}
use Rattle.lt_net_lossy.specs.Net.{LossyLists, lossy_state_of}
use Rattle.lt_net_lossy.specs.NetModel.{LossyNetState}
use Rattle.lt_net_lossy.specs.Stands.{StandsLossy}
use Rattle.lt_net_lossy.specs.Taken.{HasLossyKinds, IsTakenLossy}
use Rattle.lt_net_lossy.specs.LossyPlays.{lossy_row_for, IsFedLossy, PlaysLossy}
use Rattle.lt_net_lossy.proofs.NextLists.{one_more}
use Rattle.lt_machine.specs.declared.machine.Machine.{Ghosts as Machines}
use Rattle.lt_arch.specs.declared.controller.Controller.{Ghosts as Controls}

-- no offence, where none is answered
free_by : {T : Type 0} (x : Option LossyOffence) (r : Result T LossyFault) (y : T) → r ≡ Ok y → ((o : LossyOffence) → (r ≡ Err (Refused o)) ↔ (x ≡ Some o)) → x ≡ None
free_by None r y is tells = refl
free_by (Some o) r y is tells = absurd (let q : Path (Result _ LossyFault) (Ok y) (Err (Refused o)) = sym is ∙ (tells o).1 refl in cc)

module _ {C M : Type 0} (ctl : Controls C) (mch : Machines M) (inputs : List (List Value)) (before : List LossyEvent) (net : LossyNetState C M) (old : FabricState)
    (p : PlaysLossy ctl mch inputs before net old) where
  abbrev reached_now : LossyState
  reached_now = lossy_reached net.bench.shape net.bench.timing net.bench.rows before

  state_is : lossy_state_of net.bench (p.kept).0 ≡ reached_now
  state_is = ap (lossy_reached net.bench.shape net.bench.timing net.bench.rows) (p.kept).1.events

  -- the offence that an event is answered with is that behind these events
  pub offence_by : {T : Type 0} (e : LossyEvent) (r : Result T LossyFault) (o : LossyOffence) → r ≡ Err (Refused o) →
      ((ls : LossyLists) → StandsLossy ctl mch net.bench ls → (o : LossyOffence) → (r ≡ Err (Refused o)) ↔ (lossy_offence net.bench.shape net.bench.timing net.bench.watch.limit (lossy_state_of net.bench ls) e ≡ Some o)) →
      lossy_offence net.bench.shape net.bench.timing net.bench.watch.limit (lossy_reached net.bench.shape net.bench.timing net.bench.rows before) e ≡ Some o
  offence_by e r o is tells = ap (λ st. lossy_offence net.bench.shape net.bench.timing net.bench.watch.limit st e) (sym state_is) ∙ (tells (p.kept).0 (p.kept).1.stood.standing o).0 is

  -- an event that is taken has none
  pub free_of : {T : Type 0} (e : LossyEvent) (r : Result T LossyFault) (y : T) → r ≡ Ok y →
      ((ls : LossyLists) → StandsLossy ctl mch net.bench ls → (o : LossyOffence) → (r ≡ Err (Refused o)) ↔ (lossy_offence net.bench.shape net.bench.timing net.bench.watch.limit (lossy_state_of net.bench ls) e ≡ Some o)) →
      lossy_offence net.bench.shape net.bench.timing net.bench.watch.limit (lossy_reached net.bench.shape net.bench.timing net.bench.rows before) e ≡ None
  free_of e r y is tells =
      ap (λ st. lossy_offence net.bench.shape net.bench.timing net.bench.watch.limit st e) (sym state_is)
      ∙ free_by (lossy_offence net.bench.shape net.bench.timing net.bench.watch.limit (lossy_state_of net.bench (p.kept).0) e) r y is (tells (p.kept).0 (p.kept).1.stood.standing)

  module _ (next : LossyNetState C M) (new : FabricState) (e : LossyEvent) (there : IsLossyPlacedIn net.bench.shape e) (row : Option (List Value)) (row_is : row ≡ lossy_row_for net.bench inputs e)
      (taken : IsTakenLossy ctl mch net.bench next.bench e row old new) where
    fed_on : length next.bench.executed ≡ node_count next.bench.shape → IsFedLossy next.bench inputs
    fed_on counts =
        let fed = p.fed in
        let same = taken.static in
        record {
          fixed = taken.kept.fixed;
          rows = same.rows ∙ fed.rows;
          counts = counts;
          fit = λ n k nb kb. subst (λ l. FitsPart l n (row_at inputs k)) (sym same.layout) (fed.fit n k (subst (λ s. n < node_count s) same.shape nb) kb);
          few_nodes = subst (λ s. node_count s < 2 ^ 32) (sym same.shape) fed.few_nodes;
          few_channels = subst (λ s. chan_count s < 2 ^ 32) (sym same.shape) fed.few_channels;
        }

    pub plays_on : next.stopped ≡ None → HasLossyKinds next.bench new → KeepsFabric old new → length next.bench.executed ≡ node_count next.bench.shape → PlaysLossy ctl mch inputs (before ++ e ∷ []) next new
    plays_on running kinds keeps counts = record {
      running = running;
      fed = fed_on counts;
      kept = one_more ctl mch inputs before net.bench next.bench old new p.fed (p.kept).0 (p.kept).1 e there row row_is taken kinds keeps;
    }
