-- A net along a schedule that takes one event more.
use Rattle.std.proofs.Common.{◌≡◌, ℕ, ◌+◌, ◌*◌, ◌^◌, ◌≤◌, ◌<◌, List, [], ◌∷◌, ◌++◌, length, map, All, Option, Some, None, Result, Ok, Err, refl, sym, ap, ◌∙◌, subst, arith, length-append}
use Rattle.std.specs.Prelude.{◌↔◌, is_some, if◌then◌else◌}
use Rattle.std.proofs.lemmas.List.{get_or-map, length-map}
use Rattle.lt_base.specs.declared.value.Value.{Value}
use Rattle.lt_arch.specs.declared.event.Event.{Event}
use Rattle.lt_arch.specs.declared.event.Offence.{Offence}
use Rattle.lt_arch.specs.declared.event.Offence.TheVariants.{NoEnd}
use Rattle.lt_arch.specs.Readers.{node_count, chan_count}
use Rattle.lt_arch.specs.Step.{offence_of}
use Rattle.lt_arch.specs.Schedule.{IsPlacedIn, reached}
use Rattle.lt_io.specs.FabricState.{FabricState, KeepsFabric}
use Rattle.lt_schedule.specs.Verdict.{unended}
use Rattle.lt_net.specs.declared.fault.NetFault.{NetFault}
use Rattle.lt_net.specs.declared.fault.NetFault.TheVariants.{Offence as Refused}
use Rattle.lt_net.specs.Net.{Lists, reached_state}
use Rattle.lt_net.specs.NetModel.{NetState}
use Rattle.lt_net.specs.Stands.{NetStands}
use Rattle.lt_net.specs.Event.{Happens, FabricHolds, HasKinds, SameStatic}
use Rattle.lt_net.specs.Loop.{row_for}
use Rattle.lt_net.specs.Ticks.{cost_by, event_cost}
use Rattle.lt_net.proofs.NextLists.{one_more, given_next, fixed_refl}
use Rattle.lt_net.proofs.ReplayCosts.{pays_on}
use Rattle.lt_net_replay.specs.Plays.{Plays}
use Rattle.lt_machine.specs.declared.machine.Machine.{Ghosts as Machines}
use Rattle.lt_arch.specs.declared.controller.Controller.{Ghosts as Controls}

-- no offence, where none is answered
free_by : {T : Type 0} (x : Option Offence) (r : Result T NetFault) (y : T) → r ≡ Ok y → ((o : Offence) → (r ≡ Err (Refused o)) ↔ (x ≡ Some o)) → x ≡ None
free_by None r y is tells = refl
free_by (Some o) r y is tells = absurd (let q : Path (Result _ NetFault) (Ok y) (Err (Refused o)) = sym is ∙ (tells o).1 refl in cc)

behind_none : (k x : ℕ) → k ≤ x → k ≤ 0 + x
behind_none k x h = omega (arith, h)

without_none : (k x : ℕ) → k ≤ 0 + x → k ≤ x
without_none k x h = omega (arith, h)

module _ {C M : Type 0} (ctl : Controls C) (mch : Machines M) (inputs : List (List Value)) (before : List Event) (steps : ℕ)
    (net : NetState C M) (old : FabricState) (p : Plays ctl mch inputs before steps net old) where
  state_is : reached_state net.bench (p.kept).0 ≡ reached net.bench.shape net.bench.timing net.bench.rows before
  state_is = ap (reached net.bench.shape net.bench.timing net.bench.rows) (p.kept).1.events

  -- the offence that an event is answered with is that behind these events
  pub offence_by : {T : Type 0} (e : Event) (r : Result T NetFault) (o : Offence) → r ≡ Err (Refused o) →
      ((ls : Lists) → NetStands ctl mch net.bench ls → (o : Offence) → (r ≡ Err (Refused o)) ↔ (offence_of net.bench.shape net.bench.timing (reached_state net.bench ls) e ≡ Some o)) →
      offence_of net.bench.shape net.bench.timing (reached net.bench.shape net.bench.timing net.bench.rows before) e ≡ Some o
  offence_by e r o is tells = ap (λ st. offence_of net.bench.shape net.bench.timing st e) (sym state_is) ∙ (tells (p.kept).0 (p.kept).1.stands_for o).0 is

  -- an event that is taken has none
  pub free_of : {T : Type 0} (e : Event) (r : Result T NetFault) (y : T) → r ≡ Ok y →
      ((ls : Lists) → NetStands ctl mch net.bench ls → (o : Offence) → (r ≡ Err (Refused o)) ↔ (offence_of net.bench.shape net.bench.timing (reached_state net.bench ls) e ≡ Some o)) →
      offence_of net.bench.shape net.bench.timing (reached net.bench.shape net.bench.timing net.bench.rows before) e ≡ None
  free_of e r y is tells = ap (λ st. offence_of net.bench.shape net.bench.timing st e) (sym state_is) ∙ free_by (offence_of net.bench.shape net.bench.timing (reached_state net.bench (p.kept).0) e) r y is (tells (p.kept).0 (p.kept).1.stands_for)

  -- the end is missing where the watch has no horizon
  pub ended_by : (h : Option ℕ) → h ≡ net.bench.watch.horizon → (if is_some h then None else Some NoEnd) ≡ unended (reached net.bench.shape net.bench.timing net.bench.rows before)
  ended_by h is = ap (λ (x : Option ℕ). if is_some x then None else Some NoEnd) (is ∙ (p.kept).1.stands_for.times.horizon ∙ ap (λ st. st.horizon) state_is)

  module _ (next : NetState C M) (new : FabricState) (e : Event) (there : IsPlacedIn net.bench.shape e) (row : Option (List Value)) (row_is : row ≡ row_for net.bench inputs e)
      (fixed : SameStatic net.bench next.bench) (sizes : map mch.size next.bench.machines ≡ map mch.size net.bench.machines) where
    -- what the machines cost at most
    most_before : (most : ℕ) → All (λ k. k ≤ most) (map mch.size next.bench.machines) → All (λ m. mch.size m ≤ most) net.bench.machines
    most_before most all = unmapped net.bench.machines (subst (All (λ k. k ≤ most)) sizes all)
      where
        unmapped : (ms : List M) → All (λ k. k ≤ most) (map mch.size ms) → All (λ m. mch.size m ≤ most) ms
        unmapped ms h = λ k d lt. subst (λ z. z ≤ most) (get_or-map mch.size ms k d (mch.size d) lt) (h k (mch.size d) (subst (λ n. k < n) (sym (length-map ms mch.size)) lt))

    costs_on : (later : ℕ) → ((ls : Lists) → NetStands ctl mch net.bench ls → (d : ℕ) → node_count net.bench.shape + chan_count net.bench.shape ≤ 2 ^ d → later ≤ steps + (4 + cost_by mch.size net.bench ls e d)) →
        (d most : ℕ) → node_count next.bench.shape + chan_count next.bench.shape ≤ 2 ^ d → All (λ k. k ≤ most) (map mch.size next.bench.machines) → later ≤ length (before ++ e ∷ []) * event_cost next.bench.shape d most
    costs_on later ticks d most few all =
        let few_before : node_count net.bench.shape + chan_count net.bench.shape ≤ 2 ^ d = subst (λ s. node_count s + chan_count s ≤ 2 ^ d) fixed.shape few in
        let paid = pays_on mch.size net.bench net.bench (fixed_refl net.bench) refl d most (most_before most all) (p.kept).0 e 0 steps later (length before)
        (behind_none steps (length before * event_cost net.bench.shape d most) (p.costs d most few_before (subst (All (λ k. k ≤ most)) sizes all))) (ticks (p.kept).0 (p.kept).1.stands_for d few_before) in
        subst (λ s. later ≤ length (before ++ e ∷ []) * event_cost s d most) (sym fixed.shape)
        (subst (λ n. later ≤ n * event_cost net.bench.shape d most) (sym (length-append before (e ∷ []))) (without_none later ((length before + 1) * event_cost net.bench.shape d most) paid))

    pub plays_on : (later : ℕ) → next.stopped ≡ None → Happens (NetStands ctl mch net.bench) (NetStands ctl mch next.bench) net.bench e row old new → FabricHolds next.bench new → HasKinds next.bench new → KeepsFabric old new →
        length next.bench.executed ≡ node_count next.bench.shape →
        ((ls : Lists) → NetStands ctl mch net.bench ls → (d : ℕ) → node_count net.bench.shape + chan_count net.bench.shape ≤ 2 ^ d → later ≤ steps + (4 + cost_by mch.size net.bench ls e d)) →
        Plays ctl mch inputs (before ++ e ∷ []) later next new
    plays_on later running happens holds kinds keeps counts ticks = record {
      running = running;
      given = given_next ctl mch inputs before net.bench next.bench old new p.given p.kept e there fixed counts;
      kept = one_more ctl mch inputs before net.bench next.bench old new p.given p.kept e there row row_is happens holds kinds fixed keeps;
      few_nodes = subst (λ s. node_count s < 2 ^ 32) (sym fixed.shape) p.few_nodes;
      few_channels = subst (λ s. chan_count s < 2 ^ 32) (sym fixed.shape) p.few_channels;
      costs = costs_on later ticks;
    }
