-- A refusal is that of a list with too many events.
use Rattle.std.proofs.Common.{◌≡◌, ◌<◌, ℕ, Ok, Err, length, refl, sym, subst, inl, inr}
use Rattle.lt_base.specs.Inputs.{InputTable}
use Rattle.lt_arch.specs.declared.shape.Shape.{Shape}
use Rattle.lt_arch.specs.declared.timing.Timing.{Timing}
use Rattle.lt_arch.specs.declared.pace.Pace.{Pace}
use Rattle.lt_front.specs.Flattened.{flat_of}
use Rattle.lt_io.specs.FabricState.{FabricState}
use Rattle.lt_lead.specs.Paced.{IsShapeBy}
use Rattle.lt_rows.specs.Limits.{most_events}
use Rattle.lt_answer.proofs.Decided.{HasOneOutcome}
use Rattle.lt_load_fit.specs.declared.fault.CommandFault.{CommandFault}
use Rattle.lt_load.specs.Plan.{Plan, LoadedPlan, Loads}
use Rattle.lt_load.proofs.OnePlain.{plain_load_decided}
use Rattle.lt_load.proofs.OneShape.{one_shape}
use Rattle.lt_run.specs.Run.{IsLaidOutBy}
use Rattle.lt_run.proofs.Unloaded.{any_kind}
use Rattle.lt_big.specs.Big.{events_of, big_loaded_verdict, big_along_verdict, big_verdict}

one_plan : (instants : ℕ) → HasOneOutcome any_kind (big_loaded_verdict instants)
unfolding big_loaded_verdict
one_plan instants = plain_load_decided any_kind (λ e f same. refl) (λ f g main main'. refl) (λ f g names names' mixed mixed'. refl) _ _ _ _

module _ (instants : ℕ) (k : LoadedPlan) (fabric : FabricState) (e : CommandFault) where
  abbrev IsTooLong : Shape → Timing → InputTable → Type 0
  IsTooLong s t inputs = most_events < length (events_of instants s t (length inputs.rows))

  -- of whatever plan it was loaded from
  long_along : (right : Loads (big_loaded_verdict instants) (Ok k)) → big_along_verdict instants fabric right.0 (Err e) → IsTooLong k.shape k.timing k.inputs
  unfolding big_along_verdict
  long_along (p, loaded, from) (l, s, laid, right) =
      let own : IsLaidOutBy p k.layout k.shape = record { layout = from.layout; shape = subst (λ (t : Pace). IsShapeBy k.layout t p.setup.timing k.shape) from.pace (subst (λ (t : Timing). IsShapeBy k.layout k.pace t k.shape) from.timing from.shape) } in
      let same : s ≡ k.shape = one_shape (flat_of p.checked.program) p.setup.placement l k.layout laid.layout own.layout p.setup.pace p.setup.timing s k.shape laid.shape own.shape in
      let shaped = subst (λ (z : Shape). IsTooLong z p.setup.timing p.inputs) same right.0 in
      let timed = subst (λ (t : Timing). IsTooLong k.shape t p.inputs) (sym from.timing) shaped in
      subst (λ (t : InputTable). IsTooLong k.shape k.timing t) (sym from.inputs) timed

  pub too_long : Loads (big_loaded_verdict instants) (Ok k) → big_verdict instants fabric (Err e) → IsTooLong k.shape k.timing k.inputs
  unfolding big_verdict
  too_long right (inl p) = absurd ((one_plan instants).faults.not_both e right.0 p right.1)
  too_long right (inr q) =
      let same : q.0 ≡ right.0 = (one_plan instants).one_value q.0 right.0 q.1 right.1 in
      long_along right (subst (λ (p : Plan). big_along_verdict instants fabric p (Err e)) same q.2)
