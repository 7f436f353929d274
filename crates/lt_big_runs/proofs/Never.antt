-- No refusal of a run of the large input is right.
use Rattle.std.proofs.Common.{◌≡◌, ℕ, ◌+◌, ◌*◌, ◌/◌, ◌≤◌, List, [], ◌∷◌, length, sym, ap, ◌∙◌, subst, arith}
use Rattle.std.proofs.Math.Nat.{mul-le-mul_right}
use Rattle.lt_arch.specs.declared.event.Event.{Event}
use Rattle.lt_arch.specs.declared.named.NamedNode.{NamedNode}
use Rattle.lt_arch.specs.declared.nodes.NamedNodes.{NamedNodes}
use Rattle.lt_arch.specs.declared.pace.Pace.{Pace}
use Rattle.lt_arch.specs.declared.pace.Pace.TheVariants.{Plain}
use Rattle.lt_arch.specs.declared.placement.Placement.{Placement}
use Rattle.lt_arch.specs.declared.placement.Placement.TheVariants.{Named}
use Rattle.lt_arch.specs.declared.shape.Shape.{Shape}
use Rattle.lt_arch.specs.declared.timing.Protocol.{Protocol}
use Rattle.lt_arch.specs.declared.timing.Protocol.TheVariants.{BackPressure}
use Rattle.lt_arch.specs.NodeNames.{names_of}
use Rattle.lt_arch.specs.Readers.{node_count, chan_count}
use Rattle.lt_norm.specs.Flat.{Originated}
use Rattle.lt_norm.specs.NormalForm.{NormalFormOf}
use Rattle.lt_norm.proofs.NormalForms.{normal_good, normal_is}
use Rattle.lt_io.specs.FabricState.{FabricState}
use Rattle.lt_front.specs.Examined.{ExaminedText}
use Rattle.lt_front.specs.Flattened.{flat_of}
use Rattle.lt_place.specs.declared.layout.Layout.{Layout}
use Rattle.lt_place.specs.Layout.{IsLayoutOf, IsPlaced}
use Rattle.lt_net_node.specs.Channels.{IsShapeOf, has_channel, all_chans}
use Rattle.lt_lead.specs.Paced.{IsShapeBy}
use Rattle.lt_net_replay.specs.Sound.{PlanIsSound, PlansAreSound}
use Rattle.lt_sim.proofs.Short.{at_most}
use Rattle.lt_config.specs.declared.config.Config.{Config}
use Rattle.lt_config.specs.Setup.{Setup}
use Rattle.lt_rows.specs.Limits.{most_events}
use Rattle.lt_load.specs.Plan.{Plan}
use Rattle.lt_run.specs.Run.{IsLaidOutBy}
use Rattle.lt_spaced.specs.Spaced.{IsLeastPeriod, EventsAreFew}
use Rattle.lt_big_texts.specs.Texts.{horizon_of}
use Rattle.lt_big_texts.specs.Reading.{InputsRead}
use Rattle.lt_big_texts.specs.Bounds.{large_nodes, SetupRead}
use Rattle.lt_big_accepted.specs.Program.{large_function, ProgramAccepted}
use Rattle.lt_big_accepted.specs.Setup.{SetupFits}
use Rattle.lt_big_accepted.proofs.Checks.{good, typed, clocked, causal}
use Rattle.lt_big_accepted.proofs.Flat.{flat_form, flat_is}
use Rattle.lt_big_accepted.proofs.Seats.{named_nodes, placed, back_pressure}
use Rattle.lt_big.specs.Big.{events_of, big_loaded_verdict, big_along_verdict, big_verdict}
use Rattle.lt_big_runs.specs.Runs.{NeverRefused}
use Rattle.lt_big_runs.proofs.Passes.{Passes, passes_then}
use Rattle.lt_big_runs.proofs.Loaded.{IsLargePlan, loads}
use Rattle.lt_big_runs.proofs.Ring.{few_channels}
use Rattle.lt_big_runs.proofs.Times.{timed, least_period}

-- ---- numbers

enough : (instants rows channels count : ℕ) → instants ≤ 100000 → rows ≡ instants → channels ≤ 16 → count ≤ 8 * ((30 * instants + 11) / 9 + 1) + channels * (rows + 1) + 1 → count ≤ 5000000
enough instants rows channels count low same few short =
    let product : channels * (rows + 1) ≤ 16 * (rows + 1) = mul-le-mul_right (rows + 1) few in
    omega (arith, low, same, product, short)

-- ---- the flat form passes the checks again

flat_normal : NormalFormOf large_function (0 ∷ 1 ∷ 2 ∷ 3 ∷ 4 ∷ 5 ∷ 6 ∷ 7 ∷ 8 ∷ []) flat_form.func flat_form.origin
flat_normal = normal_is large_function good (typed []) (clocked []) causal (0 ∷ 1 ∷ 2 ∷ 3 ∷ 4 ∷ 5 ∷ 6 ∷ 7 ∷ 8 ∷ [])

is_placed : (p : Placement) (l : Layout) → IsLayoutOf flat_form p l → IsPlaced flat_form l
is_placed p l layout = record {
  placement = p;
  layout = layout;
  good = normal_good large_function good (typed []) (clocked []) causal;
  typed = flat_normal.typed;
  clocked = flat_normal.clocked;
  causal = flat_normal.causal;
}

-- ---- a plan of the large input on its nodes

module _ (sound : PlansAreSound) (short : EventsAreFew) (fits : SetupFits) (instants : ℕ) (low : instants ≤ 100000) (plan : Plan) (own : IsLargePlan instants plan) (l : Layout) (s : Shape) (laid : IsLaidOutBy plan l s) where
  abbrev c : Config
  c = plan.setup

  abbrev rows : ℕ
  rows = length plan.inputs.rows

  abbrev events : List Event
  events = events_of instants s c.timing rows

  flat : flat_of plan.checked.program ≡ flat_form
  flat = ap (λ (t : ExaminedText). flat_of t.program) own.checked ∙ flat_is

  nodes : (named : NamedNodes) × (named.nodes ≡ large_nodes) × (c.placement ≡ Named named)
  nodes = named_nodes c.placement (placed c own.setup)

  layout : IsLayoutOf flat_form (Named nodes.0) l
  layout = subst (λ (p : Placement). IsLayoutOf flat_form p l) nodes.2 (subst (λ (f : Originated). IsLayoutOf f c.placement l) flat laid.layout)

  pace : c.pace ≡ Plain
  pace = ap (λ (s : Setup). s.pace) own.setup

  shape_by : IsShapeOf l c.timing.protocol s
  shape_by = subst (λ (p : Pace). IsShapeBy l p c.timing s) pace laid.shape

  shape : IsShapeOf l BackPressure s
  shape = subst (λ (p : Protocol). IsShapeOf l p s) (back_pressure c own.setup) shape_by

  names : length l.names ≡ 8
  names = ap (λ (ns : List (List ℕ)). length ns) layout.names ∙ ap (λ (ns : List NamedNode). length (names_of ns)) nodes.1

  node_count_is : node_count s ≡ 8
  node_count_is = ap (λ (ns : List (List ℕ)). length ns) shape.nodes ∙ names

  few_chans : chan_count s ≤ 16
  few_chans =
      let count : chan_count s ≡ length (all_chans (has_channel l.cross BackPressure) 8) =
      ap length shape.channels ∙ ap (λ (n : ℕ). length (all_chans (has_channel l.cross BackPressure) n)) names in
      let few = few_channels nodes.0 nodes.1 l layout.crossings in
      omega (arith, count, few)

  plan_sound : PlanIsSound l s c.timing rows
  plan_sound =
      sound flat_form l s c.timing rows (is_placed (Named nodes.0) l layout)
      (Plain, record { shaped = shape_by; fits = record { led = λ leader is. absurd cc; lossy = λ losses is. absurd cc } })
      (timed c own.setup ∙ sym names) (fits c own.setup).1

  spaced : IsLeastPeriod s c.timing 9
  spaced = (omega arith, λ n below. (let p = least_period c own.setup n (omega (arith, below, node_count_is)) in omega (arith, p)))

  few_events : length events ≤ most_events
  few_events =
      let most = at_most s c.timing rows instants (horizon_of instants) 9 plan_sound.one_place (omega (arith, low)) short spaced in
      let by_nodes : node_count s * (horizon_of instants / 9 + 1) ≡ 8 * (horizon_of instants / 9 + 1) = ap (λ (k : ℕ). k * (horizon_of instants / 9 + 1)) node_count_is in
      enough instants rows (chan_count s) (length events) low own.rows few_chans (omega (arith, most, by_nodes))

-- ---- the whole run

module _ (sound : PlansAreSound) (short : EventsAreFew) (accepted : ProgramAccepted) (fits : SetupFits) (read : SetupRead) (inputs : InputsRead) where
  along : (instants : ℕ) (fabric : FabricState) → instants ≤ 100000 → (plan : Plan) → IsLargePlan instants plan → Passes (big_along_verdict instants fabric plan) (λ outputs. Unit {0})
  unfolding big_along_verdict
  along instants fabric low plan own = record {
    never = λ e right. (let few = few_events sound short fits instants low plan own right.0 right.1 right.2 in let many = right.3.0 in omega (arith, few, many));
    has = λ outputs right. tt;
  }

  pub never_refused : NeverRefused
  unfolding big_verdict
  never_refused instants fabric e low =
      (passes_then (big_loaded_verdict instants) (λ plan. big_along_verdict instants fabric plan) (IsLargePlan instants) (λ outputs. Unit {0})
      (loads accepted read fits inputs instants low) (along instants fabric low)).never e
