-- Where a program runs by a setup, step after step.
use Rattle.std.proofs.Common.{◌≡◌, ◌∙◌, ℕ, ◌*◌, ◌^◌, ◌<◌, ◌≤◌, List, length, Option, Some, None, Result, Ok, Err, inl, inr, refl, sym, ap, subst, arith}
use Rattle.std.specs.Prelude.{IsErrAnd, bytes_eq, position}
use Rattle.std.proofs.lemmas.Nat.{mul-le}
use Rattle.lt_base.specs.declared.memory.Or.{Or}
use Rattle.lt_base.specs.declared.memory.Or.TheVariants.{Fault, Memory}
use Rattle.lt_arch.specs.declared.pace.Pace.{Pace}
use Rattle.lt_arch.specs.declared.pace.Pace.TheVariants.{Plain, Lossy, Leader}
use Rattle.lt_arch.specs.declared.shape.Shape.{Shape}
use Rattle.lt_arch.specs.declared.timing.Protocol.{Protocol}
use Rattle.lt_arch.specs.declared.timing.Protocol.TheVariants.{BackPressure, TimeBased}
use Rattle.lt_arch.specs.Paced.{FitsPace}
use Rattle.lt_answer.specs.Answered.{Refuses, Settles}
use Rattle.lt_norm.specs.Flat.{Originated}
use Rattle.lt_place.specs.declared.layout.Layout.{Layout}
use Rattle.lt_place.specs.Layout.{IsLayoutOf, IsPlaced}
use Rattle.lt_arch.specs.Placement.{node_names}
use Rattle.lt_net_node.specs.Channels.{FitsLayout, ShapesFit}
use Rattle.lt_lead.specs.Channels.{LeadShapesFit}
use Rattle.lt_lead.specs.Paced.{IsShapeBy}
use Rattle.lt_front.specs.Examined.{ExaminedText}
use Rattle.lt_front.specs.Flattened.{flat_of}
use Rattle.lt_config.specs.declared.config.Config.{Config}
use Rattle.lt_load_fit.specs.declared.fault.CommandFault.{CommandFault}
use Rattle.lt_load_fit.specs.Fits.{placed_verdict}
use Rattle.lt_load_fit.proofs.Settled.{err_settled}
use Rattle.lt_compile.specs.Sites.{layout_verdict}
use Rattle.lt_inspect.specs.declared.stage.Ground.{Ground}
use Rattle.lt_inspect.specs.Clean.{PacedIsClean}
use Rattle.lt_inspect.specs.Grounded.{IsGrounded}
use Rattle.lt_inspect.specs.Scenes.{named_node, named_node_verdict, named_place_verdict}
use Rattle.lt_inspect.specs.Stages.{ground_verdict, node_verdict}

-- a shape by its pace has the layout's nodes
nodes_by : (pace : Pace) (l : Layout) (setup : Config) (s : Shape) → IsShapeBy l pace setup.timing s → s.nodes ≡ l.names
nodes_by Plain l setup s shaped = shaped.nodes
nodes_by (Lossy losses) l setup s shaped = shaped.nodes
nodes_by (Leader leader) l setup s shaped = shaped.nodes

module _ (checked : ExaminedText) (setup : Config) (node : Option (List ℕ)) where
  unplaced : (e : Or CommandFault) → Refuses (layout_verdict checked setup) e → Refuses (ground_verdict checked setup node) e
  unfolding layout_verdict named_place_verdict placed_verdict
  unplaced (Fault e) refused = inl refused
  unplaced Memory refused = tt

  pub no_layout : (e : Or CommandFault) (r : Result Ground (Or CommandFault)) → IsErrAnd r (λ f. f ≡ e) → Refuses (layout_verdict checked setup) e → Settles (ground_verdict checked setup node) r
  no_layout e r is refused = err_settled (ground_verdict checked setup node) e r is (unplaced e refused)

  module _ (l : Layout) (laid : layout_verdict checked setup (Ok l)) where
    legal_here : placed_verdict checked setup (Ok setup)
    unfolding layout_verdict placed_verdict
    legal_here = (laid.0, refl)

    layout_here : IsLayoutOf (flat_of checked.program) setup.placement l
    unfolding layout_verdict
    layout_here = laid.1

    names_same : length l.names ≡ length (node_names setup.placement)
    names_same = ap length layout_here.names

    pub timed_here : length setup.timing.nodes ≡ length l.names
    timed_here = setup.same_nodes ∙ sym names_same

    few_names : length l.names ≤ 32
    few_names = let e = timed_here in let few = setup.few in omega (arith, e, few)

    pub names_fit : length l.names < 2 ^ 32
    names_fit = let few = few_names in omega (arith, few)

    module _ (s : Shape) (shaped : IsShapeBy l setup.pace setup.timing s) where
      nodes_here : s.nodes ≡ l.names
      nodes_here = nodes_by setup.pace l setup s shaped

      pub nodes_fit : length s.nodes < 2 ^ 32
      nodes_fit = let e : length s.nodes ≡ length l.names = ap length nodes_here in let few = few_names in omega (arith, e, few)

      nodes_are : s.nodes ≡ node_names setup.placement
      nodes_are = nodes_here ∙ layout_here.names

      unnamed : (o : Option (List ℕ)) (e : CommandFault) → node_verdict checked s.nodes o (Err e) → named_node_verdict checked setup o (Err e)
      unnamed None e is = absurd is
      unnamed (Some name) e is = (ap (λ (nodes : List (List ℕ)). position (λ n. bytes_eq n name) nodes) (sym nodes_are) ∙ is.0, is.1)

      refused_node : (e : Or CommandFault) → Refuses (node_verdict checked s.nodes node) e → Refuses (ground_verdict checked setup node) e
      unfolding named_place_verdict
      refused_node (Fault e) is = inr (setup, legal_here, unnamed node e is)
      refused_node Memory is = tt

      pub no_node : (e : Or CommandFault) (r : Result Ground (Or CommandFault)) → IsErrAnd r (λ f. f ≡ e) → Refuses (node_verdict checked s.nodes node) e → Settles (ground_verdict checked setup node) r
      no_node e r is refused = err_settled (ground_verdict checked setup node) e r is (refused_node e refused)

      node_found : (o : Option (List ℕ)) (found : Option ℕ) → node_verdict checked s.nodes o (Ok found) → (found ≡ named_node setup o) × named_node_verdict checked setup o (Ok setup)
      node_found None found is = (is, refl)
      node_found (Some name) found is =
          let there : position (λ n. bytes_eq n name) (node_names setup.placement) ≡ Some is.0 = ap (λ (nodes : List (List ℕ)). position (λ n. bytes_eq n name) nodes) (sym nodes_are) ∙ is.2 in
          (is.1 ∙ sym there, (refl, (is.0, there)))

      pub found : (g : Ground) → g.shape ≡ s → g.timing ≡ setup.timing → g.cross ≡ l.cross → g.pace ≡ setup.pace → node_verdict checked s.nodes node (Ok g.node) → ground_verdict checked setup node (Ok g)
      unfolding named_place_verdict
      found g shape timing cross pace is =
          let named = node_found node g.node is in (
            inr (setup, legal_here, named.1),
            record {
              layout = l;
              laid = layout_here;
              shape = subst (λ (q : Shape). IsShapeBy l setup.pace setup.timing q) (sym shape) shaped;
              timing = timing;
              cross = cross;
              pace = pace;
              node_is = named.0;
            },
          )

      module _ (fit : ShapesFit) (leads : LeadShapesFit) (clean : PacedIsClean) (f : Originated) (placed : IsPlaced f l) where
        grounded_by : (p : Protocol) → FitsLayout l p s → IsGrounded s setup.timing
        grounded_by p fits =
            let few = few_names in
            let square : length l.names * length l.names ≤ 32 * 32 = mul-le (length l.names) (length l.names) 32 32 few few in
            let same : length s.nodes ≡ length l.names = ap length nodes_here in
            let channels = fits.few in
            (fits.timed setup.timing timed_here, omega (arith, few, square, same, channels), clean f l s setup.timing setup.pace placed shaped timed_here setup.paced)

        grounded_at : (pace : Pace) → FitsPace pace setup.timing → IsShapeBy l pace setup.timing s → IsGrounded s setup.timing
        grounded_at Plain paced by = grounded_by setup.timing.protocol (fit f l setup.timing.protocol s placed by).0
        grounded_at (Lossy losses) paced by = grounded_by BackPressure (fit f l BackPressure s placed by).0
        grounded_at (Leader leader) paced by =
            let in_nodes = (paced.led leader refl).leader_in in
            let same = timed_here in
            grounded_by TimeBased (leads f l leader s placed (omega (arith, in_nodes, same)) by).0

        pub grounded : IsGrounded s setup.timing
        grounded = grounded_at setup.pace setup.paced shaped
