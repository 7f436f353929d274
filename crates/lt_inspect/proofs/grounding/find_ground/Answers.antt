use Rattle.std.proofs.Common.{refl, subst}
use Rattle.lt_arch.specs.declared.pace.Pace.{Pace}
use Rattle.lt_load_fit.specs.Fits.{HasWindowBy}
use Rattle.std.specs.Prelude.{option_map}
use Rattle.lt_front.specs.Checked.{examined_part}
use Rattle.lt_load_fit.proofs.Settled.{memory_settled}
use Rattle.lt_inspect.specs.Stages.{ground_verdict}
use Rattle.lt_inspect.proofs.Grounded.{no_layout, names_fit, timed_here, nodes_fit, no_node, found, grounded}
use Rattle.lt_inspect.proofs.grounding.find_ground.Goals as goal

pub returns-in_err-layout : goal.returns-in_err-layout
returns-in_err-layout c = no_layout (examined_part c.args.checked.now) c.args.setup (option_map (λ s. s.now) c.args.node) _ _ c.from_residual.ensures.1 c.in_err-layout.ensures.answered

pub shape_by-requires-clause-placed : goal.shape_by-requires-clause-placed
shape_by-requires-clause-placed c = (c.args.checked.now.flat, c.in_ok-layout.ensures.placed)

pub shape_by-requires-clause-numbered : goal.shape_by-requires-clause-numbered
shape_by-requires-clause-numbered c = names_fit (examined_part c.args.checked.now) c.args.setup (option_map (λ s. s.now) c.args.node) c.in_ok-layout.layout c.in_ok-layout.ensures.answered

pub shape_by-requires-clause-timed : goal.shape_by-requires-clause-timed
shape_by-requires-clause-timed c = timed_here (examined_part c.args.checked.now) c.args.setup (option_map (λ s. s.now) c.args.node) c.in_ok-layout.layout c.in_ok-layout.ensures.answered

pub returns-in_err-shape : goal.returns-in_err-shape
returns-in_err-shape c = memory_settled (ground_verdict (examined_part c.args.checked.now) c.args.setup (option_map (λ s. s.now) c.args.node)) _ c.from_residual-in_err-shape.ensures.1

pub find_node-requires : goal.find_node-requires
find_node-requires c = nodes_fit (examined_part c.args.checked.now) c.args.setup (option_map (λ s. s.now) c.args.node) c.in_ok-layout.layout c.in_ok-layout.ensures.answered c.in_ok-shape.shape c.in_ok-shape.ensures

pub returns-in_err-node : goal.returns-in_err-node
returns-in_err-node c =
    no_node (examined_part c.args.checked.now) c.args.setup (option_map (λ s. s.now) c.args.node) c.in_ok-layout.layout c.in_ok-layout.ensures.answered c.in_ok-shape.shape c.in_ok-shape.ensures _ _ c.from_residual-in_err-node.ensures.1 c.in_err-node.ensures

pub invariant_of-result : goal.invariant_of-result
invariant_of-result c = record {
  grounded = grounded (examined_part c.args.checked.now) c.args.setup (option_map (λ s. s.now) c.args.node) c.in_ok-layout.layout c.in_ok-layout.ensures.answered c.in_ok-shape.shape c.in_ok-shape.ensures
      c.shapes_fit.ensures c.lead_shapes_fit.ensures c.paced_is_clean.ensures c.args.checked.now.flat c.in_ok-layout.ensures.placed;
  windowed = λ losses is. subst (λ (q : Pace). HasWindowBy q c.args.setup.timing) is c.requires;
}

pub returns : goal.returns
returns c =
    found (examined_part c.args.checked.now) c.args.setup (option_map (λ s. s.now) c.args.node) c.in_ok-layout.layout c.in_ok-layout.ensures.answered c.in_ok-shape.shape c.in_ok-shape.ensures _ refl refl refl refl c.in_ok-node.ensures
