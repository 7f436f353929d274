use Rattle.std.proofs.Common.{◌∙◌, ap, sym, subst, length}
use Rattle.lt_place.specs.Spread.{AllBuilt}
use Rattle.lt_place.proofs.Laid.{local_of, is_layout}
use Rattle.lt_place.proofs.placing.layout.Goals as goal

pub parts-requires-clause-local : goal.parts-requires-clause-local
parts-requires-clause-local c = local_of c.args.f.now c.args.p.now c.in_ok-s.s.nodes.items (c.in_ok-s.ensures.nodes ∙ c.requires.nodes) c.requires.legal

pub returns-clause-layout : goal.returns-clause-layout
returns-clause-layout c =
    is_layout c.args.f.now c.invariant_holds.ensures.good c.invariant_holds.ensures.flat c.args.p.now c.in_ok-s.s c.in_ok-s.ensures.spread (c.in_ok-s.ensures.nodes ∙ c.requires.nodes) c.requires.legal
    (record { names = c.in_ok-names.names; nodes = c.of.result; cross = c.of-2.result; outs = c.in_ok-outs.outs })
    c.of-2.ensures c.requires.typed c.requires.clocked c.requires.causal c.in_ok-names.ensures (c.in_ok-outs.ensures ∙ c.outputs.ensures)
    (ap length c.of.ensures ∙ c.in_ok-nodes.ensures.size ∙ c.len.ensures ∙ ap length c.in_ok-names.ensures)
    (subst (AllBuilt c.args.f.now c.in_ok-s.s) (sym c.of.ensures) c.in_ok-nodes.ensures.built)

pub returns-clause-placed : goal.returns-clause-placed
returns-clause-placed c = record {
  placement = c.args.p.now;
  layout = returns-clause-layout c;
  good = c.invariant_holds.ensures.good;
  typed = c.requires.typed;
  clocked = c.requires.clocked;
  causal = c.requires.causal;
}
