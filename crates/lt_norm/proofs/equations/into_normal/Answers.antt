use Rattle.std.proofs.Common.{◌∙◌, ap}
use Rattle.lt_norm.specs.Flat.{Originated}
use Rattle.lt_norm.proofs.Loop.{lefts_inside}
use Rattle.lt_norm.proofs.Built.{made_good, made_flat, made_form, made_keeps}
use Rattle.lt_norm.proofs.equations.into_normal.Goals as goal

pub lift_equations-requires-clause-lefts : goal.lift_equations-requires-clause-lefts
lift_equations-requires-clause-lefts c = lefts_inside _ c.func.invariant

pub new-func-requires : goal.new-func-requires
new-func-requires c =
    made_good _ c.args.w.func _ c.func.view_is c.func.invariant c.requires.typed c.requires.clocked c.requires.causal c.of.result _ c.of-2.result _ _ _ _ c.in_ok-lifted.ensures c.of.ensures c.of-2.ensures c.in_ok-append.ensures.items

pub new-requires : goal.new-requires
new-requires c =
    made_flat _ c.args.w.func _ c.func.view_is c.func.invariant c.requires.typed c.requires.clocked c.requires.causal c.of.result _ c.of-2.result _ _ _ _ c.in_ok-lifted.ensures c.of.ensures c.of-2.ensures c.in_ok-append.ensures.items
    c.new-func.result c.new-func.ensures

pub returns-clause-form : goal.returns-clause-form
returns-clause-form c =
    made_form _ c.args.w.func _ c.func.view_is c.func.invariant c.requires.typed c.requires.clocked c.requires.causal c.of.result _ c.of-2.result _ _ _ _ c.in_ok-lifted.ensures c.of.ensures c.of-2.ensures c.in_ok-append.ensures.items
    c.new.result.func (ap (λ (r : Originated). r.func) c.new.ensures ∙ c.new-func.ensures)

pub returns-clause-keeps : goal.returns-clause-keeps
returns-clause-keeps c =
    made_keeps _ c.args.w.func _ c.func.view_is c.func.invariant c.requires.typed c.requires.clocked c.requires.causal c.of.result _ c.of-2.result _ _ _ _ c.in_ok-lifted.ensures c.of.ensures c.of-2.ensures c.in_ok-append.ensures.items
    c.new.result.func (ap (λ (r : Originated). r.func) c.new.ensures ∙ c.new-func.ensures) c.new.result.origin (ap (λ (r : Originated). r.origin) c.new.ensures ∙ c.of-3.ensures)
