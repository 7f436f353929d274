use Rattle.std.proofs.Common.{◌≡◌, ◌≢◌, [], sym, ◌∙◌, true, false}
use Rattle.lt_step.specs.Operand.{expression}
use Rattle.lt_c.specs.Tree.{assign, slot}
use Rattle.lt_c.specs.Text.{spelled}
use Rattle.lt_c_step.specs.Translate.{of_expression}
use Rattle.lt_c_step.proofs.Pieces.{under_text, not_none}
use Rattle.lt_c_step.proofs.writing.guarded.Goals as goal

pub returns : goal.returns
returns c =
    let some : c.clock.inside.steps ≢ [] = λ h. let t : false ≡ true = sym c.if-is_empty.false ∙ c.is_empty.ensures.1 h in absurd (cc) in
    under_text (spelled c.args.decls.now) c.extend-3.result c.args.clock.now (assign (slot c.args.slot) (of_expression (expression c.args.e.now)))
    c.args.out.now c.extend.new.self c.conditions.new.out c.extend-2.new.self c.assignment-2.new.out c.extend-3.new.self
    (not_none c.clock.inside.steps c.args.clock.now (sym c.clock.view_is) some)
    c.in_ok-extend.ensures.ok c.in_ok-conditions.ensures c.in_ok-extend-2.ensures.ok c.in_ok-assignment.ensures c.extend-3.ensures.ok
