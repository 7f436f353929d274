use Rattle.std.proofs.Common.{◌∙◌, sym, ap, [], Some, take}
use Rattle.std.specs.Prelude.{if◌then◌else◌}
use Rattle.lt_base.specs.Expression.{shape}
use Rattle.lt_base.specs.Meaning.{entry, latest, present, value_of}
use Rattle.lt_base.specs.Behaviour.{calls_of}
use Rattle.lt_step.proofs.Operands.{same_value}
use Rattle.lt_machine.specs.Values.{instants_of}
use Rattle.lt_machine.proofs.Lines.{latest_more}
use Rattle.lt_machine.proofs.tables.delay_value.Goals.{then-is_present, else-is_present}
use Rattle.lt_machine.proofs.tables.delay_value.Goals as goal

pub loop-values-preserved : goal.loop-values-preserved
loop-values-preserved c =
    let ck = c.args.clock.now in
    let e = shape c.args.operand.now in
    let g = value_of (calls_of []) e ck in
    let past = c.args.past.now in
    let i = c.loop-values.values-index in
    let env = entry c.values-item.result.items in
    let older = instants_of (take i past) in
    let step = latest_more ck (Some c.args.first) g past i c.values-item.result c.loop-values-test.true c.values-item.is in
    let test = c.is_present.ensures ∙ ap (λ l. present (entry l) ck) c.deref.ensures.value in
    elim c.if-is_present.branch [
      | then-is_present w ↦
          w.kept-is
          ∙ w.value-kept.ensures
          ∙ ap (λ l. value_of (calls_of []) e [] [] (entry l)) w.deref-then-is_present.ensures.value
          ∙ same_value (calls_of []) (calls_of []) e c.requires [] ck [] older env
          ∙ sym (step ∙ ap (λ b. if b then g older env else latest ck (Some c.args.first) g older) (sym test ∙ w.if-is_present.true))
      | else-is_present w ↦
          w.kept-is
          ∙ c.loop-values.invariant
          ∙ sym (step ∙ ap (λ b. if b then g older env else latest ck (Some c.args.first) g older) (sym test ∙ w.if-is_present.false))
    ]
