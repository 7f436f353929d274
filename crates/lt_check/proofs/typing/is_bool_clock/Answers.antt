use Rattle.std.proofs.Common.{◌≡◌, ◌∙◌, ℕ, Bool, sym, ap, reverse, Some, subst, get_or, rules}
use Rattle.std.proofs.lemmas.List.{take_all}
use Rattle.std.proofs.lemmas.List.Elements.{All-more}
use Rattle.lt_base.specs.declared.value.Ty.TheVariants.{Bool as BoolTy}
use Rattle.lt_base.specs.Typing.{ty_at}
use Rattle.lt_check.specs.TypeFaults.{AllBools}
use Rattle.lt_check.proofs.Found.{all_reversed, none_reversed}
use Rattle.lt_check.proofs.typing.is_bool_clock.Goals as goal

pub returns-then-not-is_type : goal.returns-then-not-is_type
returns-then-not-is_type c = λ all.
    let items = c.deref-variable-items.result.now in
    let i = c.loop-variable.variable-index in
    none_reversed (λ (p : ℕ × Bool). ty_at c.args.decls.now p.0 ≡ Some BoolTy) items i (get_or items i _) c.loop-variable-test.true (search rules) (λ h. c.if-not-is_type.ensures (c.ty_at.ensures ∙ h))
    (subst (AllBools c.args.decls.now) (sym c.clock.view_is ∙ ap reverse (sym c.deref-variable-items.ensures)) all)

pub loop-variable-preserved : goal.loop-variable-preserved
loop-variable-preserved c =
    All-more (λ (p : ℕ × Bool). ty_at c.args.decls.now p.0 ≡ Some BoolTy) c.deref-variable-items.result.now c.loop-variable.variable-index _ c.loop-variable-test.true c.loop-variable.invariant (sym c.ty_at.ensures ∙ c.if-not-is_type.ensures)

pub returns : goal.returns
returns c =
    subst (AllBools c.args.decls.now) (ap reverse c.deref-variable-items.ensures ∙ c.clock.view_is)
    (all_reversed (λ (p : ℕ × Bool). ty_at c.args.decls.now p.0 ≡ Some BoolTy) c.deref-variable-items.result.now (subst (AllBools c.args.decls.now) (take_all c.loop-variable.variable-index c.deref-variable-items.result.now c.loop-variable-test.false) c.loop-variable.invariant))
