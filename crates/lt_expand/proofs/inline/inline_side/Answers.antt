use Rattle.std.proofs.Common.{◌+◌, ◌^◌, ◌<◌, length, sym, subst, ◌∙◌}
use Rattle.lt_base.specs.Expression.{shape}
use Rattle.lt_base.specs.Checked.{EachUse}
use Rattle.lt_expand.specs.Copies.{grown}
use Rattle.lt_expand.specs.Walk.{library_of, Copyable}
use Rattle.lt_expand.proofs.Opening.{side_inlined}
use Rattle.lt_expand.proofs.inline.inline_side.Goals as goal

pub inline-requires-clause-ready : goal.inline-requires-clause-ready
inline-requires-clause-ready c = subst (EachUse (λ h k. Copyable c.args.versions.now h k)) (sym (c.in_ok-right.ensures ∙ c.right.ensures)) c.requires.ready

pub inline-requires-clause-room : goal.inline-requires-clause-room
inline-requires-clause-room c =
    subst (λ e. length c.args.into.now.decls.items + grown (library_of c.args.versions.now) e < 2 ^ 32) (sym (c.in_ok-right.ensures ∙ c.right.ensures)) c.requires.room

pub returns : goal.returns
returns c =
    side_inlined _ c.args.known.now c.deref.result.now c.args.equation.now.0 c.left.result c.index-deref-left.result c.args.equation.now.1 _ _ _ _ _ _ c.deref.ensures c.left.ensures c.requires.left c.index-deref-left.is (c.in_ok-right.ensures ∙ c.right.ensures) c.in_ok-inline.ensures.all
