use Rattle.std.proofs.Common.{◌≡◌, arith, subst}
use Rattle.std.specs.Prelude.{IfOk}
use Rattle.lt_front.specs.Examined.{ExaminedText}
use Rattle.lt_front.specs.Flattened.{flat_of, KeepsMain}
use Rattle.lt_front.proofs.Flattens.{flat_if, keeps_if}
use Rattle.lt_compile.proofs.compile.flat_form.Goals as goal

pub into_normal-requires-clause-room : goal.into_normal-requires-clause-room
into_normal-requires-clause-room c = let same = c.in_ok-whole.ensures.keeps.weight in let few = c.checked.invariant.within.0 in omega (arith, same, few)

pub returns-clause-form : goal.returns-clause-form
returns-clause-form c =
    subst (λ (t : ExaminedText). IfOk c.into_normal.result (λ flat. flat ≡ flat_of t.program)) c.checked.view_is
    (flat_if c.checked.inside.program c.in_ok-whole.whole c.in_ok-whole.ensures.form c.in_ok-whole.ensures.keeps c.into_normal.result c.into_normal.ensures.form c.into_normal.ensures.keeps)

pub returns-clause-keeps : goal.returns-clause-keeps
returns-clause-keeps c =
    subst (λ (t : ExaminedText). IfOk c.into_normal.result (KeepsMain t.program)) c.checked.view_is
    (keeps_if c.checked.inside.program c.in_ok-whole.whole c.in_ok-whole.ensures.form c.in_ok-whole.ensures.keeps c.invariant_holds-2.ensures c.checked.invariant.checked c.checked.invariant.within c.into_normal.result c.into_normal.ensures.form c.into_normal.ensures.keeps)

pub expand_within-requires-clause-within : goal.expand_within-requires-clause-within
expand_within-requires-clause-within c = c.checked.invariant.within
