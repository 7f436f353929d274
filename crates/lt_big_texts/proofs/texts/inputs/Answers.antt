use Rattle.std.proofs.Common.{◌≡◌, ◌∙◌, ◌++◌, List, ℕ, ap, add-one, arith}
use Rattle.lt_big_texts.specs.Texts.{inputs_text, row_text}
use Rattle.lt_big_texts.proofs.texts.inputs.Goals as goal

pub loop-instant-init : goal.loop-instant-init
unfolding inputs_text
loop-instant-init c = c.in_ok-text.ensures

pub loop-instant-preserved : goal.loop-instant-preserved
unfolding inputs_text
loop-instant-preserved c = rw (add-one c.loop-instant.instant) (c.in_ok-row.ensures ∙ ap (λ (l : List ℕ). l ++ row_text c.loop-instant.instant) c.loop-instant.invariant)

pub returns : goal.returns
returns c =
    let low = c.loop-instant-test.false in
    let high = c.loop-instant.auto.instant-end in
    let same : c.loop-instant.instant ≡ c.args.instants = omega (arith, low, high) in
    c.loop-instant.invariant ∙ ap inputs_text same
