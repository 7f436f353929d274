use Rattle.std.proofs.Common.{◌≡◌, ◌∙◌, ap, sym, true, false, get_or, reverse, take, add-one}
use Rattle.std.specs.Prelude.{◌&&◌}
use Rattle.std.proofs.lemmas.List.{take_all}
use Rattle.lt_base.specs.Meaning.{ClockPairs, entry, is_truth, present}
use Rattle.lt_base.proofs.Presence.{present_fails, present_take}
use Rattle.lt_meaning.proofs.node.is_present.Goals as goal

pub returns-then-not-is_that : goal.returns-then-not-is_that
returns-then-not-is_that c =
    let env = entry c.args.cells.now in
    let items = c.deref-c-items.result.now in
    let pair = get_or items c.loop-c.c-index (0, false) in
    let is : reverse items ≡ c.args.clock.now = ap reverse c.deref-c-items.ensures ∙ c.clock.view_is in
    let fails : is_truth (env pair.0) pair.1 ≡ false = ap (λ v. is_truth v pair.1) (sym c.at.ensures) ∙ sym c.is_that.ensures ∙ c.if-not-is_that.true in
    sym (ap (present env) (sym is) ∙ present_fails env items c.loop-c.c-index (0, false) c.loop-c-test.true fails)

pub loop-c-preserved : goal.loop-c-preserved
loop-c-preserved c =
    let env = entry c.args.cells.now in
    let items = c.deref-c-items.result.now in
    let pair = get_or items c.loop-c.c-index (0, false) in
    let holds : is_truth (env pair.0) pair.1 ≡ true = ap (λ v. is_truth v pair.1) (sym c.at.ensures) ∙ sym c.is_that.ensures ∙ c.if-not-is_that.false in
    ap (λ n. present env (reverse (take n items))) (add-one c.loop-c.c-index)
    ∙ present_take env items c.loop-c.c-index (0, false) c.loop-c-test.true
    ∙ (λ i. c.loop-c.invariant i && holds i)

pub returns : goal.returns
returns c =
    let env = entry c.args.cells.now in
    let items = c.deref-c-items.result.now in
    let is : reverse items ≡ c.args.clock.now = ap reverse c.deref-c-items.ensures ∙ c.clock.view_is in
    let all : take c.loop-c.c-index items ≡ items = take_all c.loop-c.c-index items c.loop-c-test.false in
    sym c.loop-c.invariant ∙ ap (λ (l : ClockPairs). present env (reverse l)) all ∙ ap (present env) is
