use Rattle.std.proofs.Common.{◌≡◌, false, sym, ap, ◌∙◌, subst}
use Rattle.std.specs.Prelude.{nat_eq}
use Rattle.lt_resolve.specs.declared.fault.NameKind.TheVariants.{NotOneOutput}
use Rattle.lt_resolve.specs.Names.{first_some}
use Rattle.lt_resolve.specs.Uses.{Site}
use Rattle.lt_resolve.specs.Told.{BlamesName}
use Rattle.lt_resolve.specs.Faults.{unless, answered}
use Rattle.lt_resolve.proofs.Sites.{blames_site, found_site, not_equal}
use Rattle.lt_resolve.proofs.calls.one_output.Goals as goal

pub returns-then-output_count-ne1-clause-shown : goal.returns-then-output_count-ne1-clause-shown
returns-then-output_count-ne1-clause-shown c =
    let t = c.args.tables.now in
    let s = c.call-item.result in
    let fails : nat_eq (answered t s.callee) 1 ≡ false =
    not_equal (answered t s.callee) 1 (λ e. c.if-output_count-ne1.true (c.output_count.ensures ∙ ap (λ (x : Site). answered t x.callee) c.call.view_is ∙ e)) in
    let h = blames_site NotOneOutput (λ s. nat_eq (answered t s.callee) 1) c.args.calls.now c.calls.call-index s c.fault.result c.calls-test.true c.call-item.is c.calls.invariant fails c.fault.ensures in
    subst (λ ss. BlamesName NotOneOutput (λ o. o ≡ first_some (λ s. unless (nat_eq (answered t s.callee) 1) s) ss) c.fault.result) c.requires h

pub returns-then-output_count-ne1-clause-fine : goal.returns-then-output_count-ne1-clause-fine
returns-then-output_count-ne1-clause-fine c =
    let t = c.args.tables.now in
    let s = c.call-item.result in
    let fails : nat_eq (answered t s.callee) 1 ≡ false =
    not_equal (answered t s.callee) 1 (λ e. c.if-output_count-ne1.true (c.output_count.ensures ∙ ap (λ (x : Site). answered t x.callee) c.call.view_is ∙ e)) in
    λ none. absurd (found_site (λ s. nat_eq (answered t s.callee) 1) c.args.calls.now c.calls.call-index s c.calls-test.true c.call-item.is c.calls.invariant fails
    (none ∙ ap (first_some (λ s. unless (nat_eq (answered t s.callee) 1) s)) (sym c.requires)))
