use Rattle.std.proofs.Common.{◌≡◌, false, sym, ap, ◌∙◌, subst}
use Rattle.std.specs.Prelude.{nat_eq}
use Rattle.lt_resolve.specs.declared.fault.NameKind.TheVariants.{WrongCount}
use Rattle.lt_resolve.specs.Names.{first_some}
use Rattle.lt_resolve.specs.Uses.{Site}
use Rattle.lt_resolve.specs.Told.{BlamesName}
use Rattle.lt_resolve.specs.Faults.{unless, wanted}
use Rattle.lt_resolve.proofs.Sites.{blames_site, found_site, not_equal}
use Rattle.lt_resolve.proofs.calls.right_counts.Goals as goal

pub returns-then-call-argument_count-clause-shown : goal.returns-then-call-argument_count-clause-shown
returns-then-call-argument_count-clause-shown c =
    let t = c.args.tables.now in
    let s = c.call-item.result in
    let fails : nat_eq s.arguments (wanted t s.callee) ≡ false =
    not_equal s.arguments (wanted t s.callee) (λ e. c.if-call-argument_count.true (ap (λ (x : Site). x.arguments) c.call.view_is ∙ e ∙ ap (λ (x : Site). wanted t x.callee) (sym c.call.view_is) ∙ sym c.argument_count.ensures)) in
    let h = blames_site WrongCount (λ s. nat_eq s.arguments (wanted t s.callee)) c.args.calls.now c.calls.call-index s c.fault.result c.calls-test.true c.call-item.is c.calls.invariant fails c.fault.ensures in
    subst (λ ss. BlamesName WrongCount (λ o. o ≡ first_some (λ s. unless (nat_eq s.arguments (wanted t s.callee)) s) ss) c.fault.result) c.requires h

pub returns-then-call-argument_count-clause-fine : goal.returns-then-call-argument_count-clause-fine
returns-then-call-argument_count-clause-fine c =
    let t = c.args.tables.now in
    let s = c.call-item.result in
    let fails : nat_eq s.arguments (wanted t s.callee) ≡ false =
    not_equal s.arguments (wanted t s.callee) (λ e. c.if-call-argument_count.true (ap (λ (x : Site). x.arguments) c.call.view_is ∙ e ∙ ap (λ (x : Site). wanted t x.callee) (sym c.call.view_is) ∙ sym c.argument_count.ensures)) in
    λ none. absurd (found_site (λ s. nat_eq s.arguments (wanted t s.callee)) c.args.calls.now c.calls.call-index s c.calls-test.true c.call-item.is c.calls.invariant fails
    (none ∙ ap (first_some (λ s. unless (nat_eq s.arguments (wanted t s.callee)) s)) (sym c.requires)))
