use Rattle.std.proofs.Common.{Ok, Err, ap, ◌∙◌, sym, subst}
use Rattle.std.specs.Prelude.{MatchResult}
use Rattle.lt_base.specs.Or.{ForFault}
use Rattle.lt_syntax.specs.Program.{IsSpelled}
use Rattle.lt_resolve.specs.Scopes.{functions}
use Rattle.lt_resolve.specs.Faults.{NoOtherFault}
use Rattle.lt_resolve.specs.Resolves.{Resolves}
use Rattle.lt_resolve.proofs.taking.taken_program.Goals as goal

pub named_program-program-requires-clause-spelled : goal.named_program-program-requires-clause-spelled
named_program-program-requires-clause-spelled c = subst IsSpelled (sym (c.into_vec.ensures ∙ c.t.view_is)) c.invariant_holds.ensures

pub named_program-program-requires-clause-names : goal.named_program-program-requires-clause-names
named_program-program-requires-clause-names c = c.in_ok-names.ensures ∙ ap functions (sym (c.into_vec.ensures ∙ c.t.view_is))

pub named_program-program-requires-clause-others : goal.named_program-program-requires-clause-others
named_program-program-requires-clause-others c = subst NoOtherFault (sym (c.into_vec.ensures ∙ c.t.view_is)) c.requires.others

pub returns : goal.returns
returns c = subst (λ t. MatchResult c.named_program-program.result (λ p. Resolves t (Ok p)) (λ e. ForFault e (λ f. Resolves t (Err f)))) (c.into_vec.ensures ∙ c.t.view_is) c.named_program-program.ensures
