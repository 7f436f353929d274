use Rattle.std.proofs.Common.{ap, ◌∙◌}
use Rattle.lt_check.specs.Innermost.{innermost}
use Rattle.lt_check.proofs.ClockLemmas.{clock_found, clock_missing}
use Rattle.lt_check.proofs.innermost.innermost_of.Goals as goal

pub returns-in-Some : goal.returns-in-Some
returns-in-Some c = c.innermost.ensures ∙ ap innermost (clock_found c.args.decls.now c.deref.result.now c.args.variable c.in-Some.decl c.deref.ensures c.in-Some.ensures.lookup)

pub returns-in-None : goal.returns-in-None
returns-in-None c = ap innermost (clock_missing c.args.decls.now c.deref.result.now c.args.variable c.deref.ensures c.in-None.ensures.lookup)
