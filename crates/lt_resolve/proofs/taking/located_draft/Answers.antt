use Rattle.lt_resolve.specs.declared.fault.NameKind.TheVariants.{Unknown}
use Rattle.lt_resolve.proofs.Taken.{blames_here, shows_here}
use Rattle.lt_resolve.proofs.taking.located_draft.Goals as goal

pub returns-in-Ok-clause-shown : goal.returns-in-Ok-clause-shown
returns-in-Ok-clause-shown c = shows_here Unknown c.args.place _ c.in-Ok.draft c.in-Ok.ensures.told

pub returns-in-Err-clause-shown : goal.returns-in-Err-clause-shown
returns-in-Err-clause-shown c = blames_here Unknown c.args.place _ _ _ c.locate_fault.ensures c.in-Err.ensures.told
