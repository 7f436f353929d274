use Rattle.lt_resolve.specs.declared.fault.NameKind.TheVariants.{Unknown}
use Rattle.std.proofs.Common.{refl, arith}
use Rattle.lt_resolve.proofs.Order.{passes}
use Rattle.lt_resolve.proofs.drafts.drafts.Goals as goal

pub returns-clause-passes : goal.returns-clause-passes
returns-clause-passes c = passes c.args.tables.now 0 1 (omega arith) Unknown refl c.requires.cleared c.all_drafts.result c.all_drafts.ensures.shown
