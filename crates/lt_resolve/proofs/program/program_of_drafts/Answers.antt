use Rattle.lt_resolve.proofs.Order.{cleared_on, all_cleared}
use Rattle.lt_resolve.proofs.Rights.{right_tree}
use Rattle.lt_resolve.proofs.Resolved.{is_resolved}
use Rattle.lt_resolve.proofs.program.program_of_drafts.Goals as goal

pub program-requires-clause-right : goal.program-requires-clause-right
program-requires-clause-right c =
    let t = c.args.tables.now in
    right_tree t c.requires.spelled (all_cleared t (cleared_on t 0 2 10 c.requires.cleared c.in_ok-check_others.ensures))

pub returns : goal.returns
returns c =
    let t = c.args.tables.now in
    is_resolved t c.in_ok-program.field-0 c.requires.spelled (all_cleared t (cleared_on t 0 2 10 c.requires.cleared c.in_ok-check_others.ensures)) c.in_ok-program.ensures
