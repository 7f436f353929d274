use Rattle.std.proofs.Common.{◌≡◌, None, [], sym, subst}
use Rattle.lt_resolve.specs.Names.{repeated_name}
use Rattle.lt_resolve.proofs.Taken.{functions_apart}
use Rattle.lt_resolve.proofs.taking.named_program.Goals as goal

pub table_of-requires : goal.table_of-requires
table_of-requires c = subst (λ ns. repeated_name [] ns ≡ None) (sym c.requires.names) (functions_apart c.args.nodes.items c.requires.others)
