use Rattle.lt_cli.proofs.Sinks.{printed_as}
use Rattle.lt_cli.proofs.printer.AnyPrinter.print_text.Goals as goal

pub returns-clause-prints : goal.returns-clause-prints
returns-clause-prints g c = let writes = c.write_all.ensures in printed_as _ _ c.deref.ensures _ _ c.write_all.result (record { sound = writes.keeps.sound; told = writes.keeps.told; steady = writes.sound }) writes.cause writes.taken
