use Rattle.lt_front.proofs.Printed.{fails}
use Rattle.lt_front.proofs.Rooms.{equations_fit, cycle_excludes}
use Rattle.lt_front.proofs.printing.order_passes.Goals as goal

pub causality-requires-clause-equations : goal.causality-requires-clause-equations
causality-requires-clause-equations c = equations_fit c.requires.tree c.args.p.now c.requires.room c.requires.resolved

pub returns-in-Err-Fault : goal.returns-in-Err-Fault
returns-in-Err-Fault c =
    let told = rw c.in-Err-Fault.field-0-is at c.in-Err-Fault.ensures in
    fails _ (λ h. cycle_excludes _ _ _ told h.0)
