use Rattle.std.proofs.Common.{refl}
use Rattle.lt_arch.specs.declared.placement.Placement.TheVariants.{Named}
use Rattle.lt_place.specs.Faults.{IsFirstPlaceFault}
use Rattle.lt_place.proofs.Seated.{known_are, unknown_is, unknown_fault}
use Rattle.lt_place.proofs.assign.know_all.Goals as goal

pub returns-in-Some-clause-fault : goal.returns-in-Some-clause-fault
returns-in-Some-clause-fault c once =
    unknown_fault (IsFirstPlaceFault c.args.f.now (Named c.args.named.now)) c.unknown_name.result c.in-Some.name.now c.unknown_name.ensures
    (once, unknown_is c.args.f.now c.args.named.now c.in_ok-known.known c.deref.result.now c.deref.ensures c.in_ok-known.ensures c.in-Some.name.now c.in-Some.name.now refl (c.in-Some.ensures 0))

pub returns-in-None-clause-known : goal.returns-in-None-clause-known
returns-in-None-clause-known c = known_are c.args.f.now c.args.named.now c.in_ok-known.known c.deref.result.now c.deref.ensures c.in_ok-known.ensures (c.in-None.ensures 0)
